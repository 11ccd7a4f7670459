-- `close_walk` meets its contract.
use mathlib.Core.Path.{refl}
use native.Mathlib.Omega.{arith}
use Rattle.rule_index.specs.Classes.{class_at}
use Rattle.rule_index.proofs.Walk.{starts}
use Rattle.contexts.specs.Context.{token_here}
use Rattle.rule_set.proofs.Ends.{only_close}
use Rattle.rule_set.proofs.close_walk.Goals as goal

pub returns : goal.returns
returns g c =
    let x = c.args.grammar.now.indexed in
    let f = starts x (token_here c.args.context) (class_at (token_here c.args.context)) c.first_here.result refl c.first_here.ensures in
    c.ends_walk.ensures c.args.context (rw c.low_ends.ensures (only_close x c.args.context (rw c.requires.kind (omega arith)) (rw c.requires.kind (omega arith)) f c.if-first_here-grammar.false))
