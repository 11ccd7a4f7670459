-- `close_row`: no rule is of the close's class, or all are looked at.
use mathlib.Core.Path.{refl}
use native.Mathlib.Omega.{arith}
use Rattle.rule_index.proofs.Walk.{starts}
use Rattle.contexts.specs.Context.{token_here}
use Rattle.count_rows.proofs.Ends.{only_close}
use Rattle.count_rows.proofs.close_row.Goals as goal

pub returns-else-first_here-grammar : goal.returns-else-first_here-grammar
returns-else-first_here-grammar c =
    let first = starts c.args.grammar.now.indexed (token_here c.args.context) _ c.first_here.result refl c.first_here.ensures in
    c.ends_row.ensures (only_close c.args.grammar.now.indexed c.args.context (rw c.requires.kind (omega arith)) (rw c.requires.kind (omega arith)) first c.if-first_here-grammar.false)
