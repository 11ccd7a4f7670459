-- `walk` meets its contract.
use native.Mathlib.Omega.{arith}
use Rattle.rule_set.proofs.Ends.{only_end}
use Rattle.rule_set.proofs.walk.Goals as goal

pub returns-in-End : goal.returns-in-End
returns-in-End g c =
    c.ends_walk.ensures c.args.context (rw c.ends.ensures (only_end c.args.grammar.now.indexed c.args.context (rw c.in-End.is (omega arith))))
