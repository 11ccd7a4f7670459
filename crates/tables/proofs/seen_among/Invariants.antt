-- `tables::seen_among` meets its contract.
use mathlib.Core.Path.{◌≡◌}
use Rattle.tables.specs.Table.{earlier, rules_in}
use Rattle.tables.proofs.seen_among.Given as goal

abbrev pub invariant-loop-j : goal.invariant-loop-j
invariant-loop-j l = earlier l.fn.rule (rules_in l.table l.n) ≡ earlier l.fn.rule (rules_in l.table l.j)
