-- `all_walk`: up to rule r the ways and the words are those of the first r rules.
use mathlib.Core.Bool.{true, not}
use mathlib.Core.Path.{◌≡◌}
use lib.Dec.{eqb}
use Rattle.rule_set.proofs.Walked.{Walked}
use Rattle.rule_set.proofs.all_walk.Given as goal

abbrev pub invariant-loop-r : goal.invariant-loop-r
invariant-loop-r g l = Walked l.grammar.table.now l.grammar.head l.here l.context (not (eqb g.row.WRITE 0) ≡ true) l.r l.ways l.words
