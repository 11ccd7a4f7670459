-- `class_walk`: on the way through the class of the token, up to rule r the ways and the words are those of the first r rules.
use mathlib.Core.Bool.{true, not}
use mathlib.Core.Path.{◌≡◌}
use lib.Dec.{eqb}
use Rattle.rule_index.specs.Classes.{class_at}
use Rattle.rule_index.proofs.Walk.{Along}
use Rattle.contexts.specs.Context.{token_here}
use Rattle.rule_set.proofs.Walked.{Walked}
use Rattle.rule_set.proofs.class_walk.Given as goal

abbrev pub invariant-loop-r : goal.invariant-loop-r
invariant-loop-r g l =
    Along l.grammar.table.now l.grammar.head.rules (class_at (token_here l.context))
    (λ n. Walked l.grammar.table.now l.grammar.head l.here l.context (not (eqb g.row.WRITE 0) ≡ true) n l.ways l.words) l.r-iterator
