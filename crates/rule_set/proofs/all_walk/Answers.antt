-- `all_walk`: up to rule r the ways and the words are those of the first r rules.
use mathlib.Core.Path.{sym, ◌∙◌}
use native.Mathlib.Numerals.{add-one}
use native.Mathlib.Omega.{arith}
use Rattle.rule_set.proofs.Walked.{walked_none, walked_few, walked_turn}
use Rattle.rule_set.proofs.all_walk.Goals as goal
use Rattle.rule_set.proofs.all_walk.Goals.{then-left_here, else-left_here}

pub loop-r-init : goal.loop-r-init
loop-r-init g c =
    walked_none c.args.grammar.now.indexed {ways = c.default-ways.result} c.default-ways.ensures c.requires.none_yet

pub turn-ways-requires-clause-sum_bound : goal.turn-ways-requires-clause-sum_bound
turn-ways-requires-clause-sum_bound g c =
    walked_few c.args.grammar.now.indexed c.loop-r.invariant (omega arith)

pub loop-r-preserved : goal.loop-r-preserved
loop-r-preserved g c = rw add-one (walked_turn c.args.grammar.now.indexed c.loop-r.invariant
    (elim c.if-left_here.branch [
      | then-left_here w ↦ w.kept-is ∙ w.applies-kept.ensures ∙ rw (sym c.left_here.ensures ∙ w.if-left_here.true)
      | else-left_here w ↦ w.kept-is ∙ w.if-left_here.false ∙ rw (sym c.left_here.ensures ∙ w.if-left_here.false)
    ])
    c.turn-ways.ensures.0 c.turn-ways.ensures.1)
