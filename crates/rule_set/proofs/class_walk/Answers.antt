-- `class_walk`: on the way through the class of the token, up to rule r the ways and the words are those of the first r rules.
use mathlib.Core.Path.{sym, ◌∙◌}
use native.Mathlib.Omega.{arith}
use Rattle.tables.specs.Table.{rule_in}
use Rattle.rule_index.proofs.Walk.{along}
use Rattle.contexts.proofs.Forms.{class_kind}
use Rattle.contexts.specs.Context.{code}
use Rattle.rule_set.proofs.Walked.{walked_none, walked_few, walked_over, walked_turn}
use Rattle.rule_set.proofs.class_walk.Goals as goal
use Rattle.rule_set.proofs.class_walk.Goals.{then-left_here, else-left_here}

pub loop-r-init : goal.loop-r-init
loop-r-init g c =
    along (λ k n f w. walked_over c.args.grammar.now.indexed w c.requires.kind f) 0 (omega arith) (c.into_iter-r-iterator.ensures.into_iter_gives ∙ c.rules_here-r-items.ensures)
    (walked_none c.args.grammar.now.indexed {ways = c.default-ways.result} c.default-ways.ensures c.requires.none_yet)

pub left_here-requires : goal.left_here-requires
left_here-requires g c =
    let w = c.loop-r.invariant.turn _ _ c.in-Some.ensures.steps in
    (omega (arith, w.below, c.args.grammar.now.indexed.ready.few), c.args.grammar.now.indexed.ready.small _ w.below)

pub takes-kept-requires : goal.takes-kept-requires
takes-kept-requires g c =
    let w = c.loop-r.invariant.turn _ _ c.in-Some.ensures.steps in
    (w.below, class_kind (rule_in c.args.grammar.now.table.now c.in-Some.r) (code c.args.context.kind) c.args.context.name (omega (arith, c.requires.kind)) w.of_class)

pub turn-ways-requires-clause-r_bound : goal.turn-ways-requires-clause-r_bound
turn-ways-requires-clause-r_bound g c =
    let w = c.loop-r.invariant.turn _ _ c.in-Some.ensures.steps in
    (omega (arith, w.below, c.args.grammar.now.indexed.ready.few), c.args.grammar.now.indexed.ready.small _ w.below)

pub turn-ways-requires-clause-sum_bound : goal.turn-ways-requires-clause-sum_bound
turn-ways-requires-clause-sum_bound g c =
    let w = c.loop-r.invariant.turn _ _ c.in-Some.ensures.steps in
    walked_few c.args.grammar.now.indexed w.held (omega (arith, w.below))

pub loop-r-preserved : goal.loop-r-preserved
loop-r-preserved g c =
    let w = c.loop-r.invariant.turn _ _ c.in-Some.ensures.steps in
    along (λ k n f w. walked_over c.args.grammar.now.indexed w c.requires.kind f) _ w.below w.rest (walked_turn c.args.grammar.now.indexed w.held
    (elim c.if-left_here.branch [
      | then-left_here w ↦ w.kept-is ∙ w.takes-kept.ensures ∙ rw (sym c.left_here.ensures ∙ w.if-left_here.true)
      | else-left_here w ↦ w.kept-is ∙ w.if-left_here.false ∙ rw (sym c.left_here.ensures ∙ w.if-left_here.false)
    ])
    c.turn-ways.ensures.0 c.turn-ways.ensures.1)

pub returns : goal.returns
returns g c =
    let w = c.loop-r.invariant.ended c.in-None.ensures.steps.0 in
    (w.ways-so, w.words-so)
