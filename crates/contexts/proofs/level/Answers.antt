-- `contexts::level` meets its contract.
use native.Mathlib.Omega.{arith}
use mathlib.Core.Path.{◌∙◌}
use Rattle.tables.specs.Table.{rule_in}
use Rattle.rule_index.proofs.Walk.{along}
use Rattle.contexts.specs.Context.{code}
use Rattle.contexts.proofs.Ends.{sofar_over, sofar_whole, sofar_start, sofar_with}
use Rattle.contexts.proofs.Forms.{class_kind}
use Rattle.contexts.proofs.level.Goals as goal

pub loop-r-init : goal.loop-r-init
loop-r-init c =
    along (sofar_over c.args.grammar.now.table.now c.args.grammar.now.head c.args.context c.args.grammar.now.indexed c.requires c.base_of-set.result) 0 (omega arith) (c.into_iter-r-iterator.ensures.into_iter_gives ∙ c.rules_here-r-items.ensures)
    (λ L. sofar_start c.args.grammar.now.table.now c.args.grammar.now.head c.args.context c.args.grammar.now.indexed c.requires c.base_of-set.result L c.base_of-set.ensures)

pub with_left-set-requires : goal.with_left-set-requires
with_left-set-requires c =
    let w = c.loop-r.invariant.turn _ _ c.in-Some.ensures.steps in
    (w.below, class_kind (rule_in c.args.grammar.now.table.now c.in-Some.r) (code c.args.context.kind) c.args.context.name c.requires w.of_class)

pub loop-r-preserved : goal.loop-r-preserved
loop-r-preserved c =
    let w = c.loop-r.invariant.turn _ _ c.in-Some.ensures.steps in
    along (sofar_over c.args.grammar.now.table.now c.args.grammar.now.head c.args.context c.args.grammar.now.indexed c.requires c.with_left-set.result) _ w.below w.rest (λ L. rw c.with_left-set.ensures (sofar_with c.args.grammar.now.table.now c.args.grammar.now.head c.args.context c.args.grammar.now.indexed c.requires c.loop-r.set c.in-Some.r L (w.held L)))

pub returns : goal.returns
returns c =
    sofar_whole c.args.grammar.now.table.now c.args.grammar.now.head c.args.context c.args.grammar.now.indexed c.requires c.loop-r.set
    (c.loop-r.invariant.ended c.in-None.ensures.steps.0)
