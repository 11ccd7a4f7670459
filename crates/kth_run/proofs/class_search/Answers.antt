-- `class_search`: before rule r those below it are passed.
use native.Mathlib.Omega.{arith}
use mathlib.Core.Path.{sym, ◌∙◌}
use borrow.Author.Tests.{ltb-true, ltb-false}
use Rattle.capped.specs.Capped.{value}
use Rattle.tables.specs.Table.{rule_in}
use Rattle.rule_index.proofs.Walk.{along}
use Rattle.contexts.specs.Context.{code}
use Rattle.contexts.proofs.Forms.{class_kind}
use Rattle.moves.proofs.Walking.{no_end}
use Rattle.kth_run.proofs.Sizes.{pass_over, pass_none, pass_some, located, not_located}
use Rattle.kth_run.proofs.class_search.Goals as goal

pub loop-rule-init : goal.loop-rule-init
loop-rule-init c = along (pass_over c.args.grammar.now.table.now c.args.grammar.now.head c.args.sought c.args.context c.args.rows.now c.requires.may_end) 0 (omega arith) (c.into_iter-rule-iterator.ensures.into_iter_gives ∙ c.rules_here-rule-items.ensures) (record { skipped = omega arith })

pub takes-requires : goal.takes-requires
takes-requires c =
    let w = c.loop-rule.invariant.turn _ _ c.in-Some.ensures.steps in
    (w.below, class_kind (rule_in c.args.grammar.now.table.now c.in-Some.rule) (code c.args.context.kind) c.args.context.name (no_end c.args.grammar.now.table.now c.args.grammar.now.head c.args.sought.nonterminal c.args.context c.requires.may_end) w.of_class)

pub size_of-size-requires : goal.size_of-size-requires
size_of-size-requires c =
    let w = c.loop-rule.invariant.turn _ _ c.in-Some.ensures.steps in
    record { r_bound = (omega (arith, w.below, c.args.grammar.now.indexed.ready.few), c.args.grammar.now.indexed.ready.small _ w.below); position_bound = c.requires.position_bound }

pub returns-then-is_below : goal.returns-then-is_below
returns-then-is_below c _ =
    let w = c.loop-rule.invariant.turn _ _ c.in-Some.ensures.steps in
    located c.args.grammar.now.table.now c.args.grammar.now.head c.args.sought c.args.context c.args.rows.now c.in-Some.rule (value c.size_of-size.result) w.below (sym c.takes.ensures ∙ c.if-takes.true) c.size_of-size.ensures (ltb-true _ _ (sym c.is_below.ensures ∙ c.if-is_below.true)) w.held

pub loop-rule-preserved-then-takes : goal.loop-rule-preserved-then-takes
loop-rule-preserved-then-takes c =
    let w = c.loop-rule.invariant.turn _ _ c.in-Some.ensures.steps in
    along (pass_over c.args.grammar.now.table.now c.args.grammar.now.head c.args.sought c.args.context c.args.rows.now c.requires.may_end) _ w.below w.rest (rw c.minus-number.ensures (pass_some c.args.grammar.now.table.now c.args.grammar.now.head c.args.sought c.args.context c.args.rows.now c.in-Some.rule (value c.size_of-size.result) (sym c.takes.ensures ∙ c.if-takes.true) c.size_of-size.ensures (ltb-false _ _ (sym c.is_below.ensures ∙ c.if-is_below.false)) w.held))

pub loop-rule-preserved : goal.loop-rule-preserved
loop-rule-preserved c =
    let w = c.loop-rule.invariant.turn _ _ c.in-Some.ensures.steps in
    along (pass_over c.args.grammar.now.table.now c.args.grammar.now.head c.args.sought c.args.context c.args.rows.now c.requires.may_end) _ w.below w.rest (pass_none c.args.grammar.now.table.now c.args.grammar.now.head c.args.sought c.args.context c.args.rows.now c.in-Some.rule (sym c.takes.ensures ∙ c.if-takes.false) w.held)

pub returns : goal.returns
returns c few =
    absurd (not_located c.args.grammar.now.table.now c.args.grammar.now.head c.args.sought c.args.context c.args.rows.now c.args.grammar.now.head.rules (c.loop-rule.invariant.ended c.in-None.ensures.steps.0) few)
