-- `moves::smallest` meets its contract.
use native.Mathlib.Omega.{arith}
use mathlib.Core.Path.{◌≡◌, sym, ◌∙◌}
use mathlib.Core.Bool.{false}
use Rattle.tables.specs.Table.{rule_in}
use Rattle.rule_index.proofs.Walk.{along}
use Rattle.contexts.specs.Context.{code}
use Rattle.contexts.proofs.Forms.{class_kind}
use Rattle.moves.specs.Moves.{rule_fits}
use Rattle.moves.proofs.Walking.{below_more, none_over, no_end, empty_smallest}
use Rattle.moves.proofs.smallest.Goals as goal

pub returns-then-may_end : goal.returns-then-may_end
returns-then-may_end c =
    empty_smallest c.args.grammar.now.table.now c.args.grammar.now.head c.args.nonterminal c.args.context c.empty_rule.result (sym c.may_end.ensures ∙ c.if-may_end.true) c.empty_rule.ensures

pub loop-r-init : goal.loop-r-init
loop-r-init c = along (none_over c.args.grammar.now.table.now c.args.grammar.now.head c.args.nonterminal c.args.context (sym c.may_end.ensures ∙ c.if-may_end.false)) 0 (omega arith) (c.into_iter-r-iterator.ensures.into_iter_gives ∙ c.rules_here-r-items.ensures) (λ q l. absurd (omega arith))

pub takes-requires : goal.takes-requires
takes-requires c =
    let not_end = sym c.may_end.ensures ∙ c.if-may_end.false in
    let w = c.loop-r.invariant.turn _ _ c.in-Some.ensures.steps in
    (w.below, class_kind (rule_in c.args.grammar.now.table.now c.in-Some.r) (code c.args.context.kind) c.args.context.name (no_end c.args.grammar.now.table.now c.args.grammar.now.head c.args.nonterminal c.args.context not_end) w.of_class)

pub returns-then-takes : goal.returns-then-takes
returns-then-takes c =
    let w = c.loop-r.invariant.turn _ _ c.in-Some.ensures.steps in
    record { most = omega (arith, w.below); found = λ l. sym c.takes.ensures ∙ c.if-takes.true; least = w.held }

pub loop-r-preserved : goal.loop-r-preserved
loop-r-preserved c =
    let w = c.loop-r.invariant.turn _ _ c.in-Some.ensures.steps in
    along (none_over c.args.grammar.now.table.now c.args.grammar.now.head c.args.nonterminal c.args.context (sym c.may_end.ensures ∙ c.if-may_end.false)) _ w.below w.rest (below_more (λ q. rule_fits c.args.grammar.now.head.well (rule_in c.args.grammar.now.table.now q) c.args.nonterminal c.args.context ≡ false) c.in-Some.r w.held (sym c.takes.ensures ∙ c.if-takes.false))

pub returns : goal.returns
returns c =
    let least = c.loop-r.invariant.ended c.in-None.ensures.steps.0 in
    record { most = omega arith; found = λ l. absurd (omega arith); least = least }
