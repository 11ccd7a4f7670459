-- `class_row`: before rule r those of the class below it are added.
use native.Mathlib.Omega.{arith}
use mathlib.Core.Path.{refl, sym, ◌∙◌}
use mathlib.Core.Logic.{inl, inr}
use Rattle.laws.proofs.Bools.{both}
use Rattle.tables.specs.Table.{rule_in}
use Rattle.rule_index.proofs.Walk.{along}
use Rattle.contexts.specs.Context.{code}
use Rattle.contexts.proofs.Forms.{class_kind}
use Rattle.count_rows.specs.Rows.{allowed_by}
use Rattle.count_rows.proofs.Row.{second_fails, overs_kept, row_first, row_over, row_turn}
use Rattle.count_rows.proofs.class_row.Goals as goal
use Rattle.count_rows.proofs.class_row.Goals.{else-allowed-via-then-allowed+else-takes, else-allowed-via-else-allowed}

pub loop-r-init : goal.loop-r-init
loop-r-init c =
    along (row_over c.args.grammar.now.head.well c.args.grammar.now.table.now (allowed_by c.args.alone c.args.context.position) c.args.context c.args.rows.now c.args.context.position c.args.context.closing c.requires.kind) 0 (omega arith) (c.into_iter-r-iterator.ensures.into_iter_gives ∙ c.rules_here-r-items.ensures)
    (row_first c.args.grammar.now.head.well c.args.grammar.now.table.now (allowed_by c.args.alone c.args.context.position) c.args.context c.args.rows.now c.args.context.position c.args.context.closing c.requires.empty.none)

pub takes-requires : goal.takes-requires
takes-requires c =
    let w = c.loop-r.invariant.turn _ _ c.in-Some.ensures.steps in
    (w.below, class_kind (rule_in c.args.grammar.now.table.now c.in-Some.r) (code c.args.context.kind) c.args.context.name (omega (arith, c.requires.kind)) w.of_class)

pub add_parts-requires-clause-r_bound : goal.add_parts-requires-clause-r_bound
add_parts-requires-clause-r_bound c =
    let w = c.loop-r.invariant.turn _ _ c.in-Some.ensures.steps in
    (omega (arith, w.below, c.args.grammar.now.indexed.ready.few), c.args.grammar.now.indexed.ready.small _ w.below)

pub add_parts-requires-clause-position_bound : goal.add_parts-requires-clause-position_bound
add_parts-requires-clause-position_bound c =
    let w = c.loop-r.invariant.turn _ _ c.in-Some.ensures.steps in
    (omega (arith, c.requires.empty.near, c.requires.empty.far), c.requires.empty.far, overs_kept c.requires.empty.near c.overs_behind-overs.ensures w.held)

pub loop-r-preserved-then-takes : goal.loop-r-preserved-then-takes
loop-r-preserved-then-takes c =
    let w = c.loop-r.invariant.turn _ _ c.in-Some.ensures.steps in
    along (row_over c.args.grammar.now.head.well c.args.grammar.now.table.now (allowed_by c.args.alone c.args.context.position) c.args.context c.args.rows.now c.args.context.position c.args.context.closing c.requires.kind) _ w.below w.rest (row_turn c.args.grammar.now.head.well c.args.grammar.now.table.now (allowed_by c.args.alone c.args.context.position) c.args.context c.args.rows.now c.args.context.position c.args.context.closing c.in-Some.r (λ e. omega (arith, e, c.requires.empty.near)) (c.args.grammar.now.indexed.ready.small _ w.below) w.held
    (inl (both (sym c.if-allowed.ensures) (sym c.if-takes.ensures), c.add_parts.ensures)))

pub loop-r-preserved : goal.loop-r-preserved
loop-r-preserved c =
    let w = c.loop-r.invariant.turn _ _ c.in-Some.ensures.steps in
    along (row_over c.args.grammar.now.head.well c.args.grammar.now.table.now (allowed_by c.args.alone c.args.context.position) c.args.context c.args.rows.now c.args.context.position c.args.context.closing c.requires.kind) _ w.below w.rest (row_turn c.args.grammar.now.head.well c.args.grammar.now.table.now (allowed_by c.args.alone c.args.context.position) c.args.context c.args.rows.now c.args.context.position c.args.context.closing c.in-Some.r (λ e. omega (arith, e, c.requires.empty.near)) (c.args.grammar.now.indexed.ready.small _ w.below) w.held
    (inr (
      elim c.else-allowed.branch [
        | else-allowed-via-then-allowed+else-takes v ↦ second_fails (sym v.if-allowed.ensures) (sym v.if-takes.ensures)
        | else-allowed-via-else-allowed v ↦ rw (← v.if-allowed.ensures) refl
      ],
      refl,
    )))

pub returns : goal.returns
returns c =
    c.loop-r.invariant.ended c.in-None.ensures.steps.0
