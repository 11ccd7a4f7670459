-- `all_row`: before rule r those below it are added.
use native.Mathlib.Numerals.{add-one}
use native.Mathlib.Omega.{arith}
use mathlib.Core.Path.{refl, sym}
use mathlib.Core.Logic.{inl, inr}
use Rattle.laws.proofs.Bools.{both}
use Rattle.count_rows.specs.Rows.{allowed_by, row_in}
use Rattle.count_rows.proofs.Row.{second_fails, row_none, row_turn}
use Rattle.count_rows.proofs.all_row.Goals as goal
use Rattle.count_rows.proofs.all_row.Goals.{then-allowed+then-applies, else-allowed, else-allowed-via-then-allowed+else-applies, else-allowed-via-else-allowed}

pub loop-r-init : goal.loop-r-init
unfolding row_in
loop-r-init c =
    row_none c.args.rows.now c.args.context.position _ c.requires.none (λ M. refl)

pub loop-r-preserved : goal.loop-r-preserved
loop-r-preserved c =
    rw (add-one c.loop-r.r)
    (row_turn c.args.grammar.now.head.well c.args.grammar.now.table.now (allowed_by c.args.alone c.args.context.position) c.args.context c.args.rows.now c.args.context.position c.args.context.closing c.loop-r.r (λ e. omega (arith, e, c.requires.near)) (c.args.grammar.now.indexed.ready.small _ c.loop-r-test.true) c.loop-r.invariant
    (elim c.if-allowed.branch [
      | then-allowed+then-applies w ↦ rw w.rows-is (inl (both (sym w.if-allowed.ensures) (sym w.if-applies.ensures), w.add_parts.ensures))
      | else-allowed w ↦ rw w.rows-is (inr (
        elim w.else-allowed.branch [
          | else-allowed-via-then-allowed+else-applies v ↦ second_fails (sym v.if-allowed.ensures) (sym v.if-applies.ensures)
          | else-allowed-via-else-allowed v ↦ rw (← v.if-allowed.ensures) refl
        ],
        refl,
      ))
    ]))
