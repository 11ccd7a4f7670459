-- `rows_of`: before position i the pass stands where `Passing` says.
use Prim.Native.Nat.{suc, ◌-◌}
use native.Mathlib.Omega.{arith}
use mathlib.Core.Path.{◌≡◌}
use Rattle.count_rows.proofs.Pass.{here_empty, passing_next}
use Rattle.count_rows.proofs.rows_of.Goals as goal

pub fill_row-requires : goal.fill_row-requires
fill_row-requires c =
    let e : c.loop-i.i ≡ suc (c.loop-i.i - 1) = omega (arith, c.loop-i-test.true) in
    here_empty c.args.input.now.setting _ c.loop-i.invariant (c.loop-i.i - 1) e c.context_at.result (c.context_at.ensures c.args.input.now.grammar.head.well)

pub loop-i-preserved : goal.loop-i-preserved
loop-i-preserved c =
    let e : c.loop-i.i ≡ suc (c.loop-i.i - 1) = omega (arith, c.loop-i-test.true) in
    passing_next c.args.input.now.setting _ c.loop-i.invariant (c.loop-i.i - 1) e c.context_at.result (c.context_at.ensures c.args.input.now.grammar.head.well) _ c.fill_row.ensures
