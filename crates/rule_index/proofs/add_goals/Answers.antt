-- `rule_index::add_goals` meets its contract.
use Prim.Native.Nat.{◌<◌}
use native.Mathlib.Omega.{arith}
use native.Mathlib.Numerals.{add-one}
use mathlib.Core.Path.{refl}
use Rattle.tables.specs.Table.{rule_in}
use Rattle.rule_index.specs.Goals.{inside_goal, after_goal}
use Rattle.rule_index.specs.Building.{with_goals}
use Rattle.rule_index.proofs.Building.{index_kept}
use Rattle.rule_index.proofs.Goals.{goals_same, goals_more}
use Rattle.rule_index.proofs.Kept.{same_on, ready_kept}
use Rattle.rule_index.proofs.add_goals.Goals as goal

pub put_goals-requires : goal.put_goals-requires
put_goals-requires c =
    let k = ready_kept _ c.loop-r.table c.loop-r.invariant.0.rules _ c.requires.1 in
    (omega (arith, k.few), k.small _ c.loop-r-test.true)

pub loop-r-preserved : goal.loop-r-preserved
loop-r-preserved c =
    let t = c.loop-r.table in
    let size = c.loop-r.invariant.0.size in
    let k = ready_kept _ t c.loop-r.invariant.0.rules _ c.requires.1 in
    let small : c.loop-r.r < 128 = omega (arith, k.few) in
    let x = inside_goal c.args.head.well (rule_in t c.loop-r.r) in
    let y = after_goal c.args.head.well (rule_in t c.loop-r.r) in
    rw c.put_goals.ensures
    (same_on c.loop-r.invariant.0 (goals_same t size c.loop-r.r x y small), index_kept t (with_goals t c.loop-r.r x y) refl refl refl c.args.head.rules 0 c.loop-r.invariant.1, rw add-one (goals_more t size c.loop-r.r x y small c.args.head refl refl c.loop-r.invariant.2))
