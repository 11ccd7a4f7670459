-- `rule_index::add_rules` meets its contract.
use Prim.Native.Nat.{◌+◌, ◌-◌}
use native.Mathlib.Omega.{arith}
use mathlib.Core.Path.{◌≡◌, refl}
use Rattle.tables.specs.Table.{rule_in}
use Rattle.rule_index.proofs.Classes.{rule_class_small}
use Rattle.rule_index.proofs.Building.{linked-same, index_linked}
use Rattle.rule_index.proofs.Kept.{same_on, ready_kept}
use Rattle.rule_index.proofs.add_rules.Goals as goal

pub add_rule-requires : goal.add_rule-requires
add_rule-requires c =
    let k = ready_kept _ c.loop-r.table c.loop-r.invariant.0.rules _ c.requires.1 in
    (omega (arith, k.few), (k.small _ (omega arith)).0)

pub loop-r-preserved : goal.loop-r-preserved
loop-r-preserved c =
    let r = c.loop-r.r - 1 in
    let k = ready_kept _ c.loop-r.table c.loop-r.invariant.0.rules _ c.requires.1 in
    let size = c.loop-r.invariant.0.size in
    let e : r + 1 ≡ c.loop-r.r = omega arith in (
      rw c.add_rule.ensures (same_on c.loop-r.invariant.0 (linked-same c.loop-r.table _ _ size)),
      rw c.add_rule.ensures
          (index_linked c.loop-r.table _ r _ size k.few (omega arith) refl (rule_class_small (rule_in c.loop-r.table r) (k.small r (omega arith)).0) (rw e c.loop-r.invariant.1)),
    )
