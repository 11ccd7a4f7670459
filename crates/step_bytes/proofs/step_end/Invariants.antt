-- `step_bytes::step_end` meets its contract.
use Prim.Native.Nat.{◌≤◌}
use Rattle.step_bytes.proofs.Loops.{Searched}
use Rattle.step_bytes.proofs.step_end.Given as goal

abbrev pub invariant-loop-i : goal.invariant-loop-i
invariant-loop-i l = (l.depth ≤ l.i) × Searched l.tokens l.depth l.i
