-- `calls::run_calls` meets its contract.
use Prim.Native.Nat.{◌-◌}
use lib.ListN.{length}
use Rattle.calls.proofs.Lists.{Calling}
use Rattle.calls.proofs.run_calls.Given as goal

abbrev pub invariant-loop-i : goal.invariant-loop-i
invariant-loop-i l = Calling l.grammar l.history l.calls l.initial.answers l.initial.buffer l.answers l.buffer l.i
