use Rattle.std.proofs.Common.{◌+◌, ◌≤◌}
use Rattle.test_enumerator.proofs.search.Search.open_before.Given as goal

abbrev pub invariant-loop-i : goal.invariant-loop-i
invariant-loop-i l = l.closed + l.i ≤ l.p
