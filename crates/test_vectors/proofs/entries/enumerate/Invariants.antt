use Rattle.std.proofs.Common.{◌+◌, ◌≤◌, length, ◌≡◌}
use Rattle.std.specs.Slice.Iter.{chunks_exact_mut_rest, chunks_exact_mut_size}
use Rattle.test_vectors.proofs.entries.enumerate.Given as goal

abbrev pub invariant-loop-entry : goal.invariant-loop-entry
invariant-loop-entry l =
    (l.end + length (chunks_exact_mut_rest l.entry-iterator) ≤ length l.fn.list) × (chunks_exact_mut_size l.entry-iterator ≡ l.size)
