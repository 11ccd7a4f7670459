-- `finished_of`. The invariant: the set is the union of those of the first k words that are asked for.
use mathlib.Core.Path.{◌≡◌}
use Rattle.pair_states.specs.Finished.{finished_of}
use Rattle.pair_states.proofs.finished_of.Given as goal

abbrev pub invariant-loop-k : goal.invariant-loop-k
invariant-loop-k l = l.set ≡ finished_of l.words l.empties l.k
