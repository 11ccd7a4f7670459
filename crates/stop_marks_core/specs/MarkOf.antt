-- The stop mark of a configuration.
-- Law: mark-accepts (stop_marks_core/proofs/Accepting.antt)
use Rattle.std.specs.Prelude.{ℕ, cond, ◌&&◌, List, eqb, leb}
use Rattle.bits.specs.Bit.{bit}
use Rattle.sets_theory.specs.believed.Sets.{one}
use Rattle.tables.specs.declared.Head.{Head}
use Rattle.pair_states.specs.Finished.{finished_of, may_end}

-- d opens are unmatched: the level of some context may be finished; where d isn't 0, that of the start, which no step's close is due behind
abbrev pub mark_of : ℕ → List ℕ → ℕ → Head → ℕ
mark_of d rows empties head = one (cond (eqb d 0) (may_end rows empties) (leb head.well head.start && bit (finished_of rows empties 32) head.start))
