-- Where the pass over the positions begins.
-- Law: going_start (sets_core/proofs/Pass.antt)
use Rattle.std.specs.Prelude.{ℕ, Bool, cond}
use Rattle.bits.specs.Bit.{add_bit}

-- the start, if it derives all tokens
abbrev pub start_set : Bool → ℕ → ℕ
start_set derives start = cond derives (add_bit 0 start) 0
