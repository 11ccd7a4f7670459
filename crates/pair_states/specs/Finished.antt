-- The contexts whose level may be finished, as the digits of a word.
-- Law: finished_members, finished-some (pair_states/proofs/Finished.antt)
use Rattle.std.specs.Prelude.{ℕ, zero, suc, Bool, cond, List, get_or}
use Rattle.std.specs.Int.Bits.{bit_or}
use Rattle.bits.specs.Bit.{bit}
use Rattle.laws.specs.Any.{any_below}

-- the contexts in which a nonterminal below n that may end is current; empties: the nonterminals that have an empty rule
unfoldable pub finished_of : List ℕ → ℕ → ℕ → ℕ
finished_of words empties zero = 0
finished_of words empties (suc n) = cond (bit empties n) (bit_or (finished_of words empties n) (get_or words n 0)) (finished_of words empties n)

-- some context may be finished
abbrev pub may_end : List ℕ → ℕ → Bool
may_end words empties = any_below 32 (bit (finished_of words empties 32))
