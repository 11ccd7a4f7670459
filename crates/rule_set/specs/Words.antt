-- Sets of numbers as words of W digits each, for every W: number r is digit r % W of word r / W.
-- Law: held_word (rule_set/proofs/Words.antt)
use Rattle.std.specs.Prelude.{ℕ, ◌/◌, ◌%◌, ◌^◌, ◌<◌, ◌≡◌, Bool, ◌&&◌, List, ltb, get_or, set}
use Rattle.bits.specs.Bit.{bit, add_bit}

-- is r in the set
abbrev pub bit_in : ℕ → List ℕ → ℕ → Bool
bit_in W ws r = bit (get_or ws (r / W) 0) (r % W)

-- the set with r
abbrev pub add_in : ℕ → List ℕ → ℕ → List ℕ
add_in W ws r = set ws (r / W) (add_bit (get_or ws (r / W) 0) (r % W))

-- ws has exactly those of the numbers below n that pass a test, and no word is too large
pub record Held (W n : ℕ) (f : ℕ → Bool) (ws : List ℕ) : Type 0 where
  pub small : (k : ℕ) → get_or ws k 0 < 2 ^ W
  pub digits : (r : ℕ) → bit_in W ws r ≡ (ltb r n && f r)
