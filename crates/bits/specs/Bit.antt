-- Sets of numbers as binary digits, of any width: b is in the set m where digit b of m, worth 2 ^ b, is 1.
-- Law: bit-zero, bit-add (bits/proofs/Bits.antt)
use Rattle.std.specs.Prelude.{ℕ, ◌/◌, ◌%◌, ◌^◌, Bool, eqb}
use Rattle.std.specs.Int.Bits.{bit_or}

-- is digit b of m 1
abbrev pub bit : ℕ → ℕ → Bool
bit m b = eqb (m / 2 ^ b % 2) 1

-- m with digit b set to 1
abbrev pub add_bit : ℕ → ℕ → ℕ
add_bit m b = bit_or m (2 ^ b)
