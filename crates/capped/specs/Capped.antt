-- Numbers up to 2^64 - 1 as they are; 2^64 stands for every greater one.
-- Law: cap-mul, cap-lt (capped/proofs/Capped.antt)
use Rattle.std.specs.Prelude.{ℕ, min, Option, Some, None}

-- 2^64, which stands for all numbers that are over
abbrev pub limit : ℕ
limit = 18446744073709551616

abbrev pub cap : ℕ → ℕ
cap n = min n limit

-- the number that a count stands for
abbrev pub value : Option ℕ → ℕ
value (Some n) = n
value None = limit
