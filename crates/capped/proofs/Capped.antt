-- Capped sums and products, and what a search by number sees of a capped number.
use Prim.Native.Nat.{ℕ, zero, suc, ◌*◌, ◌<◌, ◌≤◌}
use native.Mathlib.Nat.{mul-zero, mul-suc, mul_comm, le-mul_of_pos_right}
use native.Mathlib.Omega.{arith}
use native.Mathlib.Decide.{dec_lt}
use mathlib.Core.Path.{◌≡◌, sym, ◌∙◌}
use Rattle.capped.specs.Capped.{limit, cap}

pub cap_small : (n : ℕ) → n < limit → cap n ≡ n
cap_small n h = omega arith

pub cap_big : (n : ℕ) → limit ≤ n → cap n ≡ limit
cap_big n h = omega arith

big_times : (a b : ℕ) → limit ≤ a → limit ≤ a * suc b
big_times a b h = rw mul-suc (omega arith)

cap-mul_big : (a b : ℕ) → limit ≤ a → cap (a * b) ≡ cap (limit * cap b)
cap-mul_big a zero h = rw mul-zero (omega arith)
cap-mul_big a (suc b) h = cap_big (a * suc b) (big_times a b h) ∙ sym (cap_big (limit * cap (suc b)) (le-mul_of_pos_right limit (omega arith)))

pub cap-mul : (a b : ℕ) → cap (a * b) ≡ cap (cap a * cap b)
cap-mul a b = go (dec_lt a limit) (dec_lt b limit)
  where
    go : Dec (a < limit) → Dec (b < limit) → cap (a * b) ≡ cap (cap a * cap b)
    go (no h) d = rw (cap_big a (omega arith)) (cap-mul_big a b (omega arith))
    go (yes h) (no k) = rw (cap_big b (omega arith), mul_comm a b, mul_comm (cap a) limit) (cap-mul_big b a (omega arith))
    go (yes h) (yes k) = rw (cap_small a h, cap_small b k)

-- a number below 2^64 that is below a capped number is below the number itself
pub cap-lt : (n k : ℕ) → k < limit → k < cap n → k < n
cap-lt n k h l = omega arith
