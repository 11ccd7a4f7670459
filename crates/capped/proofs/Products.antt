-- The tests by which a product of two numbers of 64 bits is known to fit.
use Prim.Native.Nat.{ℕ, zero, suc, ◌*◌, ◌/◌, ◌<◌, ◌≤◌}
use native.Mathlib.Nat.{zero-mul, mul_comm, le-mul_of_pos_right, div-lt_iff_lt-mul, le-div_iff_mul-le}
use native.Mathlib.Omega.{arith}
use mathlib.Core.Path.{◌≡◌, sym}
use Rattle.capped.specs.Capped.{limit, cap}
use Rattle.capped.proofs.Capped.{cap_big}

-- the tests by which a product is known to fit, or not
pub fits : (x y : ℕ) → y ≤ 18446744073709551615 / x → x * y < limit
fits zero y h = rw (zero-mul y) (omega arith)
fits (suc x) y h = let k : y * suc x ≤ 18446744073709551615 = (le-div_iff_mul-le {k = suc x} {x = y} {y = 18446744073709551615} (omega arith)).0 h in rw (mul_comm (suc x) y) (omega arith)

pub goes_over : (x y : ℕ) → (x ≡ 0 → ⊥) → 18446744073709551615 / x < y → limit ≡ cap (x * y)
goes_over x y n h = let k : 18446744073709551615 < y * x = (div-lt_iff_lt-mul {k = x} {x = 18446744073709551615} {y = y} (omega arith)).0 h in sym (cap_big (x * y) (rw (mul_comm x y) (omega arith)))

pub times_limit : (x : ℕ) → (x ≡ 0 → ⊥) → limit ≡ cap (x * limit)
times_limit x n = sym (cap_big (x * limit) (rw mul_comm (le-mul_of_pos_right limit (omega arith))))

pub limit_times : (x : ℕ) → (x ≡ 0 → ⊥) → limit ≡ cap (limit * x)
limit_times x n = sym (cap_big (limit * x) (le-mul_of_pos_right limit (omega arith)))
