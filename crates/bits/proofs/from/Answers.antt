-- `from`: what is shifted down and up again loses the digits below b, and no other.
use Prim.Native.Nat.{ℕ, ◌*◌, ◌/◌, ◌%◌, ◌^◌, ◌<◌, ◌≤◌}
use mathlib.Core.Path.{◌≡◌}
use native.Mathlib.Nat.{div-le_self, lt_of_le_of_lt}
use native.Mathlib.Omega.{arith}
use lib.Pow.{shl_exact}
use Rattle.bits.proofs.Bits.{bit-from}
use Rattle.bits.proofs.from.Goals as goal

exact : (m b : ℕ) → m < 4294967296 → b ≤ 32 → (m / 2 ^ b * 2 ^ b) % 18446744073709551616 ≡ m / 2 ^ b * 2 ^ b
exact m b l h = shl_exact 32 b 64 (lt_of_le_of_lt (div-le_self m (2 ^ b)) l) (omega arith)

pub returns : goal.returns
returns c = λ k. rw (exact c.args.m c.args.b (omega (arith, c.ranges.m)) c.requires) (bit-from c.args.b c.args.m k)
