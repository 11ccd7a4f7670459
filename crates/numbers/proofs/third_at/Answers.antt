-- `numbers::third_at` meets its contract: at each `return` the tests that led there say which case of `number_within` holds.
use Prim.Native.Nat.{ℕ, ◌+◌, ◌*◌, ◌/◌, ◌%◌}
use mathlib.Core.Path.{◌≡◌, ap, ◌∙◌}
use mathlib.Core.Logic.{◌≢◌}
use borrow.Author.Tests.{lt-ltb, ne_eqb}
use native.Mathlib.Omega.{arith}
use Rattle.std.specs.Prelude.{Ok}
use Rattle.numbers.specs.believed.Number.{with_group, number_within}
use Rattle.numbers.proofs.third_at.Goals as goal

-- two groups in front of a third one
groups : (low high next : ℕ) → high ≢ 0 → Ok (low + high * 16384, next) ≡ with_group (low % 128) (with_group (low / 128) (Ok (high, next)))
groups low high next h =
    rw (ne_eqb high 0 h, ne_eqb (low / 128 + high * 128) 0 (omega arith)) (ap (λ n. Ok (n, next)) (omega arith))

pub returns : goal.returns
unfolding number_within
returns c =
    groups _ _ _ c.if-high-eq0.false ∙ simp (lt-ltb _ _ c.if-s-last.false, lt-ltb _ _ c.if-high-ge128.false)
