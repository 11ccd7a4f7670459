-- Two sources that say the same from places that go together, as far as numbers below a limit are told apart; and so do fields held to
-- their ranges.
use Prim.Native.Nat.{ℕ, suc, ◌+◌, ◌<◌, ◌≤◌}
use mathlib.Core.Path.{◌≡◌, refl}
use mathlib.Core.Logic.{◌⊎◌, inl, inr}
use mathlib.Core.Bool.{Bool, true, false, cond}
use native.Mathlib.Omega.{arith}
use borrow.Author.Tests.{ltb-true, le-ltb}
use lib.Dec.{ltb, eqb}
use Rattle.std.specs.Prelude.{Ok, Err}
use Rattle.refusal.specs.declared.Refusal.{Refusal}
use Rattle.numbers.specs.believed.Number.{Read, Source}
use Rattle.numbers.specs.believed.Field.{limited, field_at, positive, count_at}

-- equal, or above every range
abbrev pub SameBelow : ℕ → ℕ → ℕ → Type 0
SameBelow limit n m = (n ≡ m) ⊎ ((limit ≤ n) × (limit ≤ m))

-- two reads of numbers that go on at places which go together, or the same refusal
pub data SameNumber (limit : ℕ) (At : ℕ → ℕ → Type 0) : Read ℕ → Read ℕ → Type 0 where
  both : {n m p q : ℕ} → SameBelow limit n m → At p q → SameNumber limit At (Ok (n, p)) (Ok (m, q))
  neither : {e : Refusal} → SameNumber limit At (Err e) (Err e)

-- two reads of the same value, of which so much is known
pub data Same {A : Type 0} (Known : A → Type 0) (At : ℕ → ℕ → Type 0) : Read A → Read A → Type 0 where
  same : {x : A} {p q : ℕ} → Known x → At p q → Same Known At (Ok (x, p)) (Ok (x, q))
  refused : {e : Refusal} → Same Known At (Err e) (Err e)

-- places that go together with so many numbers still to be read
pub record Alike (x y : Source) (limit : ℕ) (At : ℕ → ℕ → ℕ → Type 0) : Type 0 where
  pub number : (k p q : ℕ) → At (suc k) p q → SameNumber limit (At k) (x.number p) (y.number q)
  pub more : (k p q : ℕ) → At k p q → x.more p ≡ y.more q
  pub fewer : (j k p q : ℕ) → j ≤ k → At k p q → At j p q

-- a field below its limit in both
abbrev pub SameField : ℕ → (ℕ → ℕ → Type 0) → Read ℕ → Read ℕ → Type 0
SameField below = Same (λ n. n < below)

same-limited : (below : ℕ) (e : Refusal) (n p q : ℕ) (At : ℕ → ℕ → Type 0) → At p q
    → SameField below At (cond (ltb n below) (Ok (n, p)) (Err e)) (cond (ltb n below) (Ok (n, q)) (Err e))
same-limited below e n p q At a = go (ltb n below) refl
  where
    go : (b : Bool) → ltb n below ≡ b → SameField below At (cond b (Ok (n, p)) (Err e)) (cond b (Ok (n, q)) (Err e))
    go true t = same (ltb-true n below t) a
    go false t = refused

limited_alike : (limit below : ℕ) (e : Refusal) (At : ℕ → ℕ → Type 0) → below ≤ limit → {r s : Read ℕ} → SameNumber limit At r s
    → SameField below At (limited r below e) (limited s below e)
limited_alike limit below e At h (both {n} {m} {p} {q} (inl equal) a) = rw equal (same-limited below e m p q At a)
limited_alike limit below e At h (both {n} {m} {p} {q} (inr (l, k)) a) = rw (le-ltb n below (omega arith), le-ltb m below (omega arith)) refused
limited_alike limit below e At h neither = refused

positive_alike : (below : ℕ) (e : Refusal) (At : ℕ → ℕ → Type 0) {r s : Read ℕ} → SameField below At r s → SameField below At (positive r e) (positive s e)
positive_alike below e At (same {x = n} {p} {q} h a) = go (eqb n 0)
  where
    go : (b : Bool) → SameField below At (cond b (Err e) (Ok (n, p))) (cond b (Err e) (Ok (n, q)))
    go true = refused
    go false = same h a
positive_alike below e At refused = refused

module _ {x y : Source} {limit : ℕ} {At : ℕ → ℕ → ℕ → Type 0} (alike : Alike x y limit At) where
  pub field_alike : (k p q below : ℕ) (e : Refusal) → below ≤ limit → At (suc k) p q
      → SameField below (At k) (field_at x.number p below e) (field_at y.number q below e)
  unfolding field_at
  field_alike k p q below e h a = limited_alike limit below e (At k) h (alike.number k p q a)

  pub count_alike : (k p q most : ℕ) (e : Refusal) → most + 1 ≤ limit → At (suc k) p q
      → SameField (most + 1) (At k) (count_at x.number p most e) (count_at y.number q most e)
  unfolding count_at
  count_alike k p q most e h a = positive_alike (most + 1) e (At k) (field_alike k p q (most + 1) e h a)
