-- Laws of Bools: two tests that pass together, equality of numbers either way round, and what a test was where what it chose is known.
use Prim.Native.Nat.{ℕ}
use mathlib.Core.Path.{◌≡◌, refl, sym}
use mathlib.Core.Logic.{◌≢◌, ◌⊎◌, inl, inr}
use mathlib.Core.Bool.{Bool, true, false, cond, ◌&&◌, ◌||◌, false≢true}
use borrow.Author.Tests.{eqb-true, eq-eqb}
use lib.Dec.{eqb}

pub both : {a b : Bool} → a ≡ true → b ≡ true → (a && b) ≡ true
both p q = rw (p, q)

pub and_left : (a b : Bool) → (a && b) ≡ true → a ≡ true
and_left true b p = refl
and_left false b p = p

pub and_right : (a b : Bool) → (a && b) ≡ true → b ≡ true
and_right true b p = p
and_right false b p = absurd (false≢true p)

pub or_cases : (a b : Bool) → (a || b) ≡ true → (a ≡ true) ⊎ (b ≡ true)
or_cases true b p = inl refl
or_cases false b p = inr p

pub or_comm : (a b : Bool) → (a || b) ≡ (b || a)
or_comm true true = refl
or_comm true false = refl
or_comm false true = refl
or_comm false false = refl

-- two tests that pass together are one
pub same_test : (a b : Bool) → (a ≡ true → b ≡ true) → (b ≡ true → a ≡ true) → a ≡ b
same_test true b f h = sym (f refl)
same_test false true f h = h refl
same_test false false f h = refl

pub eqb_refl : (n : ℕ) → eqb n n ≡ true
eqb_refl n = eq-eqb n n refl

pub eqb_comm : (a b : ℕ) → eqb a b ≡ eqb b a
eqb_comm a b = same_test (eqb a b) (eqb b a) (λ p. eq-eqb b a (sym (eqb-true a b p))) (λ p. eq-eqb a b (sym (eqb-true b a p)))

-- what a test was, where what it chose is known
pub chose_first : {A : Type 0} (b : Bool) (x y : A) {z : A} → y ≢ z → cond b x y ≡ z → (b ≡ true) × (x ≡ z)
chose_first true x y other h = (refl, h)
chose_first false x y other h = absurd (other h)

pub chose_second : {A : Type 0} (b : Bool) (x y : A) {z : A} → x ≢ z → cond b x y ≡ z → (b ≡ false) × (y ≡ z)
chose_second true x y other h = absurd (other h)
chose_second false x y other h = (refl, h)
