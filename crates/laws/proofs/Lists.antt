-- Laws of lists: their first element and the rest, the element at a position; and of numbers: one of two is smaller, how many are left.
use Prim.Native.Nat.{ℕ, zero, suc, ◌+◌, ◌-◌, ◌<◌}
use native.Mathlib.Nat.{zero-add, suc-add}
use native.Mathlib.Omega.{arith}
use mathlib.Core.Path.{◌≡◌, refl, sym, subst}
use mathlib.Core.Logic.{◌⊎◌, inl, inr, ⊎_elim}
use mathlib.Core.Bool.{Bool, true, false}
use mathlib.Core.List.{List, [], ◌∷◌, ◌++◌, Memᴰ}
use mathlib.Core.Option.{some, none-ne-some}
use borrow.Author.Tests.{ltb-true, ltb-false}
use lib.Dec.{ltb}
use lib.ListN.{length, drop, get_or, get_elem?}
use Rattle.laws.specs.Distinct.{Distinct}

pub trichotomy : (x y : ℕ) → (x ≡ y) ⊎ ((x < y) ⊎ (y < x))
trichotomy x y = go (ltb x y) refl (ltb y x) refl
  where
    go : (a : Bool) → ltb x y ≡ a → (b : Bool) → ltb y x ≡ b → (x ≡ y) ⊎ ((x < y) ⊎ (y < x))
    go true p b q = inr (inl (ltb-true x y p))
    go false p true q = inr (inr (ltb-true y x q))
    go false p false q = inl (omega (arith, ltb-false))

-- of n that are due, k are done
pub one_due : (n k : ℕ) → k < n → n - k ≡ suc (n - (k + 1))
one_due n k more = omega arith

module _ {A : Type 0} where
  pub heads : {a b : A} {s t : List A} → a ∷ s ≡ b ∷ t → a ≡ b
  heads q = cc

  pub tails : {a b : A} {s t : List A} → a ∷ s ≡ b ∷ t → s ≡ t
  tails q = cc

  pub at_left : {x : A} (s t : List A) (p : ℕ) → get_elem? s p ≡ some x → get_elem? (s ++ t) p ≡ some x
  at_left {x} [] t p h = absurd (none-ne-some x h)
  at_left (y ∷ s) t zero h = h
  at_left (y ∷ s) t (suc p) h = at_left s t p h

  pub at_right : (s t : List A) (p : ℕ) → get_elem? (s ++ t) (length s + p) ≡ get_elem? t p
  at_right [] t p = rw zero-add
  at_right (y ∷ s) t p = rw suc-add (at_right s t p)

  pub at_cases : (x : A) (s t : List A) (p : ℕ) → get_elem? (s ++ t) p ≡ some x → (get_elem? s p ≡ some x) ⊎ ((k : ℕ) × (p ≡ length s + k) × (get_elem? t k ≡ some x))
  at_cases x [] t p h = inr (p, omega arith, h)
  at_cases x (y ∷ s) t zero h = inl h
  at_cases x (y ∷ s) t (suc p) h = ⊎_elim inl (λ c. inr (c.0, omega arith, c.2)) (at_cases x s t p h)

  pub drop-left : {x : A} {r : List A} (s t : List A) (p : ℕ) → drop p s ≡ x ∷ r → drop p (s ++ t) ≡ x ∷ (r ++ t)
  drop-left s t zero h = rw h
  drop-left [] t (suc p) h = absurd (let z : ◌≡◌ {A = ℕ} 0 1 = cc in omega arith)
  drop-left (y ∷ s) t (suc p) h = drop-left s t p h

  pub at_below : {x : A} (s : List A) (p : ℕ) → get_elem? s p ≡ some x → p < length s
  at_below {x} [] p h = absurd (none-ne-some x h)
  at_below (y ∷ s) zero h = omega arith
  at_below (y ∷ s) (suc p) h = omega (arith, at_below s p h)

  pub at_some : (s : List A) (p : ℕ) → p < length s → (x : A) × (get_elem? s p ≡ some x)
  at_some [] p h = absurd (omega arith)
  at_some (y ∷ s) zero h = (y, refl)
  at_some (y ∷ s) (suc p) h = at_some s p (omega arith)

  pub at_member : (s : List A) (p : ℕ) (d : A) → p < length s → Memᴰ (get_or s p d) s
  at_member [] p d h = absurd (omega arith)
  at_member (y ∷ s) zero d h = Memᴰ.head refl
  at_member (y ∷ s) (suc p) d h = Memᴰ.tail (at_member s p d (omega arith))

  pub at_distinct : (s : List A) (p q : ℕ) (d : A) → Distinct s → p < q → q < length s → get_or s p d ≡ get_or s q d → ⊥
  at_distinct [] p q d once less h e = omega arith
  at_distinct (y ∷ s) p zero d once less h e = omega arith
  at_distinct (y ∷ s) zero (suc q) d once less h e = once.0 (subst (λ (x : A). Memᴰ x s) (sym e) (at_member s q d (omega arith)))
  at_distinct (y ∷ s) (suc p) (suc q) d once less h e = at_distinct s p q d once.1 (omega arith) (omega arith) e
