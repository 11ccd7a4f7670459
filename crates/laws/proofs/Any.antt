-- What passes a test, among the elements of a list and among the numbers below a bound.
use Prim.Native.Nat.{ℕ, zero, suc, ◌<◌}
use native.Mathlib.Nat.{not-suc-le-zero}
use native.Mathlib.Omega.{arith}
use native.Mathlib.Decide.{dec_lt}
use mathlib.Core.Path.{◌≡◌, refl, sym}
use mathlib.Core.Bool.{Bool, true, false, ◌||◌, false≢true, or-true, or-false, or_assoc}
use mathlib.Core.List.{List, [], ◌∷◌, ◌++◌}
use mathlib.Core.Option.{some, none-ne-some, some-injective}
use lib.ListN.{get_elem?}
use Rattle.laws.specs.Any.{any, any_below}

pub record Some {A : Type 0} (p : A → Bool) (l : List A) : Type 0 where
  pub number : ℕ
  pub element : A
  pub is : get_elem? l number ≡ some element
  pub passes : p element ≡ true

pub any_some : {A : Type 0} (p : A → Bool) (l : List A) → any p l ≡ true → Some p l
any_some p [] q = absurd (false≢true q)
any_some p (x ∷ l) q = go (p x) refl q (any_some p l)
  where
    go : (b : Bool) → p x ≡ b → (b || any p l) ≡ true → (any p l ≡ true → Some p l) → Some p (x ∷ l)
    go true e q below = record { number = 0; element = x; is = refl; passes = e }
    go false e q below = let h = below q in record { number = suc h.number; element = h.element; is = h.is; passes = h.passes }

pub some-any : {A : Type 0} (p : A → Bool) (l : List A) (i : ℕ) {x : A} → get_elem? l i ≡ some x → p x ≡ true → any p l ≡ true
some-any p [] i {x} e q = absurd (none-ne-some x e)
some-any p (y ∷ l) zero {x} e q = rw (some-injective y x e, q)
some-any p (y ∷ l) (suc i) e q = rw (some-any p l i e q) (or-true (p y))

pub any_snoc : {A : Type 0} (p : A → Bool) (l : List A) (x : A) → any p (l ++ (x ∷ [])) ≡ (any p l || p x)
any_snoc p [] x = or-false (p x)
any_snoc p (y ∷ l) x = rw (any_snoc p l x) (sym (or_assoc (p y) (any p l) (p x)))

pub record Below (n : ℕ) (p : ℕ → Bool) : Type 0 where
  pub number : ℕ
  pub small : number < n
  pub passes : p number ≡ true

pub below_some : (n : ℕ) (p : ℕ → Bool) → any_below n p ≡ true → Below n p
below_some zero p q = absurd (false≢true q)
below_some (suc n) p q = go (p n) refl q (below_some n p)
  where
    go : (b : Bool) → p n ≡ b → (b || any_below n p) ≡ true → (any_below n p ≡ true → Below n p) → Below (suc n) p
    go true e q rest = record { number = n; small = omega arith; passes = e }
    go false e q rest = let h = rest q in record { number = h.number; small = omega arith; passes = h.passes }

pub some_below : (n : ℕ) (p : ℕ → Bool) (i : ℕ) → i < n → p i ≡ true → any_below n p ≡ true
some_below zero p i h q = absurd (not-suc-le-zero h)
some_below (suc n) p i h q = go (dec_lt i n) (some_below n p i)
  where
    go : Dec (i < n) → (i < n → p i ≡ true → any_below n p ≡ true) → (p n || any_below n p) ≡ true
    go (yes l) rest = rw (rest l q) (or-true (p n))
    go (no l) rest = let e : i ≡ n = omega arith in rw (rw e at q)

-- two tests that agree below n
pub below_same : (n : ℕ) (p p' : ℕ → Bool) → ((i : ℕ) → i < n → p i ≡ p' i) → any_below n p ≡ any_below n p'
below_same zero p p' h = refl
below_same (suc n) p p' h = rw (h n (omega arith), below_same n p p' (λ i l. h i (omega arith)))
