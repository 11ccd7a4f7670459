-- `find` gives the number of the entry that a list equals, counted from 1.
use Prim.Native.Nat.{ℕ, zero, suc, ◌<◌}
use native.Mathlib.Nat.{le_of_suc-le-suc, not-suc-le-zero}
use native.Mathlib.Omega.{arith}
use mathlib.Core.Path.{◌≡◌, refl, ap₂}
use mathlib.Core.Bool.{Bool, true, false, false≢true}
use mathlib.Core.List.{List, [], ◌∷◌, Memᴰ}
use mathlib.Core.Option.{Option, none, some, none-ne-some}
use borrow.Author.Tests.{eqb-true, eq-eqb}
use lib.Dec.{eqb}
use lib.ListN.{get_or, length}
use Rattle.laws.proofs.Lists.{at_member}
use Rattle.vpg.specs.believed.Order.{Ascending}
use Rattle.listing_model.specs.believed.Listing.{same, found, find}
use Rattle.laws.proofs.Bools.{and_left, and_right}
use Rattle.vpg.proofs.Order.{before_irreflexive}

pub same-eq : (e f : List ℕ) → same e f ≡ true → e ≡ f
same-eq [] [] p = refl
same-eq [] (y ∷ f) p = absurd (false≢true p)
same-eq (x ∷ e) [] p = absurd (false≢true p)
same-eq (x ∷ e) (y ∷ f) p = ap₂ ◌∷◌ (eqb-true x y (and_left _ _ p)) (same-eq e f (and_right (eqb x y) _ p))

pub same_refl : (e : List ℕ) → same e e ≡ true
same_refl [] = refl
same_refl (x ∷ e) = rw (eq-eqb x x refl) (same_refl e)

pub same-ne : (e f : List ℕ) → (e ≡ f → ⊥) → same e f ≡ false
same-ne e f h = go (same e f) refl
  where
    go : (b : Bool) → same e f ≡ b → same e f ≡ false
    go true p = absurd (h (same-eq e f p))
    go false p = p

pub find_at : (l : List (List ℕ)) (j : ℕ) → Ascending l → j < length l → find (get_or l j []) l ≡ some (suc j)
find_at [] j p h = absurd (not-suc-le-zero h)
find_at (e ∷ l) zero p h = rw (same_refl e)
find_at (e ∷ l) (suc j) p h =
    let ne = same-ne (get_or l j []) e (λ q. before_irreflexive e (rw q at (p.0 (get_or l j []) (at_member l j [] (le_of_suc-le-suc h))))) in
    rw (ne, find_at l j p.1 (le_of_suc-le-suc h))

-- e is the entry number k
pub record Found (e : List ℕ) (l : List (List ℕ)) (k : ℕ) : Type 0 where
  pub before : ℕ
  pub number : k ≡ suc before
  pub below : before < length l
  pub is : e ≡ get_or l before []

pub find-found : (e : List ℕ) (l : List (List ℕ)) (k : ℕ) → find e l ≡ some k → Found e l k
find-found e [] k p = absurd (none-ne-some k p)
find-found e (f ∷ l) k p = go (same e f) refl (find e l) refl p (find-found e l)
  where
    go : (b : Bool) → same e f ≡ b → (o : Option ℕ) → find e l ≡ o → found b o ≡ some k → ((k : ℕ) → find e l ≡ some k → Found e l k) → Found e (f ∷ l) k
    go true q o r p rest = record { before = 0; number = cc; below = omega arith; is = same-eq e f q }
    go false q none r p rest = absurd (none-ne-some k p)
    go false q (some i) r p rest =
        let h = rest i r in
        record { before = suc h.before; number = cc; below = omega arith; is = h.is }

pub find_none : (e : List ℕ) (l : List (List ℕ)) → (Memᴰ e l → ⊥) → find e l ≡ none
find_none e [] h = refl
find_none e (f ∷ l) h =
    rw (same-ne e f (λ q. h (Memᴰ.head q)), find_none e l (λ m. h (Memᴰ.tail m)))
