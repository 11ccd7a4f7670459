-- The order of readings is a strict total order, and an ascending list is known by its members.
use Prim.Native.Nat.{ℕ, ◌<◌}
use native.Mathlib.Omega.{arith}
use mathlib.Core.Path.{◌≡◌, refl, sym, ◌∙◌, ap₂}
use mathlib.Core.Logic.{◌⊎◌, inl, inr, ◌↔◌}
use mathlib.Core.List.Memᴰ
use mathlib.Core.List.{List, [], ◌∷◌, Memᴰ}
use Rattle.vpg.specs.believed.Order.{Before, Ascending}
use Rattle.laws.proofs.Lists.{trichotomy}

pub before_irreflexive : (e : List ℕ) → Before e e → ⊥
before_irreflexive [] h = h
before_irreflexive (x ∷ e) (inl h) = omega arith
before_irreflexive (x ∷ e) (inr h) = before_irreflexive e h.1

pub before_transitive : (d e f : List ℕ) → Before d e → Before e f → Before d f
before_transitive [] [] f p q = absurd p
before_transitive [] (y ∷ e) [] p q = absurd q
before_transitive [] (y ∷ e) (z ∷ f) p q = tt
before_transitive (x ∷ d) [] f p q = absurd p
before_transitive (x ∷ d) (y ∷ e) [] p q = absurd q
before_transitive (x ∷ d) (y ∷ e) (z ∷ f) (inl p) (inl q) = inl (omega arith)
before_transitive (x ∷ d) (y ∷ e) (z ∷ f) (inl p) (inr q) = inl (omega arith)
before_transitive (x ∷ d) (y ∷ e) (z ∷ f) (inr p) (inl q) = inl (omega arith)
before_transitive (x ∷ d) (y ∷ e) (z ∷ f) (inr p) (inr q) = inr (p.0 ∙ q.0, before_transitive d e f p.1 q.1)

pub before_asymmetric : (e f : List ℕ) → Before e f → Before f e → ⊥
before_asymmetric e f p q = before_irreflexive e (before_transitive e f e p q)

pub before_total : (e f : List ℕ) → (e ≡ f) ⊎ (Before e f ⊎ Before f e)
before_total [] [] = inl refl
before_total [] (y ∷ f) = inr (inl tt)
before_total (x ∷ e) [] = inr (inr tt)
before_total (x ∷ e) (y ∷ f) = go (trichotomy x y) (before_total e f)
  where
    go : (x ≡ y) ⊎ ((x < y) ⊎ (y < x)) → (e ≡ f) ⊎ (Before e f ⊎ Before f e) → (x ∷ e ≡ y ∷ f) ⊎ (Before (x ∷ e) (y ∷ f) ⊎ Before (y ∷ f) (x ∷ e))
    go (inr (inl p)) h = inr (inl (inl p))
    go (inr (inr p)) h = inr (inr (inl p))
    go (inl p) (inl h) = inl (ap₂ ◌∷◌ p h)
    go (inl p) (inr (inl h)) = inr (inl (inr (p, h)))
    go (inl p) (inr (inr h)) = inr (inr (inr (sym p, h)))

-- no entry stands again behind itself
pub not_again : (e : List ℕ) (l : List (List ℕ)) → Ascending (e ∷ l) → Memᴰ e l → ⊥
not_again e l p m = before_irreflexive e (p.0 e m)

-- two ascending lists with the same members are one list
pub one_list : (l l' : List (List ℕ)) → Ascending l → Ascending l' → ((e : List ℕ) → Memᴰ e l ↔ Memᴰ e l') → l ≡ l'
one_list [] [] p q h = refl
one_list [] (y ∷ l') p q h = absurd (Memᴰ.not-nil ((h y).1 (Memᴰ.head refl)))
one_list (x ∷ l) [] p q h = absurd (Memᴰ.not-nil ((h x).0 (Memᴰ.head refl)))
one_list (x ∷ l) (y ∷ l') p q h = ap₂ ◌∷◌ e (one_list l l' p.1 q.1 (λ z. (λ m. to z m (Memᴰ.cases_cons ((h z).0 (Memᴰ.tail m))), λ m. from z m (Memᴰ.cases_cons ((h z).1 (Memᴰ.tail m))))))
  where
    heads : (x ≡ y) ⊎ Memᴰ x l' → (y ≡ x) ⊎ Memᴰ y l → x ≡ y
    heads (inl e) b = e
    heads (inr m) (inl e) = sym e
    heads (inr m) (inr n) = absurd (before_asymmetric x y (p.0 y n) (q.0 x m))

    e : x ≡ y
    e = heads (Memᴰ.cases_cons ((h x).0 (Memᴰ.head refl))) (Memᴰ.cases_cons ((h y).1 (Memᴰ.head refl)))

    to : (z : List ℕ) → Memᴰ z l → (z ≡ y) ⊎ Memᴰ z l' → Memᴰ z l'
    to z m (inl k) = absurd (not_again x l p (Memᴰ.cast (e ∙ sym k) m))
    to z m (inr m') = m'

    from : (z : List ℕ) → Memᴰ z l' → (z ≡ x) ⊎ Memᴰ z l → Memᴰ z l
    from z m (inl k) = absurd (not_again y l' q (Memᴰ.cast (sym e ∙ sym k) m))
    from z m (inr m') = m'
