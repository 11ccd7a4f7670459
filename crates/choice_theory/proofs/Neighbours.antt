-- Of a listing: the choices are the positions at which an entry first differs from the one before it.
use Prim.Native.Nat.{ℕ, zero, suc, ◌<◌}
use native.Mathlib.Omega.{arith}
use mathlib.Core.Path.{◌≡◌, refl, sym, ◌∙◌, ap, ap₂}
use mathlib.Core.Logic.{◌⊎◌, inl, inr, ◌↔◌, ◌≢◌}
use mathlib.Core.List.Memᴰ
use mathlib.Core.List.{List, [], ◌∷◌, Memᴰ}
use mathlib.Core.Option.{some, some-injective}
use lib.ListN.{length, take, get_elem?}
use Rattle.laws.proofs.Lists.{trichotomy, heads, tails, at_below, at_some}
use Rattle.vpg.specs.declared.Token.{Token}
use Rattle.vpg.specs.believed.Grammar.{Grammar, General}
use Rattle.vpg.specs.believed.Order.{Before, Ascending}
use Rattle.vpg.specs.Runs.{entries}
use Rattle.vpg.proofs.Ascends.{entries_ascending}
use Rattle.vpg.proofs.Entries.{entry_length}
use Rattle.vpg.proofs.Sound.{entries_readings}
use Rattle.sets_theory.specs.believed.Sets.{Choice}
use Rattle.choice_theory.specs.Several.{Differ, Neighbours}
use Rattle.choice_theory.proofs.Choices.{choice-first}

-- ── lists in order ──

-- what stands between two lists that are the same up to a position is the same up to there
between : (p : ℕ) (x y z : List ℕ) → Before x y → Before y z → take p x ≡ take p z → take p x ≡ take p y
between zero x y z b c q = refl
between (suc p) [] [] z b c q = absurd b
between (suc p) [] (d ∷ y) [] b c q = absurd c
between (suc p) [] (d ∷ y) (e ∷ z) b c q = absurd (omega (arith, ap length q))
between (suc p) (a ∷ x) [] z b c q = absurd b
between (suc p) (a ∷ x) (d ∷ y) [] b c q = absurd c
between (suc p) (a ∷ x) (d ∷ y) (e ∷ z) b c q = go b c (heads q) (between p x y z)
  where
    go : (a < d) ⊎ ((a ≡ d) × Before x y) → (d < e) ⊎ ((d ≡ e) × Before y z) → a ≡ e → (Before x y → Before y z → take p x ≡ take p z → take p x ≡ take p y) → a ∷ take p x ≡ d ∷ take p y
    go (inl l) (inl m) i on = absurd (omega (arith, l, m, i))
    go (inl l) (inr (j, m)) i on = absurd (omega (arith, l, j, i))
    go (inr (j, l)) (inl m) i on = absurd (omega (arith, m, j, i))
    go (inr (j, l)) (inr (k, m)) i on = ap₂ ◌∷◌ j (on l m (tails q))

other_way : {e f : List ℕ} {p : ℕ} → Differ e f p → Differ f e p
other_way d = record { one = d.other; other = d.one; before = sym d.before; one_at = d.other_at; other_at = d.one_at; differ = λ q. d.differ (sym q) }

-- ── neighbours ──

-- lists of one length
abbrev Even : ℕ → List (List ℕ) → Type 0
Even n l = (e : List ℕ) → Memᴰ e l → length e ≡ n

later : (x : List ℕ) (l : List (List ℕ)) (p : ℕ) → Neighbours l p → Neighbours (x ∷ l) p
later x [] p h = absurd h
later x (y ∷ l) p h = inr h

-- from a list to one behind it that first differs from it at p: on the way two neighbours do so
from_head : (p n : ℕ) (x : List ℕ) (l : List (List ℕ)) (f : List ℕ) → Ascending (x ∷ l) → Even n (x ∷ l) → Memᴰ f l → Differ x f p → Neighbours (x ∷ l) p
from_head p n x [] f a long m d = absurd (Memᴰ.not-nil m)
from_head p n x (y ∷ l) f a long m d = go (Memᴰ.cases_cons m) (from_head p n y l f a.1 (λ e k. long e (Memᴰ.tail k)))
  where
    there : (r : ℕ) × (get_elem? y p ≡ some r)
    there = at_some y p (omega (arith, at_below x p d.one_at, long x (Memᴰ.head refl), long y (Memᴰ.tail (Memᴰ.head refl))))

    go : (f ≡ y) ⊎ Memᴰ f l → (Memᴰ f l → Differ y f p → Neighbours (y ∷ l) p) → Neighbours (x ∷ y ∷ l) p
    go (inl q) on = inl (rw q at d)
    go (inr k) on = turn there (trichotomy there.0 d.one)
      where
        same : take p x ≡ take p y
        same = between p x y f (a.0 y (Memᴰ.head refl)) (a.1.0 f k) d.before

        apart : (z : (r : ℕ) × (get_elem? y p ≡ some r)) → d.one ≢ z.0 → Differ x y p
        apart z n = record { one = d.one; other = z.0; before = same; one_at = d.one_at; other_at = z.1; differ = n }

        turn : (z : (r : ℕ) × (get_elem? y p ≡ some r)) → (z.0 ≡ d.one) ⊎ ((z.0 < d.one) ⊎ (d.one < z.0)) → Neighbours (x ∷ y ∷ l) p
        turn z (inl q) = inr (on k (record { one = z.0; other = d.other; before = sym same ∙ d.before; one_at = z.1; other_at = d.other_at; differ = λ i. d.differ (sym q ∙ i) }))
        turn z (inr (inl h)) = inl (apart z (λ i. omega (arith, i)))
        turn z (inr (inr h)) = inl (apart z (λ i. omega (arith, i)))

any-two : (p n : ℕ) (l : List (List ℕ)) (e f : List ℕ) → Ascending l → Even n l → Memᴰ e l → Memᴰ f l → Differ e f p → Neighbours l p
any-two p n [] e f a long m k d = absurd (Memᴰ.not-nil m)
any-two p n (x ∷ l) e f a long m k d = go (Memᴰ.cases_cons m) (Memᴰ.cases_cons k) (any-two p n l e f a.1 (λ e i. long e (Memᴰ.tail i)))
  where
    go : (e ≡ x) ⊎ Memᴰ e l → (f ≡ x) ⊎ Memᴰ f l → (Memᴰ e l → Memᴰ f l → Differ e f p → Neighbours l p) → Neighbours (x ∷ l) p
    go (inl i) (inl j) on = absurd (d.differ (some-injective d.one d.other (sym d.one_at ∙ ap (λ (z : List ℕ). get_elem? z p) (i ∙ sym j) ∙ d.other_at)))
    go (inl i) (inr k) on = from_head p n x l f a long k (rw i at d)
    go (inr m) (inl j) on = from_head p n x l e a long m (rw j at (other_way d))
    go (inr m) (inr k) on = later x l p (on m k d)

-- the two
record Two (l : List (List ℕ)) (p : ℕ) : Type 0 where
  one : List ℕ
  other : List ℕ
  one_in : Memᴰ one l
  other_in : Memᴰ other l
  apart : Differ one other p

two_of : (l : List (List ℕ)) (p : ℕ) → Neighbours l p → Two l p
two_of [] p h = absurd h
two_of (e ∷ []) p h = absurd h
two_of (e ∷ f ∷ l) p (inl d) = record { one = e; other = f; one_in = Memᴰ.head refl; other_in = Memᴰ.tail (Memᴰ.head refl); apart = d }
two_of (e ∷ f ∷ l) p (inr h) =
    let t = two_of (f ∷ l) p h in
    record { one = t.one; other = t.other; one_in = Memᴰ.tail t.one_in; other_in = Memᴰ.tail t.other_in; apart = t.apart }

pub choice_neighbours : (g : Grammar) → General g.well g.rules → (w : List Token) (p : ℕ) → Choice g w p ↔ Neighbours (entries g w) p
choice_neighbours g ok w p = (listed, chosen)
  where
    listed : Choice g w p → Neighbours (entries g w) p
    listed c =
        let (e, f, a, b, d) = (choice-first g w ok p).0 c in
        any-two p (suc (length w)) (entries g w) e f (entries_ascending g w) (entry_length g w) ((entries_readings g w e).1 a) ((entries_readings g w f).1 b) d

    chosen : Neighbours (entries g w) p → Choice g w p
    chosen h =
        let t = two_of (entries g w) p h in
        (choice-first g w ok p).1 (t.one, t.other, (entries_readings g w t.one).0 t.one_in, (entries_readings g w t.other).0 t.other_in, t.apart)
