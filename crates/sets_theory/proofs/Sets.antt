-- The tests say what they are to say: sets and stop marks, of readings and of entries.
use Prim.Native.Nat.{ℕ, zero, suc, ◌≤◌, ◌<◌}
use native.Mathlib.Nat.{le_of_suc-le-suc}
use native.Mathlib.Omega.{arith}
use mathlib.Core.Path.{◌≡◌, refl, ap, ap₂}
use mathlib.Core.Logic.{⊎_elim, ◌↔◌}
use mathlib.Core.Bool.{true, false≢true, or-true}
use mathlib.Core.List.Memᴰ
use mathlib.Core.List.{List, [], ◌∷◌, Memᴰ}
use mathlib.Core.Option.{some, none-ne-some, some-injective}
use borrow.Author.Tests.{eqb-true, eq-eqb}
use lib.ListN.{length, take, get_or, get_elem?}
use Rattle.vpg.specs.declared.Token.{Token}
use Rattle.vpg.specs.believed.Grammar.{Rules, Grammar, Tree, code, Derives, by_empty, by_next, by_step, Reading}
use Rattle.vpg.specs.Runs.{entries}
use Rattle.sets_theory.specs.KeptTest.{stands_at, stands_in, kept}
use Rattle.sets_theory.specs.believed.Sets.{Kept, marked, stop_mark, listed, stop_marks}
use Rattle.laws.proofs.Bools.{or_cases}
use Rattle.laws.proofs.Lists.{at_cases, at_below}
use Rattle.vpg.proofs.Entries.{reading_length}
use Rattle.vpg.proofs.Sound.{entries_readings}

-- ── sets ──

pub stands_at_lem : (e : List ℕ) (p r : ℕ) → (stands_at e p r ≡ true) ↔ (get_elem? e p ≡ some r)
stands_at_lem [] p r = (λ h. absurd (false≢true h), λ h. absurd (none-ne-some r h))
stands_at_lem (x ∷ e) zero r = (λ h. ap some (eqb-true x r h), λ h. eq-eqb x r (some-injective x r h))
stands_at_lem (x ∷ e) (suc p) r = stands_at_lem e p r

-- some list of l has r at p
abbrev Stands : List (List ℕ) → ℕ → ℕ → Type 0
Stands l p r = (e : List ℕ) × Memᴰ e l × (get_elem? e p ≡ some r)

in_is : (l : List (List ℕ)) (p r : ℕ) → (stands_in l p r ≡ true) ↔ Stands l p r
in_is [] p r = (λ h. absurd (false≢true h), λ h. absurd (Memᴰ.not-nil h.1))
in_is (e ∷ l) p r = (
  λ h. ⊎_elim (λ q. (e, Memᴰ.head refl, (stands_at_lem e p r).0 q)) (λ q. let s = (in_is l p r).0 q in (s.0, Memᴰ.tail s.1, s.2)) (or_cases (stands_at e p r) (stands_in l p r) h),
  λ h. ⊎_elim (λ q. rw ((stands_at_lem e p r).1 (rw q at h.2))) (λ m. rw ((in_is l p r).1 (h.0, m, h.2)) (or-true (stands_at e p r))) (Memᴰ.cases_cons h.1),
)

-- "some entry has the rule at that position"
pub kept_entry : (g : Grammar) (w : List Token) (p r : ℕ) → (kept g w p r ≡ true) ↔ ((e : List ℕ) × Memᴰ e (entries g w) × (get_elem? e p ≡ some r))
unfolding kept
kept_entry g w p r = in_is (entries g w) p r

pub kept_is : (g : Grammar) (w : List Token) (p r : ℕ) → (kept g w p r ≡ true) ↔ Kept g w p r
kept_is g w p r = (
  λ h.
      let s = (kept_entry g w p r).0 h in
      (s.0, (entries_readings g w s.0).0 s.1, s.2),
  λ h. (kept_entry g w p r).1 (h.0, (entries_readings g w h.0).1 h.1, h.2),
)

-- the numbers of a code are numbers of rules
code_below : (g : Rules) {L : ℕ} {w : List Token} {t : Tree} → Derives g L w t → (p r : ℕ) → get_elem? (code t) p ≡ some r → r < length g
code_below g (by_empty {r = r'} q) zero r h = rw (some-injective r' r h) at (at_below g r' q)
code_below g (by_empty q) (suc p) r h = absurd (none-ne-some r h)
code_below g (by_next {r = r'} q d) zero r h = rw (some-injective r' r h) at (at_below g r' q)
code_below g (by_next q d) (suc p) r h = code_below g d p r h
code_below g (by_step {r = r'} q d d') zero r h = rw (some-injective r' r h) at (at_below g r' q)
code_below g (by_step {t} {u} q d d') (suc p) r h = ⊎_elim (λ k. code_below g d p r k) (λ k. code_below g d' k.0 r k.2) (at_cases r (code t) (code u) p h)

-- no set reaches past the rules, or past position n
pub kept_below : (g : Grammar) (w : List Token) (p r : ℕ) → Kept g w p r → (r < length g.rules) × (p ≤ length w)
kept_below g w p r (e, h, s) = (code_below g.rules h.1 p r (rw h.2 s), omega (arith, at_below e p s, reading_length g w e h))

-- ── stop marks ──

marked_is : (l : List (List ℕ)) (P : List ℕ → Type 0) → ((e : List ℕ) → Memᴰ e l ↔ P e) → ((marked l ≡ 1) ↔ ((e : List ℕ) × P e)) × ((marked l ≡ 0) ↔ ((e : List ℕ) → P e → ⊥))
marked_is [] P is =
    ((λ h. absurd (omega arith), λ h. absurd (Memᴰ.not-nil ((is h.0).1 h.1))), (λ h e k. Memᴰ.not-nil ((is e).1 k), λ h. refl))
marked_is (e ∷ l) P is =
    let k = (is e).0 (Memᴰ.head refl) in
    ((λ h. (e, k), λ h. refl), (λ h. absurd (omega arith), λ h. absurd (h e k)))

-- "1 exactly when the first i tokens alone have a reading, else 0"
pub stop_mark_is : (g : Grammar) (w : List Token) (i : ℕ) →
    ((stop_mark g w i ≡ 1) ↔ ((e : List ℕ) × Reading g (take i w) e)) × ((stop_mark g w i ≡ 0) ↔ ((e : List ℕ) → Reading g (take i w) e → ⊥))
unfolding stop_mark
stop_mark_is g w i = marked_is (entries g (take i w)) (Reading g (take i w)) (entries_readings g (take i w))

pub length-listed : {A : Type 0} (n : ℕ) (f : ℕ → A) → length (listed n f) ≡ n
length-listed zero f = refl
length-listed (suc n) f = ap suc (length-listed n (λ i. f (suc i)))

pub get_or-listed : {A : Type 0} (n : ℕ) (f : ℕ → A) (i : ℕ) (d : A) → i < n → get_or (listed n f) i d ≡ f i
get_or-listed zero f i d h = absurd (omega arith)
get_or-listed (suc n) f zero d h = refl
get_or-listed (suc n) f (suc i) d h = get_or-listed n (λ i. f (suc i)) i d (le_of_suc-le-suc h)

pub listed_cong : {A : Type 0} (n : ℕ) (f f' : ℕ → A) → ((i : ℕ) → i < n → f i ≡ f' i) → listed n f ≡ listed n f'
listed_cong zero f f' h = refl
listed_cong (suc n) f f' h = ap₂ ◌∷◌ (h 0 (omega arith)) (listed_cong n (λ i. f (suc i)) (λ i. f' (suc i)) (λ i l. h (suc i) (omega arith)))

pub length-stop_marks : (g : Grammar) (w : List Token) → length (stop_marks g w) ≡ suc (length w)
unfolding stop_marks
length-stop_marks g w = length-listed (suc (length w)) (stop_mark g w)

-- the mark of position i stands at element i
pub stop_mark-at : (g : Grammar) (w : List Token) (i : ℕ) → i ≤ length w → get_or (stop_marks g w) i 0 ≡ stop_mark g w i
unfolding stop_marks
stop_mark-at g w i h = get_or-listed (suc (length w)) (stop_mark g w) i 0 (omega arith)
