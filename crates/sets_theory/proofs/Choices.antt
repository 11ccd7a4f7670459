-- Choices: the test says what it is to say, and the count counts them.
use Prim.Native.Nat.{ℕ, zero, suc, ◌+◌, ◌<◌}
use native.Mathlib.Nat.{le_of_suc-le-suc, eq-or-lt_of_le}
use native.Mathlib.Omega.{arith}
use mathlib.Core.Path.{◌≡◌, refl, sym, ◌∙◌}
use mathlib.Core.Logic.{◌⊎◌, inl, inr, ⊎_elim, ◌↔◌}
use mathlib.Core.Bool.{Bool, true, false, ◌&&◌, false≢true}
use mathlib.Core.List.Memᴰ
use mathlib.Core.List.{List, [], ◌∷◌}
use mathlib.Core.Option.{Option, none, some}
use borrow.Author.Tests.{eqb-true, eq-eqb}
use lib.ListN.{length, get_elem?}
use Rattle.laws.proofs.Any.{below_some, some_below}
use Rattle.laws.proofs.Bools.{both, and_left, and_right}
use Rattle.laws.proofs.Lists.{trichotomy}
use Rattle.vpg.specs.declared.Rule.{Rule}
use Rattle.vpg.specs.declared.Token.{Token}
use Rattle.vpg.specs.believed.Grammar.{Grammar, left}
use Rattle.sets_theory.specs.ChoiceTest.{same_left, met_before, choice}
use Rattle.sets_theory.specs.Counted.{Counted}
use Rattle.sets_theory.specs.KeptTest.{kept}
use Rattle.sets_theory.specs.believed.Sets.{KeptFor, Choice, one, count, choice_count}
use Rattle.sets_theory.proofs.Sets.{kept_is, kept_below}

-- ── one position ──

-- the two rules that passed
record Alike (o o' : Option Rule) : Type 0 where
  first : Rule
  second : Rule
  first_is : o ≡ some first
  second_is : o' ≡ some second
  same : left first ≡ left second

alike : (o o' : Option Rule) → same_left o o' ≡ true → Alike o o'
alike none o h = absurd (false≢true h)
alike (some R) none h = absurd (false≢true h)
alike (some R) (some R') h = record { first = R; second = R'; first_is = refl; second_is = refl; same = eqb-true (left R) (left R') h }

module _ (g : Grammar) (w : List Token) (p : ℕ) where
  -- a rule of the set, and one before it
  abbrev Second : ℕ → Bool
  Second r = kept g w p r && met_before g w p r

  abbrev First : ℕ → ℕ → Bool
  First r r' = kept g w p r' && same_left (get_elem? g.rules r') (get_elem? g.rules r)

  two : (r : ℕ) → Second r ≡ true → Choice g w p
  two r h =
      let b = below_some r (First r) (and_right (kept g w p r) (met_before g w p r) h) in
      let r' = b.number in
      let a = alike (get_elem? g.rules r') (get_elem? g.rules r) (and_right (kept g w p r') _ b.passes) in (
        left a.second,
        r,
        r',
        λ e. omega (arith, e, b.small),
        ((kept_is g w p r).0 (and_left (kept g w p r) (met_before g w p r) h), (a.second, a.second_is, refl)),
        ((kept_is g w p r').0 (and_left (kept g w p r') _ b.passes), (a.first, a.first_is, a.same)),
      )

  found : {L r r' : ℕ} → r' < r → KeptFor g w p L r → KeptFor g w p L r' → choice g w p ≡ true
  unfolding choice
  found {L} {r} {r'} l (k, (R, e, q)) (k', (R', e', q')) =
      let same : same_left (get_elem? g.rules r') (get_elem? g.rules r) ≡ true = rw (e, e') (eq-eqb (left R') (left R) (q' ∙ sym q)) in
      some_below (length g.rules) Second r (kept_below g w p r k).0
      (both ((kept_is g w p r).1 k) (some_below r (First r) r' l (both ((kept_is g w p r').1 k') same)))

  -- "its set holds two rules of one and the same stage"
  pub choice_is : (choice g w p ≡ true) ↔ Choice g w p
  unfolding choice
  choice_is = (λ h. let a = below_some (length g.rules) Second h in two a.number a.passes, λ c. go c (trichotomy c.1 c.2))
    where
      go : (c : Choice g w p) → (c.1 ≡ c.2) ⊎ ((c.1 < c.2) ⊎ (c.2 < c.1)) → choice g w p ≡ true
      go c (inl e) = absurd (c.3 e)
      go c (inr (inl l)) = found l c.5 c.4
      go c (inr (inr l)) = found l c.4 c.5

  -- no choice stands past position n
  choice-within : choice g w p ≡ true → p < suc (length w)
  choice-within h =
      let c = choice_is.0 h in
      omega (arith, (kept_below g w p c.1 c.4.0).1)

-- ── how many ──

-- `count` counts
counted : (n : ℕ) (f : ℕ → Bool) → Counted (λ i. (i < n) × (f i ≡ true)) (count n f)
unfolding count
counted zero f = record { numbers = []; distinct = tt; members = λ i. (λ m. absurd (Memᴰ.not-nil m), λ h. absurd (omega arith)); size = refl }
counted (suc n) f = go (f n) refl (counted n f)
  where
    go : (b : Bool) → f n ≡ b → Counted (λ i. (i < n) × (f i ≡ true)) (count n f) → Counted (λ i. (i < suc n) × (f i ≡ true)) (one b + count n f)
    go true q c =
        record {
          numbers = n ∷ c.numbers;
          distinct = (λ m. omega (arith, ((c.members n).0 m).0), c.distinct);
          members = λ i. (
            λ m. ⊎_elim (λ e. (omega arith, rw e q)) (λ m'. let h = (c.members i).0 m' in (omega arith, h.1)) (Memᴰ.cases_cons m),
            λ h. ⊎_elim (λ e. Memᴰ.head e) (λ l. Memᴰ.tail ((c.members i).1 (l, h.1))) (eq-or-lt_of_le (le_of_suc-le-suc h.0)),
          );
          size = omega (arith, c.size);
        }
    go false q c =
        record {
          numbers = c.numbers;
          distinct = c.distinct;
          members = λ i. (
            λ m. let h = (c.members i).0 m in (omega arith, h.1),
            λ h. ⊎_elim (λ e. absurd (false≢true (sym q ∙ rw e at h.1))) (λ l. (c.members i).1 (l, h.1)) (eq-or-lt_of_le (le_of_suc-le-suc h.0)),
          );
          size = omega (arith, c.size);
        }

-- "the count of choices"
pub choice_count_is : (g : Grammar) (w : List Token) → Counted (Choice g w) (choice_count g w)
unfolding choice_count
choice_count_is g w =
    let c = counted (suc (length w)) (choice g w) in
    record {
      numbers = c.numbers;
      distinct = c.distinct;
      members = λ p. (λ m. (choice_is g w p).0 ((c.members p).0 m).1, λ h. let t = (choice_is g w p).1 h in (c.members p).1 (choice-within g w p t, t));
      size = c.size;
    }
