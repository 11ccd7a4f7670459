-- The test for a repeated rule says what it should: two rules pass it where they are one, and a rule is found where it is in the list
-- (document 01, refusal 8: "a rule equal in form and all fields to an earlier rule").
use Prim.Native.Nat.{ℕ, zero, suc, ◌-◌, ◌<◌}
use mathlib.Core.Path.{◌≡◌, refl, sym, ap, ◌∙◌}
use mathlib.Core.Logic.{◌↔◌, ◌⊎◌, inl, inr}
use mathlib.Core.Bool.{Bool, true, false, ◌&&◌, ◌||◌, false≢true, or-true, or-false, or_assoc}
use mathlib.Core.List.Memᴰ
use mathlib.Core.List.{List, [], ◌∷◌, ◌++◌, Memᴰ}
use native.Mathlib.Omega.{arith}
use lib.Dec.{eqb}
use borrow.Author.Tests.{eqb-true, eq-eqb}
use Rattle.vpg.specs.declared.Rule.{Rule}
use Rattle.vpg.specs.believed.Grammar.{left}
use Rattle.tables.specs.declared.Six.{Six}
use Rattle.tables.specs.declared.Table.{Table}
use Rattle.tables.specs.Table.{six_of, rule_from, same_six, same_rule, earlier, rule_in, rules_in}
use Rattle.tables.proofs.Tables.{from_of}

-- the first test of a row, and the others
next_test : (m n : ℕ) (b : Bool) → (eqb m n && b) ≡ true → (m ≡ n) × (b ≡ true)
next_test m n b h = go (eqb m n) refl h
  where
    go : (t : Bool) → eqb m n ≡ t → (t && b) ≡ true → (m ≡ n) × (b ≡ true)
    go true e p = (eqb-true m n e, p)
    go false e p = absurd (false≢true p)

six_is : (a b : Six) → same_six a b ≡ true → a ≡ b
six_is a b h =
    let t0 = next_test a.0 b.0 _ h in
    let t1 = next_test a.1 b.1 _ t0.1 in
    let t2 = next_test a.2 b.2 _ t1.1 in
    let t3 = next_test a.3 b.3 _ t2.1 in
    let t4 = next_test a.4 b.4 _ t3.1 in
    let t5 = eqb-true a.5 b.5 t4.1 in
    λ i. record { 0 = t0.0 i; 1 = t1.0 i; 2 = t2.0 i; 3 = t3.0 i; 4 = t4.0 i; 5 = t5 i }

six_self : (a : Six) → same_six a a ≡ true
six_self a = simp self
  where
    self : (n : ℕ) → eqb n n ≡ true
    self n = eq-eqb n n refl

pub same_rule_is : (r x : Rule) → (same_rule r x ≡ true) ↔ (r ≡ x)
unfolding same_rule
same_rule_is r x =
    (λ h. sym (from_of r) ∙ (ap rule_from (six_is (six_of r) (six_of x) h) ∙ from_of x), λ e. rw e (six_self (six_of x)))

pub other_left : (r x : Rule) → (left r ≡ left x → ⊥) → same_rule r x ≡ false
other_left r x apart = go (same_rule r x) refl
  where
    go : (b : Bool) → same_rule r x ≡ b → b ≡ false
    go true e = absurd (apart (ap left ((same_rule_is r x).0 e)))
    go false e = refl

pub earlier_is : (r : Rule) (rs : List Rule) → (earlier r rs ≡ true) ↔ Memᴰ r rs
unfolding earlier
earlier_is r [] = (λ h. absurd (false≢true h), λ m. absurd (Memᴰ.not-nil m))
earlier_is r (x ∷ xs) = (found (same_rule r x) refl (earlier_is r xs).0, λ m. finds (earlier_is r xs).1 (Memᴰ.cases_cons m))
  where
    found : (b : Bool) → same_rule r x ≡ b → (earlier r xs ≡ true → Memᴰ r xs) → (b || earlier r xs) ≡ true → Memᴰ r (x ∷ xs)
    found true e below h = Memᴰ.head ((same_rule_is r x).0 e)
    found false e below h = Memᴰ.tail (below h)

    finds : (Memᴰ r xs → earlier r xs ≡ true) → (r ≡ x) ⊎ Memᴰ r xs → (same_rule r x || earlier r xs) ≡ true
    finds below (inl e) = rw ((same_rule_is r x).1 e)
    finds below (inr m) = rw (below m, or-true)

-- the search from the last rule down: one more rule at the end, and one turn
pub earlier_snoc : (r x : Rule) (xs : List Rule) → earlier r (xs ++ (x ∷ [])) ≡ (earlier r xs || same_rule r x)
unfolding earlier
earlier_snoc r x [] = or-false (same_rule r x)
earlier_snoc r x (y ∷ ys) = rw (earlier_snoc r x ys) (sym (or_assoc (same_rule r y) (earlier r ys) (same_rule r x)))

pub earlier-at : (r : Rule) (t : Table) (j : ℕ) → 0 < j → earlier r (rules_in t j) ≡ (earlier r (rules_in t (j - 1)) || same_rule r (rule_in t (j - 1)))
unfolding rules_in
earlier-at r t zero h = absurd (omega arith)
earlier-at r t (suc n) h =
    let e : suc n - 1 ≡ n = omega arith in
    rw e (earlier_snoc r (rule_in t n) (rules_in t n))

-- the nonterminal that a rule is for is its second number
pub left_six : (r : Rule) → (six_of r).1 ≡ left r
left_six (Rule.Empty L) = refl
left_six (Rule.Next L i L₁) = refl
left_six (Rule.Step L a L₁ b L₂) = refl
