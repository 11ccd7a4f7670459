-- What a rule gives, by its six numbers.
use Prim.Native.Nat.{ℕ, ◌<◌}
use native.Mathlib.Omega.{arith}
use mathlib.Core.Path.{◌≡◌, refl, sym, ◌∙◌, ap}
use mathlib.Core.Bool.{Bool, true, false, cond, ◌&&◌, false≢true}
use mathlib.Core.Logic.{◌≢◌}
use mathlib.Core.List.{List, []}
use borrow.Author.Tests.{eqb-true, eqb-false, eq-eqb, ne_eqb}
use lib.Dec.{eqb}
use lib.ListN.{get_or}
use Rattle.bits.specs.Bit.{bit}
use Rattle.vpg.specs.declared.OpenName.{OpenName}
use Rattle.vpg.specs.declared.CloseName.{CloseName}
use Rattle.vpg.specs.declared.Rule.{Rule}
use Rattle.vpg.specs.declared.Token.{Token}
use Rattle.vpg.specs.believed.Grammar.{left}
use Rattle.vpg.specs.Parts.{onward}
use Rattle.vpg.specs.Tests.{same_token}
use Rattle.tables.specs.declared.Six.{Six}
use Rattle.tables.specs.declared.Table.{Table}
use Rattle.tables.specs.Ready.{Below}
use Rattle.vpg.specs.Forms.{name_of}
use Rattle.tables.specs.Table.{token_by, six_in, rule_in}
use Rattle.tables.proofs.Tables.{rule_empty, rule_next, rule_step}
use Rattle.rule_index.specs.Classes.{class_at, class_of}
use Rattle.laws.proofs.Bools.{and_left, and_right}
use Rattle.pair_words.proofs.Below.{at-fits}
use Rattle.pair_words.specs.Words.{or_else, begins, contexts_in, contexts_by, gives_at, gives_behind, joined, gained}

-- ── tokens of one class ──

named : (f n : ℕ) → name_of (token_by f n) ≡ n
named f n = go (eqb f 3) (eqb f 4)
  where
    go : (a b : Bool) → name_of (cond a (Token.Open (record { 0 = n })) (cond b (Token.Close (record { 0 = n })) (Token.Mark (record { 0 = n })))) ≡ n
    go true b = refl
    go false true = refl
    go false false = refl

-- tokens of one class are of one kind
same_named : (i t : Token) → class_at i ≡ class_at t → same_token i t ≡ eqb (name_of i) (name_of t)
same_named (Token.Mark c) (Token.Mark c') e = refl
same_named (Token.Mark c) (Token.Open a) e = absurd (omega arith)
same_named (Token.Mark c) (Token.Close b) e = absurd (omega arith)
same_named (Token.Open a) (Token.Mark c) e = absurd (omega arith)
same_named (Token.Open a) (Token.Open a') e = refl
same_named (Token.Open a) (Token.Close b) e = absurd (omega arith)
same_named (Token.Close b) (Token.Mark c) e = absurd (omega arith)
same_named (Token.Close b) (Token.Open a) e = absurd (omega arith)
same_named (Token.Close b) (Token.Close b') e = refl

empty_apart : (L : ℕ) (t : Token) → class_of (Rule.Empty L) ≡ class_at t → ⊥
empty_apart L (Token.Mark c) e = omega arith
empty_apart L (Token.Open a) e = omega arith
empty_apart L (Token.Close b) e = omega arith

-- ── behind a token ──

-- a rule R of the token's class, whose six numbers are v
pub record Numbers (t : Token) (v : Six) (R : Rule) : Type 0 where
  pub starts : begins t R ≡ eqb v.2 (name_of t)
  pub own : left R ≡ v.1
  pub next : or_else (left R) (onward R) ≡ v.3
  pub contexts : (own : ℕ) → contexts_in own R ≡ contexts_by v.0 own v.3

next_numbers : (t : Token) (v : Six) → v.0 ≢ 2 → class_at (token_by v.0 v.2) ≡ class_at t → Numbers t v (Rule.Next v.1 (token_by v.0 v.2) v.3)
next_numbers t v z e = record {
  starts = same_named (token_by v.0 v.2) t e ∙ ap (λ (n : ℕ). eqb n (name_of t)) (named v.0 v.2);
  own = refl;
  next = refl;
  contexts = λ own. rw (ne_eqb v.0 2 z);
}

step_numbers : (t : Token) (v : Six) → v.0 ≡ 2 → class_of (Rule.Step v.1 (record { 0 = v.2 }) v.3 (record { 0 = v.4 }) v.5) ≡ class_at t →
    Numbers t v (Rule.Step v.1 (record { 0 = v.2 }) v.3 (record { 0 = v.4 }) v.5)
step_numbers t v z e = record {
  starts = same_named (Token.Open (record { 0 = v.2 })) t e;
  own = refl;
  next = refl;
  contexts = λ own. rw z;
}

pub numbers : (table : Table) (k : ℕ) (t : Token) (v : Six) → v ≡ six_in table k → class_of (rule_in table k) ≡ class_at t → Numbers t v (rule_in table k)
numbers table k t v e c = go (eqb v.0 0) refl (eqb v.0 2) refl
  where
    go : (empty : Bool) → eqb v.0 0 ≡ empty → (step : Bool) → eqb v.0 2 ≡ step → Numbers t v (rule_in table k)
    go true p step q = absurd (empty_apart v.1 t (rw (rule_empty table k v e (eqb-true v.0 0 p)) at c))
    go false p true q =
        let is = rule_step table k v e (eqb-true v.0 2 q) in
        rw is (step_numbers t v (eqb-true v.0 2 q) (rw is at c))
    go false p false q =
        let is = rule_next table k v e (eqb-false v.0 0 p) (eqb-false v.0 2 q) in
        rw is (next_numbers t v (eqb-false v.0 2 q) (rw is at c))

module _ (table : Table) (k : ℕ) (t : Token) (v : Six) (is : v ≡ six_in table k) (class : class_of (rule_in table k) ≡ class_at t) where
  pub begins_below : Below 32 (rule_in table k) → (v.1 < 32) × (v.3 < 32)
  begins_below h =
      let x = numbers table k t v is class in
      (rw x.own at h.0, rw x.next at (at-fits t [] (rule_in table k) h))

  module _ (from out : List ℕ) where
    -- the name is the token's, and a word gains the contexts
    pub gains : (own next m : ℕ) → v.2 ≡ name_of t → own ≡ v.1 → next ≡ v.3 → m ≡ contexts_by v.0 (get_or from own 0) next → joined out next m ≡ gained (gives_at t from) out (rule_in table k)
    gains own next m q e f z =
        let x = numbers table k t v is class in
        rw (x.starts, eq-eqb v.2 (name_of t) q, x.next, x.own, x.contexts, z, f, e)

    pub gains_none : v.2 ≢ name_of t → out ≡ gained (gives_at t from) out (rule_in table k)
    gains_none q = rw ((numbers table k t v is class).starts, ne_eqb v.2 (name_of t) q)

-- ── behind the close of a step ──

-- are the numbers those of a step with these names
abbrev step_named : OpenName → CloseName → Six → Bool
step_named a b v = eqb v.2 a.0 && (eqb v.4 b.0 && eqb v.0 2)

module _ (table : Table) (k : ℕ) (a : OpenName) (b : CloseName) (v : Six) (is : v ≡ six_in table k) where
  step_is : step_named a b v ≡ true → rule_in table k ≡ Rule.Step v.1 (record { 0 = v.2 }) v.3 (record { 0 = v.4 }) v.5
  step_is q = rule_step table k v is (eqb-true v.0 2 (and_right (eqb v.4 b.0) _ (and_right (eqb v.2 a.0) _ q)))

  pub step_below : step_named a b v ≡ true → Below 32 (rule_in table k) → (v.1 < 32) × (v.3 < 32) × (v.5 < 32)
  step_below q h = rw (step_is q) at h

  -- one test at the end in the place of another
  last : (x y z d : Bool) → (x && (y && z)) ≡ true → (x && (y && d)) ≡ d
  last x y z d q = rw (and_left x _ q, and_left y _ (and_right x _ q))

  module _ (done : ℕ) (from out : List ℕ) where
    named_last : step_named a b v ≡ true → (eqb v.2 a.0 && (eqb v.4 b.0 && bit done v.3)) ≡ bit done v.3
    named_last q = last (eqb v.2 a.0) (eqb v.4 b.0) (eqb v.0 2) (bit done v.3) q

    -- the names are the step's, and its inside may be finished
    pub gains_behind : (own next : ℕ) → step_named a b v ≡ true → bit done v.3 ≡ true → own ≡ v.1 → next ≡ v.5 →
        joined out next (get_or from own 0) ≡ gained (gives_behind a b done from) out (rule_in table k)
    gains_behind own next q d e f = rw (step_is q, named_last q, d, f, e)

    pub gains_unfinished : step_named a b v ≡ true → bit done v.3 ≡ false → out ≡ gained (gives_behind a b done from) out (rule_in table k)
    gains_unfinished q d = rw (step_is q, named_last q, d)

    pub gains_unlike : step_named a b v ≡ false → out ≡ gained (gives_behind a b done from) out (rule_in table k)
    gains_unlike q = go (eqb v.0 0) refl (eqb v.0 2) refl
      where
        none : (x y z d : Bool) → (x && (y && z)) ≡ false → z ≡ true → (x && (y && d)) ≡ false
        none false y z d h e = refl
        none true false z d h e = refl
        none true true z d h e = absurd (false≢true (sym h ∙ e))

        go : (empty : Bool) → eqb v.0 0 ≡ empty → (step : Bool) → eqb v.0 2 ≡ step → out ≡ gained (gives_behind a b done from) out (rule_in table k)
        go true p step s = rw (rule_empty table k v is (eqb-true v.0 0 p))
        go false p true s = rw (rule_step table k v is (eqb-true v.0 2 s), none (eqb v.2 a.0) (eqb v.4 b.0) (eqb v.0 2) (bit done v.3) q s)
        go false p false s = rw (rule_next table k v is (eqb-false v.0 0 p) (eqb-false v.0 2 s))
