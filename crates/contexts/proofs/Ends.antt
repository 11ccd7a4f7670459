-- At the end the nonterminals of the rules that can stand there are those that have an empty rule: the word that the index has of them. At a close
-- the well-matched ones among them are there from the start, and the rules of the close's class add the others.
use Prim.Native.Nat.{ℕ, zero, suc, ◌<◌, ◌≤◌}
use native.Mathlib.Nat.{eq-or-lt_of_le, le_of_suc-le-suc}
use native.Mathlib.Omega.{arith}
use mathlib.Core.Path.{◌≡◌, refl, sym, ◌∙◌, ap}
use mathlib.Core.Logic.{◌⊎◌, inl, inr, ⊎_elim, ◌≢◌}
use mathlib.Core.Bool.{Bool, true, false, cond, ◌&&◌, ◌||◌, or-true, or-false, false≢true}
use native.Mathlib.Decide.{dec_lt}
use borrow.Author.Tests.{eqb-true, ltb-true, ltb-false, lt-ltb, le-ltb, le-leb, lt-leb, leb-true, ne_eqb}
use lib.Dec.{eqb, ltb, leb}
use Rattle.laws.proofs.Bools.{and_left, and_right, both, or_cases, same_test, eqb_refl}
use Rattle.bits.specs.Bit.{bit, add_bit}
use Rattle.bits.proofs.Bits.{bit-zero, bit-add, same_members}
use Rattle.vpg.specs.declared.Rule.{Rule}
use Rattle.vpg.specs.believed.Grammar.{left}
use Rattle.vpg.specs.Tests.{any_close}
use Rattle.level_theory.proofs.Alive.{some-lefts}
use Rattle.tables.specs.declared.Head.{Head}
use Rattle.tables.specs.declared.Table.{Table}
use Rattle.tables.specs.Table.{rule_in, rules_in}
use Rattle.tables.proofs.Tables.{rules_at}
use Rattle.tables.specs.Ready.{Ready}
use Rattle.rule_index.specs.Classes.{class_at, class_of}
use Rattle.rule_index.specs.Index.{FirstEmpty, FirstFrom, Indexed, end_in, ends_in, low_ends_in}
use Rattle.rule_index.proofs.Chains.{passed_below}
use Rattle.rule_index.proofs.Classes.{Ends, stands_class, low_class}
use Rattle.history_file.specs.believed.HistoryFile.{token_with}
use Rattle.contexts.specs.declared.Context.{Context}
use Rattle.contexts.specs.Context.{code, token_here, low_here, may_end, inside_here, after_close, applies_to, base_of, with_left, level_in}
use Rattle.contexts.proofs.Contexts.{with-bit, level-bit}

-- every kind but those of marks and opens is that of closes
pub close_kind : (p : Context) → 2 ≤ code p.kind → any_close (token_here p) ≡ true
unfolding token_with
close_kind p h = rw (ne_eqb (code p.kind) 0 (λ e. omega arith), ne_eqb (code p.kind) 1 (λ e. omega arith))

close_only : (p : Context) → any_close (token_here p) ≡ true → 2 ≤ code p.kind
unfolding token_with
close_only p e = go (code p.kind) e
  where
    go : (k : ℕ) → any_close (token_with k p.name) ≡ true → 2 ≤ k
    go zero e = absurd (false≢true e)
    go (suc zero) e = absurd (false≢true e)
    go (suc (suc k)) e = omega arith

or_assoc : (a b c : Bool) → ((a || b) || c) ≡ (a || (b || c))
or_assoc true b c = refl
or_assoc false b c = refl

-- ── empty rules ──

-- rule R is for L and can stand here
abbrev pub FitsHere : ℕ → Context → Rule → ℕ → Bool
FitsHere W p R L = eqb (left R) L && applies_to W R p

-- where L can only end, its rules that can stand are empty
pub ends-only : (W : ℕ) (p : Context) (R : Rule) (L : ℕ) → may_end W p L ≡ true → FitsHere W p R L ≡ true → R ≡ Rule.Empty L
ends-only W p R L m e =
    let s = eqb-true (left R) L (and_left _ _ e) in
    let w = and_right (leb 2 (code p.kind)) (low_here W p L) m in
    let o = close_kind p (leb-true 2 (code p.kind) (and_left _ _ m)) in
    low_class (low_here W p (left R)) (inside_here p) (after_close p) (token_here p) R (ap (low_here W p) s ∙ w) o (and_right (eqb (left R) L) (applies_to W R p) e) ∙ ap Rule.Empty s

pub ends_stand : (W : ℕ) (p : Context) (R : Rule) (L : ℕ) → may_end W p L ≡ true → R ≡ Rule.Empty L → FitsHere W p R L ≡ true
ends_stand W p R L m e = rw e (both (eqb_refl L) (both (and_right (leb 2 (code p.kind)) (low_here W p L) m) (close_kind p (leb-true 2 (code p.kind) (and_left _ _ m)))))

-- where it can't, a rule of another class doesn't fit
pub other_class : (W : ℕ) (p : Context) (R : Rule) (L : ℕ) → may_end W p L ≡ false → class_of R ≢ class_at (token_here p) → FitsHere W p R L ≡ false
other_class W p R L m d = go (FitsHere W p R L) refl
  where
    go : (b : Bool) → FitsHere W p R L ≡ b → b ≡ false
    go false e = refl
    go true e =
        let s = eqb-true (left R) L (and_left _ _ e) in
        ⊎_elim (λ k. absurd (d k.class)) (λ k. absurd (false≢true (sym m ∙ both (le-leb 2 (code p.kind) (close_only p k.closes)) (sym (ap (low_here W p) s) ∙ k.well))))
        (stands_class (low_here W p (left R)) (inside_here p) (after_close p) (token_here p) R (and_right (eqb (left R) L) (applies_to W R p) e))

-- at the end
pub end_ends : (W : ℕ) (p : Context) → 4 ≤ code p.kind → (L : ℕ) → may_end W p L ≡ true
end_ends W p h L = both (le-leb 2 (code p.kind) (omega arith)) (rw (le-leb 4 (code p.kind) h))

-- no rule of a ready table is for a nonterminal from 32 on
pub none_above : {t : Table} {head : Head} → Ready t head → (L : ℕ) → 32 ≤ L → FirstEmpty t head.rules L head.rules
none_above {t} {head} x L h = record {
  most = omega arith;
  found = λ l. absurd (omega arith);
  none = λ q l e. absurd (let s : left (rule_in t q) ≡ L = ap left e in omega (arith, (x.small q l).0));
}

-- ── the level at the end ──

module _ (W : ℕ) (t : Table) (head : Head) (p : Context) (close : 4 ≤ code p.kind) where
  -- rule q is for L and can stand here
  abbrev Fits : ℕ → ℕ → Bool
  Fits q L = eqb (left (rule_in t q)) L && applies_to W (rule_in t q) p

  pub empty_fits : (q L : ℕ) → rule_in t q ≡ Rule.Empty L → Fits q L ≡ true
  empty_fits q L = ends_stand W p (rule_in t q) L (end_ends W p close L)

  pub fits_empty : (q L : ℕ) → Fits q L ≡ true → rule_in t q ≡ Rule.Empty L
  fits_empty q L = ends-only W p (rule_in t q) L (end_ends W p close L)

  -- e, the first empty rule of L, is one of the first n + 1 rules
  one_more : (L e : ℕ) → FirstEmpty t head.rules L e → (n : ℕ) → n < head.rules → (ltb e n || Fits n L) ≡ ltb e (suc n)
  one_more L e f n h =
      same_test (ltb e n || Fits n L) (ltb e (suc n)) (λ a. forth (or_cases (ltb e n) (Fits n L) a))
      (λ a. back (eq-or-lt_of_le (le_of_suc-le-suc (ltb-true e (suc n) a))))
    where
      reached : Fits n L ≡ true → (b : Bool) → ltb n e ≡ b → ltb e (suc n) ≡ true
      reached a true l = absurd (f.none n (ltb-true n e l) (fits_empty n L a))
      reached a false l = lt-ltb e (suc n) (omega (arith, ltb-false n e l))

      forth : (ltb e n ≡ true) ⊎ (Fits n L ≡ true) → ltb e (suc n) ≡ true
      forth (inl a) = lt-ltb e (suc n) (omega (arith, ltb-true e n a))
      forth (inr a) = reached a (ltb n e) refl

      back : (e ≡ n) ⊎ (e < n) → (ltb e n || Fits n L) ≡ true
      back (inl a) = let d : Fits n L ≡ true = empty_fits n L ((rw a at f.found) h) in rw d (or-true (ltb e n))
      back (inr a) = rw (lt-ltb e n a)

  -- L is in the level of the first n rules exactly when e is one of them
  level_empty : (L e : ℕ) → FirstEmpty t head.rules L e → (n : ℕ) → n ≤ head.rules → bit (level_in W t p n) L ≡ ltb e n
  unfolding level_in
  level_empty L e f zero h = bit-zero L ∙ sym (le-ltb e 0 (omega arith))
  level_empty L e f (suc n) h =
      with-bit (applies_to W (rule_in t n) p) (level_in W t p n) (left (rule_in t n)) L (ltb e n) (level_empty L e f n (omega arith)) ∙ one_more L e f n h

module _ (W : ℕ) (t : Table) (head : Head) (p : Context) (x : Indexed t head) (h : 4 ≤ code p.kind) where
  abbrev Level : ℕ
  Level = level_in W t p head.rules

  digit : (L : ℕ) (b : Bool) → ltb L 32 ≡ b → bit Level L ≡ bit (ends_in t) L
  digit L true l = level_empty W t head p h L (end_in t L) (x.ends L (ltb-true L 32 l)) head.rules (omega arith) ∙ sym (x.mask L ∙ rw l)
  digit L false l =
      level_empty W t head p h L head.rules (none_above x.ready L (ltb-false L 32 l)) head.rules (omega arith)
      ∙ le-ltb head.rules head.rules (omega arith)
      ∙ sym (x.mask L ∙ rw l)

  pub level-ends : level_in W t p head.rules ≡ ends_in t
  level-ends = same_members Level (ends_in t) (λ L. digit L (ltb L 32) refl)

-- ── the level at a token ──

-- a rule that can stand is in its level
pub level-has : (W : ℕ) (t : Table) (p : Context) (n q : ℕ) → q < n → applies_to W (rule_in t q) p ≡ true → bit (level_in W t p n) (left (rule_in t q)) ≡ true
level-has W t p n q l e = level-bit W t p n (left (rule_in t q)) ∙ some-lefts (λ R. applies_to W R p) (rules_in t n) (left (rule_in t q)) q (rule_in t q) (rules_at t n q l) refl e

module _ (t : Table) (head : Head) (p : Context) (x : Indexed t head) (h : code p.kind < 4) where
  abbrev W : ℕ
  W = head.well

  -- L is there from the start, or one of the first n rules lets it stand here
  abbrev pub Sofar : ℕ → ℕ → Bool
  Sofar L n = bit (base_of t p) L || bit (level_in W t p n) L

  low_is : (L : ℕ) → low_here W p L ≡ ltb L head.well
  low_is L = rw (lt-leb 4 (code p.kind) h)

  -- at a close: the first empty rule of a well-matched nonterminal
  base_has : (q L : ℕ) → q < head.rules → 2 ≤ code p.kind → L < head.well → rule_in t q ≡ Rule.Empty L → bit (base_of t p) L ≡ true
  base_has q L l k w e =
      let f = x.ends L (omega (arith, w, x.ready.well_small)) in
      rw (le-leb 2 (code p.kind) k) (x.low L ∙ rw (lt-ltb L head.well w) (first (dec_lt (end_in t L) head.rules) f))
    where
      first : Dec (end_in t L < head.rules) → FirstEmpty t head.rules L (end_in t L) → ltb (end_in t L) head.rules ≡ true
      first (yes m) f = lt-ltb _ _ m
      first (no m) f = absurd (f.none q (omega (arith, f.most)) e)

  -- a rule of another class adds nothing
  pub sofar_apart : (L q : ℕ) → q < head.rules → class_of (rule_in t q) ≢ class_at (token_here p) → Sofar L (suc q) ≡ Sofar L q
  unfolding level_in
  sofar_apart L q l d = go (applies_to W (rule_in t q) p) refl
    where
      R : Rule
      R = rule_in t q

      go : (b : Bool) → applies_to W R p ≡ b → (bit (base_of t p) L || bit (cond b (add_bit (level_in W t p q) (left R)) (level_in W t p q)) L) ≡ Sofar L q
      go false e = refl
      go true e = ⊎_elim (λ k. absurd (d k.class)) ending (stands_class (low_here W p (left R)) (inside_here p) (after_close p) (token_here p) R e)
        where
          ending : Ends (low_here W p (left R)) (inside_here p) (after_close p) (token_here p) R → (bit (base_of t p) L || bit (add_bit (level_in W t p q) (left R)) L) ≡ Sofar L q
          ending k = rw (bit-add (level_in W t p q) (left R) L) (at (eqb L (left R)) refl)
            where
              two : 2 ≤ code p.kind
              two = close_only p k.closes

              at : (b : Bool) → eqb L (left R) ≡ b → (bit (base_of t p) L || (bit (level_in W t p q) L || b)) ≡ Sofar L q
              at true i = let z = base_has q (left R) l two (ltb-true (left R) head.well (sym (low_is (left R)) ∙ k.well)) k.empty in rw (eqb-true L (left R) i, z)
              at false i = rw (or-false (bit (level_in W t p q) L))

  -- what is there from the start is there in the end
  base_in : (L : ℕ) → bit (base_of t p) L ≡ true → bit (level_in W t p head.rules) L ≡ true
  base_in L e = go (leb 2 (code p.kind)) refl e
    where
      go : (b : Bool) → leb 2 (code p.kind) ≡ b → bit (cond b (low_ends_in t) 0) L ≡ true → bit (level_in W t p head.rules) L ≡ true
      go false k e = absurd (false≢true (sym (bit-zero L) ∙ e))
      go true k e =
          let two = leb-true 2 (code p.kind) k in
          let m = sym (x.low L) ∙ e in
          let w = ltb-true L head.well (and_left (ltb L head.well) _ m) in
          let l = ltb-true (end_in t L) head.rules (and_right (ltb L head.well) _ m) in
          let f = (x.ends L (omega (arith, w, x.ready.well_small))).found l in
          let a : applies_to W (rule_in t (end_in t L)) p ≡ true = rw (f, low_is L, lt-ltb L head.well w) (close_kind p two) in
          let s : left (rule_in t (end_in t L)) ≡ L = ap left f in
          rw s at (level-has W t p head.rules (end_in t L) l a)

  pub sofar_whole : (set : ℕ) → ((L : ℕ) → bit set L ≡ Sofar L head.rules) → set ≡ level_in W t p head.rules
  sofar_whole set e = same_members set (level_in W t p head.rules) (λ L. e L ∙ go L (bit (base_of t p) L) refl)
    where
      go : (L : ℕ) (b : Bool) → bit (base_of t p) L ≡ b → (b || bit (level_in W t p head.rules) L) ≡ bit (level_in W t p head.rules) L
      go L true i = sym (base_in L i)
      go L false i = refl

  -- so up to the first rule of the class from number k on nothing is added
  pub sofar_over : (set k n : ℕ) → FirstFrom t head.rules (class_at (token_here p)) k n → ((L : ℕ) → bit set L ≡ Sofar L k) → (L : ℕ) → bit set L ≡ Sofar L n
  sofar_over set k n f e L = e L ∙ sym (passed_below (Sofar L) t head.rules (class_at (token_here p)) (sofar_apart L) f)

  -- at the start, before the first rule of the class
  pub sofar_start : (set L : ℕ) → set ≡ base_of t p → bit set L ≡ Sofar L 0
  unfolding level_in
  sofar_start set L e = rw (e, bit-zero L) (sym (or-false (bit (base_of t p) L)))

  -- one rule more
  pub sofar_with : (set n L : ℕ) → bit set L ≡ Sofar L n → bit (with_left W set (rule_in t n) p) L ≡ Sofar L (suc n)
  unfolding level_in
  sofar_with set n L e = go (applies_to W (rule_in t n) p)
    where
      go : (b : Bool) → bit (cond b (add_bit set (left (rule_in t n))) set) L ≡ (bit (base_of t p) L || bit (cond b (add_bit (level_in W t p n) (left (rule_in t n))) (level_in W t p n)) L)
      go false = e
      go true = bit-add set (left (rule_in t n)) L ∙ rw (e, bit-add (level_in W t p n) (left (rule_in t n)) L) (or_assoc (bit (base_of t p) L) (bit (level_in W t p n) L) (eqb L (left (rule_in t n))))
