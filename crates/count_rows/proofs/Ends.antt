-- The counts at a close: one for each nonterminal that has an empty rule, if that is allowed.
use Prim.Native.Nat.{ℕ, suc, ◌+◌, ◌<◌, ◌≤◌}
use native.Mathlib.Nat.{add-zero, zero-add}
use native.Mathlib.Omega.{arith}
use mathlib.Core.Path.{◌≡◌, refl, sym, ◌∙◌, ap}
use mathlib.Core.Logic.{◌⊎◌, inl, inr, ◌≢◌}
use mathlib.Core.Bool.{Bool, true, false, ◌&&◌, and-false, false≢true}
use borrow.Author.Tests.{eq-eqb, ne_eqb, ltb-true, ltb-false, lt-ltb, le-ltb, le-leb, lt-leb}
use lib.Dec.{eqb, ltb, leb}
use Rattle.laws.proofs.Bools.{eqb_refl, and_right, both}
use Rattle.laws.proofs.Lists.{trichotomy}
use Rattle.vpg.specs.declared.Rule.{Rule}
use Rattle.vpg.specs.believed.Grammar.{left}
use Rattle.tables.specs.declared.Head.{Head}
use Rattle.tables.specs.declared.Table.{Table}
use Rattle.tables.specs.Table.{rule_in}
use Rattle.rule_index.specs.Classes.{class_at}
use Rattle.rule_index.specs.Index.{FirstFrom, FirstEmpty, Indexed, end_in}
use Rattle.contexts.specs.declared.Context.{Context}
use Rattle.contexts.specs.Context.{code, token_here, low_here, may_end, applies_to}
use Rattle.contexts.proofs.Ends.{ends-only, ends_stand, other_class, end_ends}
use Rattle.count_theory.specs.Counts.{Counts, given}
use Rattle.count_theory.proofs.Places.{below_none, only_one}
use Rattle.count_rows.specs.declared.rows.Rows.{Rows}
use Rattle.count_rows.specs.Rows.{capped_parts, row_in, AddedIf, EndsOnly, InRow}
use Rattle.count_rows.proofs.Row.{row_added, row_same}

-- a rule that is for another nonterminal, or can't stand here, adds nothing
dead : (a b o : Bool) (n : ℕ) → (a && b) ≡ false → given (a && (o && b)) n ≡ 0
dead true b o n e = rw (e, and-false o)
dead false b o n e = refl

module _ (t : Table) (head : Head) (context : Context) (x : Indexed t head) {low : ℕ} (o : EndsOnly t head context low) (ok : ℕ → Bool) (inside after : Counts) where
  abbrev Fits : ℕ → ℕ → Bool
  Fits q M = eqb (left (rule_in t q)) M && applies_to head.well (rule_in t q) context

  -- what rule n adds
  abbrev Adds : ℕ → ℕ → ℕ
  Adds n M = given (eqb (left (rule_in t n)) M && (ok n && applies_to head.well (rule_in t n) context)) (capped_parts inside after (rule_in t n))

  no_more : (n M : ℕ) → n < head.rules → (rule_in t n ≡ Rule.Empty M → M < low → ⊥) → Adds n M ≡ 0
  no_more n M l d = dead (eqb (left (rule_in t n)) M) (applies_to head.well (rule_in t n) context) (ok n) (capped_parts inside after (rule_in t n)) (go (Fits n M) refl)
    where
      go : (b : Bool) → Fits n M ≡ b → b ≡ false
      go true e = let f = o.only n M l e in absurd (d f.0 f.1)
      go false e = refl

  one_more : (n M : ℕ) → M < low → rule_in t n ≡ Rule.Empty M → Adds n M ≡ given (ok n) 1
  one_more n M l e =
      let a = and_right (eqb (left (rule_in t n)) M) (applies_to head.well (rule_in t n) context) (o.fits n M e l) in
      rw (a, e, eqb_refl M) (go (ok n))
    where
      go : (b : Bool) → given (b && true) 1 ≡ given b 1
      go true = refl
      go false = refl

  -- of all rules, that of its empty one
  none-all : (M : ℕ) → low ≤ M → 0 ≡ row_in head.well t ok context inside after head.rules M
  unfolding row_in
  none-all M l = sym (below_none head.rules (λ q. Adds q M) (λ q k. no_more q M k (λ e m. omega arith)))

  ends_low : (M : ℕ) → M < low → M < 32 → given (ltb (end_in t M) head.rules && ok (end_in t M)) 1 ≡ row_in head.well t ok context inside after head.rules M
  unfolding row_in
  ends_low M m l = sym (only_one (λ q. Adds q M) e head.rules others ∙ go (ltb e head.rules) refl)
    where
      e : ℕ
      e = end_in t M

      f : FirstEmpty t head.rules M e
      f = x.ends M l

      other : (q : ℕ) → q < head.rules → q ≢ e → (q ≡ e) ⊎ ((q < e) ⊎ (e < q)) → rule_in t q ≢ Rule.Empty M
      other q k d (inl i) = absurd (d i)
      other q k d (inr (inl i)) = f.none q i
      other q k d (inr (inr i)) = λ j. x.ready.distinct e q i k (f.found (omega arith) ∙ sym j)

      others : (q : ℕ) → q < head.rules → q ≢ e → Adds q M ≡ 0
      others q k d = no_more q M k (λ i m. other q k d (trichotomy q e) i)

      go : (b : Bool) → ltb e head.rules ≡ b → given b (Adds e M) ≡ given (b && ok e) 1
      go true i = one_more e M m (f.found (ltb-true e head.rules i))
      go false i = refl

  pub ends-all : (M : ℕ) → M < 32 → given (ltb M low && (ltb (end_in t M) head.rules && ok (end_in t M))) 1 ≡ row_in head.well t ok context inside after head.rules M
  ends-all M l = split (ltb M low) refl
    where
      split : (b : Bool) → ltb M low ≡ b → given (b && (ltb (end_in t M) head.rules && ok (end_in t M))) 1 ≡ row_in head.well t ok context inside after head.rules M
      split true e = ends_low M (ltb-true M low e) l
      split false e = none-all M (ltb-false M low e)

-- ── nonterminal by nonterminal ──

-- the empty rules of the nonterminals below l
abbrev pub ends_below : Table → ℕ → (ℕ → Bool) → ℕ → Counts
ends_below t rules ok l M = given (ltb M l && (ltb (end_in t M) rules && ok (end_in t M))) 1

pub ends_next : (t : Table) (rules : ℕ) (ok : ℕ → Bool) (l : ℕ) {rows rows' rows'' : Rows} {p : ℕ} → l < 32 → InRow rows p (ends_below t rules ok l) rows' →
    AddedIf (ltb (end_in t l) rules && ok (end_in t l)) rows' p l 1 rows'' → InRow rows p (ends_below t rules ok (suc l)) rows''
ends_next t rules ok l h x a = row_same (λ M. ends_below t rules ok l M + given (eqb l M && test l) 1) (ends_below t rules ok (suc l)) (λ M k. go M (trichotomy M l)) (row_added (test l) (ends_below t rules ok l) h x a)
  where
    test : ℕ → Bool
    test M = ltb (end_in t M) rules && ok (end_in t M)

    go : (M : ℕ) → (M ≡ l) ⊎ ((M < l) ⊎ (l < M)) → given (ltb M l && test M) 1 + given (eqb l M && test l) 1 ≡ given (ltb M (suc l) && test M) 1
    go M (inl q) = rw (le-ltb M l (omega (arith, q)), lt-ltb M (suc l) (omega (arith, q)), eq-eqb l M (sym q)) (zero-add _ ∙ ap (λ (k : ℕ). given (test k) 1) (sym q))
    go M (inr (inl k)) = rw (lt-ltb M l k, lt-ltb M (suc l) (omega arith), ne_eqb l M (λ e. omega (arith, e))) (add-zero (given (test M) 1))
    go M (inr (inr k)) = rw (le-ltb M l (omega arith), le-ltb M (suc l) (omega arith), ne_eqb l M (λ e. omega (arith, e)))

-- all of them
pub ends-filled : (t : Table) (head : Head) (context : Context) (x : Indexed t head) {low : ℕ} → EndsOnly t head context low → (ok : ℕ → Bool) (inside after : Counts) {rows rows' : Rows} {p : ℕ} (l : ℕ) → l ≡ low →
    InRow rows p (ends_below t head.rules ok l) rows' → InRow rows p (row_in head.well t ok context inside after head.rules) rows'
ends-filled t head context x o ok inside after l e z =
    row_same (ends_below t head.rules ok l) (row_in head.well t ok context inside after head.rules) (λ M k. rw e (ends-all t head context x o ok inside after M k)) z

-- ── where only empty rules can stand ──

module _ {t : Table} {head : Head} (x : Indexed t head) (p : Context) where
  pub only_end : 4 ≤ code p.kind → EndsOnly t head p 32
  only_end h = record {
    only = λ q L l f. let e = ends-only head.well p (rule_in t q) L (end_ends head.well p h L) f in (e, let s : left (rule_in t q) ≡ L = ap left e in omega (arith, (x.ready.small q l).0));
    fits = λ q L e b. ends_stand head.well p (rule_in t q) L (end_ends head.well p h L) e;
  }

  pub only_close : code p.kind < 4 → 2 ≤ code p.kind → {n : ℕ} → FirstFrom t head.rules (class_at (token_here p)) 0 n → head.rules ≤ n → EndsOnly t head p head.well
  only_close near h first none = record { only = ends; fits = stands }
    where
      low_is : (L : ℕ) → low_here head.well p L ≡ ltb L head.well
      low_is L = rw (lt-leb 4 (code p.kind) near)

      ends : (q L : ℕ) → q < head.rules → (eqb (left (rule_in t q)) L && applies_to head.well (rule_in t q) p) ≡ true → (rule_in t q ≡ Rule.Empty L) × (L < head.well)
      ends q L l f = go (may_end head.well p L) refl
        where
          go : (b : Bool) → may_end head.well p L ≡ b → (rule_in t q ≡ Rule.Empty L) × (L < head.well)
          go false m = absurd (false≢true (sym (other_class head.well p (rule_in t q) L m (first.none q (omega arith) (omega arith))) ∙ f))
          go true m = (ends-only head.well p (rule_in t q) L m f, ltb-true L head.well (sym (low_is L) ∙ and_right (leb 2 (code p.kind)) (low_here head.well p L) m))

      stands : (q L : ℕ) → rule_in t q ≡ Rule.Empty L → L < head.well → (eqb (left (rule_in t q)) L && applies_to head.well (rule_in t q) p) ≡ true
      stands q L e b = ends_stand head.well p (rule_in t q) L (both (le-leb 2 (code p.kind) h) (low_is L ∙ lt-ltb L head.well b)) e
