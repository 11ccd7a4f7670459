-- Rules by the kind of the tokens at which they stand: which rules these are, by form and by class, and that such a rule can stand exactly where its
-- names and two digits say so.
use Prim.Native.Nat.{ℕ, zero, suc, ◌+◌, ◌*◌, ◌/◌, ◌<◌, ◌≤◌}
use native.Mathlib.Nat.{add-zero}
use native.Mathlib.Omega.{arith}
use native.Mathlib.Decide.{dec_lt}
use mathlib.Core.Path.{◌≡◌, refl, sym, ◌∙◌, ap}
use mathlib.Core.Bool.{Bool, true, false, cond, not, ◌&&◌, ◌||◌, and-true, and-false, false≢true}
use borrow.Author.Tests.{ne_eqb, eq-eqb, eqb-true, eqb-false, le-leb, lt-leb, le-ltb, leb-true, leb-false}
use lib.Dec.{eqb, ltb, leb}
use Rattle.vpg.specs.declared.OpenName.{OpenName}
use Rattle.vpg.specs.declared.CloseName.{CloseName}
use Rattle.vpg.specs.declared.Rule.{Rule}
use Rattle.vpg.specs.declared.Token.{Token}
use Rattle.vpg.specs.believed.Grammar.{InForm}
use Rattle.vpg.specs.Tests.{is_open, any_close, same_token}
use Rattle.level_theory.specs.Masks.{alone}
use Rattle.level_theory.proofs.Alive.{alone_high}
use Rattle.bits.specs.Bit.{bit}
use Rattle.tables.specs.declared.Six.{Six}
use Rattle.tables.specs.declared.Table.{Table}
use Rattle.vpg.specs.Forms.{name_of}
use Rattle.tables.specs.Table.{token_by, six_in, rule_in}
use Rattle.tables.proofs.Tables.{rule_empty, rule_next, rule_step}
use Rattle.rule_index.specs.Classes.{spread, class_at, class_by, class_of}
use Rattle.rule_index.specs.Goals.{goal, inside_goal, after_goal}
use Rattle.rule_index.specs.Index.{inside_in, after_in}
use Rattle.history_file.specs.believed.HistoryFile.{token_with}
use Rattle.contexts.specs.declared.Context.{Context}
use Rattle.contexts.specs.Context.{code, token_here, low_here, may_end, KindOf, AtKind, kind_fits, first_name, closes_by, takes_by, applies_to}

-- ── the token of a kind ──

close_with : (k name : ℕ) → 2 ≤ k → token_with k name ≡ Token.Close (record { 0 = name })
unfolding token_with
close_with k name h = rw (ne_eqb k 0 (λ e. omega arith), ne_eqb k 1 (λ e. omega arith))

pub class_here : (k name : ℕ) → class_by k name ≡ class_at (token_with k name)
unfolding token_with
class_here zero name = add-zero (4 * spread name)
class_here (suc zero) name = refl
class_here (suc (suc k)) name = rw (le-leb 2 (suc (suc k)) (omega arith), ne_eqb (suc (suc k)) 0 (λ e. omega arith), ne_eqb (suc (suc k)) 1 (λ e. omega arith))

-- ── rules of the token's class ──

pub class_kind : (R : Rule) (k name : ℕ) → k < 4 → class_of R ≡ class_at (token_with k name) → AtKind R k
class_kind R k name h e = go R (e ∙ sym (class_here k name)) (dec_lt k 2)
  where
    far : (x : ℕ) → 2 ≤ k → x ≡ class_by k name → x ≡ 4 * spread name + 3
    far x l q = rw (le-leb 2 k l) at q

    near : (x : ℕ) → k < 2 → x ≡ class_by k name → x ≡ 4 * spread name + k
    near x l q = rw (lt-leb 2 k l) at q

    token : (i : Token) → class_at i ≡ class_by k name → Dec (k < 2) → KindOf i k
    token (Token.Mark c) q (yes l) = let z = near (class_at (Token.Mark c)) l q in omega arith
    token (Token.Mark c) q (no l) = let z = far (class_at (Token.Mark c)) (omega arith) q in absurd (omega arith)
    token (Token.Open a) q (yes l) = let z = near (class_at (Token.Open a)) l q in omega arith
    token (Token.Open a) q (no l) = let z = far (class_at (Token.Open a)) (omega arith) q in absurd (omega arith)
    token (Token.Close b) q (yes l) = let z = near (class_at (Token.Close b)) l q in absurd (omega arith)
    token (Token.Close b) q (no l) = (omega arith, h)

    go : (R : Rule) → class_of R ≡ class_by k name → Dec (k < 2) → AtKind R k
    go (Rule.Empty L) q (yes l) = let z = near (class_of (Rule.Empty L)) l q in omega arith
    go (Rule.Empty L) q (no l) = let z = far (class_of (Rule.Empty L)) (omega arith) q in omega arith
    go (Rule.Next L i L₁) q d = token i q d
    go (Rule.Step L a L₁ b L₂) q (yes l) = let z = near (class_of (Rule.Step L a L₁ b L₂)) l q in omega arith
    go (Rule.Step L a L₁ b L₂) q (no l) = let z = far (class_of (Rule.Step L a L₁ b L₂)) (omega arith) q in absurd (omega arith)

-- ── rules that stand at tokens of the kind ──

module _ (W : ℕ) (p : Context) where
  abbrev K : ℕ
  K = code p.kind

  -- before the end the well-matched nonterminals are those below W
  low_is : (L : ℕ) → K < 4 → low_here W p L ≡ ltb L W
  low_is L h = rw (lt-leb 4 K h)

  -- only a nonterminal that is not well matched has a rule that takes an open or a close alone
  free : (L : ℕ) → (L < W → ⊥) → not (ltb L W) ≡ true
  free L h = rw (le-ltb L W (alone_high W L h))

  next_taken : (L : ℕ) (i : Token) (L₁ : ℕ) → InForm W (Rule.Next L i L₁) → KindOf i K → applies_to W (Rule.Next L i L₁) p ≡ takes_by W (Rule.Next L i L₁) p
  unfolding token_with
  next_taken L (Token.Mark c) L₁ f k = rw (low_is L (omega arith), k, and-true) refl
  next_taken L (Token.Open a) L₁ f k = rw (low_is L (omega arith), k, free L (λ l. (f l).0), and-true) refl
  next_taken L (Token.Close b) L₁ f k = rw (low_is L k.1, ne_eqb K 0 (λ e. omega (arith, k.0)), ne_eqb K 1 (λ e. omega (arith, k.0)), free L (λ l. (f l).0), and-true) refl

  pub taken : (R : Rule) → InForm W R → AtKind R K → applies_to W R p ≡ takes_by W R p
  unfolding token_with
  taken (Rule.Empty L) f k = absurd k
  taken (Rule.Next L i L₁) f k = next_taken L i L₁ f k
  taken (Rule.Step L a L₁ b L₂) f k = rw (low_is L (omega arith), k) refl

  -- ── by form ──

  -- the kind of the tokens that a rule of a form takes alone
  pub form_kind : (form name : ℕ) → (form ≡ 2 → ⊥) → kind_fits form K ≡ true → KindOf (token_by form name) K
  form_kind form name two q = go (eqb form 3) refl (eqb form 4) refl
    where
      quotient : K / 2 ≡ 1 → (2 ≤ K) × (K < 4)
      quotient e = (omega arith, omega arith)

      go : (a : Bool) → eqb form 3 ≡ a → (b : Bool) → eqb form 4 ≡ b → KindOf (cond a (Token.Open (record { 0 = name })) (cond b (Token.Close (record { 0 = name })) (Token.Mark (record { 0 = name })))) K
      go true e b f = let z : form ≡ 3 = eqb-true form 3 e in eqb-true K 1 (rw (z) at q)
      go false e true f = quotient (eqb-true (K / 2) 1 (rw f at q))
      go false e false f = eqb-true K 0 (rw (f, e, ne_eqb form 2 two) at q)

  pub kind_form : (form name : ℕ) → (form ≡ 2 → ⊥) → KindOf (token_by form name) K → kind_fits form K ≡ true
  kind_form form name two q = go (eqb form 3) refl (eqb form 4) refl q
    where
      go : (a : Bool) → eqb form 3 ≡ a → (b : Bool) → eqb form 4 ≡ b → KindOf (cond a (Token.Open (record { 0 = name })) (cond b (Token.Close (record { 0 = name })) (Token.Mark (record { 0 = name })))) K → kind_fits form K ≡ true
      go true e b f q = let z : form ≡ 3 = eqb-true form 3 e in rw (z, q) refl
      go false e true f q = rw f (eq-eqb (K / 2) 1 (omega (arith, q.0, q.1)))
      go false e false f q = rw (f, e, ne_eqb form 2 two, q) refl

  -- a rule of another kind can't stand
  pub other_kind : (L : ℕ) (i : Token) (L₁ : ℕ) → (KindOf i K → ⊥) → applies_to W (Rule.Next L i L₁) p ≡ false
  unfolding token_with
  other_kind L i L₁ d = go K i d (ltb L W) (λ b. bit p.inside (goal b L₁))
    where
      go : (k : ℕ) (i : Token) → (KindOf i k → ⊥) → (l : Bool) (x : Bool → Bool) → (same_token i (token_with k p.name) && (alone i (leb 4 k || l) && x (leb 4 k || l))) ≡ false
      go zero (Token.Mark c) d l x = absurd (d refl)
      go zero (Token.Open a) d l x = refl
      go zero (Token.Close b) d l x = refl
      go (suc zero) (Token.Mark c) d l x = refl
      go (suc zero) (Token.Open a) d l x = absurd (d refl)
      go (suc zero) (Token.Close b) d l x = refl
      go (suc (suc k)) (Token.Mark c) d l x = rw (ne_eqb (suc (suc k)) 0 (λ e. omega arith), ne_eqb (suc (suc k)) 1 (λ e. omega arith)) refl
      go (suc (suc k)) (Token.Open a) d l x = rw (ne_eqb (suc (suc k)) 0 (λ e. omega arith), ne_eqb (suc (suc k)) 1 (λ e. omega arith)) refl
      go (suc (suc k)) (Token.Close b) d l x = let far : 4 ≤ suc (suc k) = beyond d in rw (le-leb 4 (suc (suc k)) far) (and-false (same_token (Token.Close b) (token_with (suc (suc k)) p.name)))
        where
          beyond : ((2 ≤ suc (suc k)) × (suc (suc k) < 4) → ⊥) → 4 ≤ suc (suc k)
          beyond d = pick (dec_lt (suc (suc k)) 4)
            where
              pick : Dec (suc (suc k) < 4) → 4 ≤ suc (suc k)
              pick (yes h) = absurd (d (omega arith, h))
              pick (no h) = omega arith

  pub other_open : (L : ℕ) (a : OpenName) (L₁ : ℕ) (b : CloseName) (L₂ : ℕ) → (K ≡ 1 → ⊥) → applies_to W (Rule.Step L a L₁ b L₂) p ≡ false
  unfolding token_with
  other_open L a L₁ b L₂ d = go K d _
    where
      go : (k : ℕ) → (k ≡ 1 → ⊥) → (x : Bool) → (is_open a (token_with k p.name) && x) ≡ false
      go zero d x = refl
      go (suc zero) d x = absurd (d refl)
      go (suc (suc k)) d x = rw (ne_eqb (suc (suc k)) 0 (λ e. omega arith), ne_eqb (suc (suc k)) 1 (λ e. omega arith)) refl

-- ── by the numbers of a rule in its table ──

by_name : (form name : ℕ) → name_of (token_by form name) ≡ name
by_name form name = go (eqb form 3) (eqb form 4)
  where
    go : (a b : Bool) → name_of (cond a (Token.Open (record { 0 = name })) (cond b (Token.Close (record { 0 = name })) (Token.Mark (record { 0 = name })))) ≡ name
    go true b = refl
    go false true = refl
    go false false = refl

module _ (W : ℕ) (p : Context) (t : Table) (r : ℕ) (v : Six) (is : v ≡ six_in t r) where
  abbrev R : Rule
  R = rule_in t r

  not_empty : AtKind R (code p.kind) → v.0 ≡ 0 → ⊥
  not_empty k e = rw (rule_empty t r v is e) at k

  module _ (form : InForm W R) (k : AtKind R (code p.kind)) (goals : (inside_in t r ≡ inside_goal W R) × (after_in t r ≡ after_goal W R)) where
    named : (b : Bool) → eqb v.0 2 ≡ b → v.2 ≡ first_name R
    named true e = rw (rule_step t r v is (eqb-true v.0 2 e))
    named false e = rw (rule_next t r v is (not_empty k) (eqb-false v.0 2 e)) (sym (by_name v.0 v.2))

    name_is : eqb v.2 p.name ≡ eqb (first_name R) p.name
    name_is = ap (λ (n : ℕ). eqb n p.name) (named (eqb v.0 2) refl)

    pub other_name : (v.2 ≡ p.name → ⊥) → false ≡ applies_to W R p
    other_name d = sym (taken W p R form k ∙ rw (sym name_is ∙ ne_eqb v.2 p.name d))

    pub not_inside : bit p.inside (inside_in t r) ≡ false → false ≡ applies_to W R p
    not_inside q = sym (taken W p R form k ∙ rw (ap (bit p.inside) (sym goals.0) ∙ q) (and-false (eqb (first_name R) p.name)))

    module _ (same : v.2 ≡ p.name) (q : bit p.inside (inside_in t r) ≡ true) where
      by_close : applies_to W R p ≡ closes_by W R p
      by_close = taken W p R form k ∙ rw (sym name_is ∙ eq-eqb v.2 p.name same, ap (bit p.inside) (sym goals.0) ∙ q)

      pub step-takes : v.0 ≡ 2 → (eqb v.4 p.close.0 && bit p.after (after_in t r)) ≡ applies_to W R p
      step-takes e = rw goals.1 (sym (by_close ∙ closing (rule_step t r v is e)))
        where
          closing : {R : Rule} → R ≡ Rule.Step v.1 (record { 0 = v.2 }) v.3 (record { 0 = v.4 }) v.5 → closes_by W R p ≡ (eqb v.4 p.close.0 && bit p.after (after_goal W R))
          closing z = rw z refl

      pub alone-takes : (v.0 ≡ 2 → ⊥) → true ≡ applies_to W R p
      alone-takes d = sym (by_close ∙ nothing (rule_next t r v is (not_empty k) d))
        where
          nothing : {R : Rule} → R ≡ Rule.Next v.1 (token_by v.0 v.2) v.3 → closes_by W R p ≡ true
          nothing z = rw z refl

  -- ── any rule ──

  pub empty_applies : v.0 ≡ 0 → may_end W p v.1 ≡ applies_to W R p
  unfolding token_with
  empty_applies e = rw (rule_empty t r v is e) (go (leb 2 (code p.kind)) refl)
    where
      go : (b : Bool) → leb 2 (code p.kind) ≡ b → (b && low_here W p v.1) ≡ (low_here W p v.1 && any_close (token_here p))
      go true e = rw (close_with (code p.kind) p.name (leb-true 2 (code p.kind) e)) (sym (and-true (low_here W p v.1)))
      go false e = rw (before (code p.kind) (leb-false 2 (code p.kind) e)) (sym (and-false (low_here W p v.1)))
        where
          before : (k : ℕ) → k < 2 → any_close (token_with k p.name) ≡ false
          before zero h = refl
          before (suc zero) h = refl
          before (suc (suc k)) h = absurd (omega arith)

  pub form_at : (v.0 ≡ 0 → ⊥) → kind_fits v.0 (code p.kind) ≡ true → AtKind R (code p.kind)
  form_at d q = go (eqb v.0 2) refl
    where
      go : (b : Bool) → eqb v.0 2 ≡ b → AtKind R (code p.kind)
      go true e = let z = eqb-true v.0 2 e in rw (rule_step t r v is z) (eqb-true (code p.kind) 1 (rw z at q))
      go false e = let z = eqb-false v.0 2 e in rw (rule_next t r v is d z) (form_kind W p v.0 v.2 z q)

  pub form_apart : (v.0 ≡ 0 → ⊥) → kind_fits v.0 (code p.kind) ≡ false → false ≡ applies_to W R p
  form_apart d q = go (eqb v.0 2) refl
    where
      go : (b : Bool) → eqb v.0 2 ≡ b → false ≡ applies_to W R p
      go true e = let z = eqb-true v.0 2 e in rw (rule_step t r v is z) (sym (other_open W p v.1 (record { 0 = v.2 }) v.3 (record { 0 = v.4 }) v.5 (eqb-false (code p.kind) 1 (rw z at q))))
      go false e = let z = eqb-false v.0 2 e in rw (rule_next t r v is d z) (sym (other_kind W p v.1 (token_by v.0 v.2) v.3 (λ k. false≢true (sym q ∙ kind_form W p v.0 v.2 z k))))
