-- `masks` says which nonterminals and stacks have a run.
use Prim.Native.Nat.{ℕ, ◌<◌, ◌≤◌}
use native.Mathlib.Omega.{arith}
use native.Mathlib.Decide.{dec_lt}
use mathlib.Core.Path.{◌≡◌, refl, ap, subst}
use mathlib.Core.Logic.{◌↔◌}
use mathlib.Core.Bool.{Bool, true, false, not, ◌&&◌, false≢true}
use mathlib.Core.List.Memᴰ
use mathlib.Core.List.{List, [], ◌∷◌, Memᴰ}
use mathlib.Core.Option.{some}
use borrow.Author.Tests.{eqb-true, eq-eqb, ltb-true, ltb-false, lt-ltb, le-ltb, le-leb, leb-true}
use lib.Dec.{eqb, ltb}
use lib.ListN.{get_elem?}
use Rattle.laws.proofs.Any.{any_some, some-any}
use Rattle.vpg.specs.declared.CloseName.{CloseName}
use Rattle.vpg.specs.declared.Rule.{Rule}
use Rattle.vpg.specs.declared.Token.{Token}
use Rattle.vpg.specs.believed.Grammar.{Rules, Plain, InForm, General, left}
use Rattle.vpg.specs.Runs.{Stack, runs}
use Rattle.vpg.specs.Tests.{is_open, same_token}
use Rattle.laws.proofs.Bools.{and_left, and_right, both}
use Rattle.vpg.proofs.Take.{Move, by_empty, by_next, by_step, taken, take, ended, end}
use Rattle.vpg.proofs.Tests.{name_close, same_is, same_refl, open_is, any_close_is, if_empty_lem}
use Rattle.level_theory.specs.Masks.{Nonterminals, Outer, Masks, floor, onto, behind, alone, applies, finishes, lefts, outer, masks, Calm, Match, Fits}

-- rule number r is for L and passes
pub record Passes (p : Rule → Bool) (g : Rules) (L r : ℕ) : Type 0 where
  pub rule : Rule
  pub is : get_elem? g r ≡ some rule
  pub from : left rule ≡ L
  pub passes : p rule ≡ true

pub lefts-some : (p : Rule → Bool) (g : Rules) (L : ℕ) → lefts p g L ≡ true → (r : ℕ) × Passes p g L r
lefts-some p g L q =
    let h = any_some (λ R. eqb (left R) L && p R) g q in
    (h.number, record { rule = h.element; is = h.is; from = eqb-true _ _ (and_left _ _ h.passes); passes = and_right (eqb (left h.element) L) _ h.passes })

pub some-lefts : (p : Rule → Bool) (g : Rules) (L r : ℕ) (R : Rule) → get_elem? g r ≡ some R → left R ≡ L → p R ≡ true → lefts p g L ≡ true
some-lefts p g L r R i e q = some-any (λ R. eqb (left R) L && p R) g r i (both (eq-eqb _ _ e) q)

-- ── one level ──

not_true : (b : Bool) → not b ≡ true → b ≡ false
not_true true q = absurd (false≢true q)
not_true false q = refl

-- with nothing due: a nonterminal that derives all that is left
pub all-fits : (W K : ℕ) (x : Nonterminals) (ms : Outer) → onto false (floor W ms) x K ≡ true → Fits W K [] (x, ms)
all-fits W K x [] q = (and_left (x K) _ q, tt)
all-fits W K x (d ∷ ms) q = (and_left (x K) _ q, leb-true W K (and_right (x K) _ q))

pub fits_all : (W K : ℕ) (x : Nonterminals) (ms : Outer) → Fits W K [] (x, ms) → onto false (floor W ms) x K ≡ true
fits_all W K x [] f = both f.0 (le-leb 0 K (omega arith))
fits_all W K x (d ∷ ms) f = both f.0 (le-leb W K f.1)

-- from M to K in one level
on_fits : (W M K : ℕ) (s : Stack) (x : Nonterminals) (ms : Outer) → (M < W → K < W) → Match W M s ms → onto (ltb M W) (floor W ms) x K ≡ true → Fits W K s (x, ms)
on_fits W M K [] x [] h f q = (value (ltb M W) q, tt)
  where
    value : (low : Bool) → onto low 0 x K ≡ true → x K ≡ true
    value true q = q
    value false q = and_left (x K) _ q
on_fits W M K [] x (d ∷ ms) h f q = all-fits W K x (d ∷ ms) (rw (le-ltb M W f) at q)
on_fits W M K (e ∷ s) x [] h f q = absurd f
on_fits W M K (e ∷ s) x (d ∷ ms) h f q = (rw (lt-ltb M W f.0) at q, (h f.0, f.1, f.2, f.3))

record Before (W M K : ℕ) (s : Stack) (x : Nonterminals) (ms : Outer) : Type 0 where
  passes : onto (ltb M W) (floor W ms) x K ≡ true
  match : Match W M s ms

fits_on : (W M K : ℕ) (s : Stack) (x : Nonterminals) (ms : Outer) → (M < W → K < W) → Calm W M s → Fits W K s (x, ms) → Before W M K s x ms
fits_on W M K [] x [] h c f = record { passes = value (ltb M W); match = tt }
  where
    value : (low : Bool) → onto low 0 x K ≡ true
    value true = f.0
    value false = fits_all W K x [] f
fits_on W M K [] x (d ∷ ms) h c f =
    let l : W ≤ M = go (dec_lt M W) in
    record { passes = rw (le-ltb M W l) (fits_all W K x (d ∷ ms) f); match = l }
  where
    go : Dec (M < W) → W ≤ M
    go (yes z) = absurd (let y = h z in let u = f.1 in omega arith)
    go (no z) = omega arith
fits_on W M K (e ∷ s) x [] h c f = absurd f.1
fits_on W M K (e ∷ s) x (d ∷ ms) h c f = record { passes = rw (lt-ltb M W c.0) f.0; match = (c.0, f.1.1, f.1.2, f.1.3) }

-- with no well-matched nonterminal nothing is due
high_match : (W M : ℕ) (s : Stack) (ms : Outer) → W ≤ M → Match W M s ms → s ≡ []
high_match W M [] ms l f = refl
high_match W M (d ∷ s) [] l f = absurd f
high_match W M (d ∷ s) (m ∷ ms) l f = absurd (let u = f.0 in omega arith)

pub high_calm : (W M : ℕ) (s : Stack) → W ≤ M → Calm W M s → s ≡ []
high_calm W M [] l c = refl
high_calm W M (d ∷ s) l c = absurd (let u = c.0 in omega arith)

match_high : (W M : ℕ) (ms : Outer) → W ≤ M → Match W M [] ms
match_high W M [] l = tt
match_high W M (m ∷ ms) l = l

-- a rule that takes an open or a close alone is for none of the well-matched nonterminals
pub alone_high : (W M : ℕ) → (M < W → ⊥) → W ≤ M
alone_high W M h = go (dec_lt M W)
  where
    go : Dec (M < W) → W ≤ M
    go (yes z) = absurd (h z)
    go (no z) = omega arith

-- ── one step ──

-- R leads from nonterminal L with s due over the token t to what fits
pub record Goes (W : ℕ) (m : Masks) (R : Rule) (L : ℕ) (s : Stack) (t : Token) : Type 0 where
  pub nonterminal : ℕ
  pub due : Stack
  pub goes : Move R L s t nonterminal due
  pub fits : Fits W nonterminal due m

close_goes : {M : ℕ} {b : CloseName} {d : CloseName × ℕ} {s : Stack} → d.0 ≡ b → Move (Rule.Empty M) M (d ∷ s) (Token.Close b) d.1 s
close_goes q = rw (← q) by_empty

-- a token that is taken alone
next_goes : (W : ℕ) (m : Masks) (M : ℕ) (i : Token) (M₁ : ℕ) (s : Stack) → (M < W → Plain i × (M₁ < W)) → Match W M s (outer i m) → (alone i (ltb M W) && onto (ltb M W) (floor W m.1) m.0 M₁) ≡ true → Goes W m (Rule.Next M i M₁) M s i
next_goes W m M (Token.Mark c) M₁ s ok f q = record { nonterminal = M₁; due = s; goes = by_next; fits = on_fits W M M₁ s m.0 m.1 (λ h. (ok h).1) f q }
next_goes W m M (Token.Open a) M₁ s ok f q =
    let l = not_true (ltb M W) (and_left (not (ltb M W)) _ q) in
    let e = high_match W M s (outer (Token.Open a) m) (ltb-false M W l) f in
    rw e (record { nonterminal = M₁; due = []; goes = by_next; fits = all-fits W M₁ m.0 m.1 (rw l at (and_right (not (ltb M W)) _ q)) })
next_goes W m M (Token.Close b) M₁ s ok f q =
    let l = not_true (ltb M W) (and_left (not (ltb M W)) _ q) in
    let e = high_match W M s (outer (Token.Close b) m) (ltb-false M W l) f in
    rw e (record { nonterminal = M₁; due = []; goes = by_next; fits = all-fits W M₁ m.0 m.1 (rw l at (and_right (not (ltb M W)) _ q)) })

-- a rule that applies goes on, whatever is due
pub applies_goes : (W : ℕ) (m : Masks) (t : Token) (R : Rule) (s : Stack) → InForm W R → Match W (left R) s (outer t m) → applies W m t R ≡ true → Goes W m R (left R) s t
applies_goes W m t (Rule.Empty M) s ok f q =
    let b = any_close_is t (and_right (ltb M W) _ q) in
    subst (λ (t : Token). Match W M s (outer t m) → Goes W m (Rule.Empty M) M s t) b.1 (closes b.0 s) f
  where
    closes : (b : CloseName) (s : Stack) → Match W M s (outer (Token.Close b) m) → Goes W m (Rule.Empty M) M s (Token.Close b)
    closes b [] f = absurd (let u = ltb-true M W (and_left (ltb M W) _ q) in omega arith)
    closes b (d ∷ s) f = record { nonterminal = d.1; due = s; goes = close_goes f.1; fits = (f.2, f.3) }
applies_goes W m t (Rule.Next M i M₁) s ok f q =
    subst (λ (t : Token). Match W M s (outer t m) → Goes W m (Rule.Next M i M₁) M s t) (same_is i t (and_left (same_token i t) _ q))
    (λ f. next_goes W m M i M₁ s ok f (and_right (same_token i t) _ q))
    f
applies_goes W m t (Rule.Step M a M₁ b M₂) s ok f q =
    let h = and_right (is_open a t) (m.0 M₁ && behind (ltb M W) W m.1 b M₂) q in
    subst (λ (t : Token). Match W M s (outer t m) → Goes W m (Rule.Step M a M₁ b M₂) M s t) (open_is a t (and_left (is_open a t) _ q))
    (λ f. record { nonterminal = M₁; due = (b, M₂) ∷ s; goes = by_step; fits = (and_left (m.0 M₁) _ h, fit m.1 f (and_right (m.0 M₁) _ h)) })
    f
  where
    fit : (ms : Outer) → Match W M s (outer (Token.Open a) (m.0, ms)) → behind (ltb M W) W ms b M₂ ≡ true → Match W M₁ ((b, M₂) ∷ s) ms
    fit [] f n = absurd (false≢true n)
    fit (d ∷ ms) f n =
        let k = on_fits W M M₂ s d.1 ms ok.1 f (and_right (eqb b.0 d.0.0) _ n) in
        (ok.0, name_close (eqb-true _ _ (and_left (eqb b.0 d.0.0) _ n)), k.0, k.1)

-- a rule that goes on applies, and what is due matches the levels before the token
pub record Applied (W : ℕ) (m : Masks) (R : Rule) (L : ℕ) (s : Stack) (t : Token) : Type 0 where
  pub from : left R ≡ L
  pub applied : applies W m t R ≡ true
  pub match : Match W L s (outer t m)

next-applies : (W : ℕ) (m : Masks) (L : ℕ) (i : Token) (L₁ : ℕ) (s : Stack) → (L < W → Plain i × (L₁ < W)) → Calm W L s → Fits W L₁ s m → Applied W m (Rule.Next L i L₁) L s i
next-applies W m L (Token.Mark n) L₁ s ok c f =
    let k = fits_on W L L₁ s m.0 m.1 (λ h. (ok h).1) c f in
    record { from = refl; applied = both (same_refl (Token.Mark n)) k.passes; match = k.match }
next-applies W m L (Token.Open a) L₁ s ok c f =
    let l = alone_high W L (λ h. (ok h).0) in
    let e = high_calm W L s l c in
    record {
      from = refl;
      applied = both (same_refl (Token.Open a)) (rw (le-ltb L W l) (fits_all W L₁ m.0 m.1 (rw e at f)));
      match = rw e (match_high W L (outer (Token.Open a) m) l);
    }
next-applies W m L (Token.Close b) L₁ s ok c f =
    let l = alone_high W L (λ h. (ok h).0) in
    let e = high_calm W L s l c in
    record {
      from = refl;
      applied = both (same_refl (Token.Close b)) (rw (le-ltb L W l) (fits_all W L₁ m.0 m.1 (rw e at f)));
      match = rw e (match_high W L (outer (Token.Close b) m) l);
    }

pub goes_applies : (W : ℕ) (m : Masks) {R : Rule} {L : ℕ} {s : Stack} {t : Token} {L' : ℕ} {s' : Stack} → InForm W R → Calm W L s → Move R L s t L' s' → Fits W L' s' m → Applied W m R L s t
goes_applies W m ok c (by_empty {L}) f = record { from = refl; applied = rw (lt-ltb L W c.0); match = (c.0, refl, f.0, f.1) }
goes_applies W m ok c (by_next {L} {L₁} {t} {s}) f = next-applies W m L t L₁ s ok c f
goes_applies W m ok c (by_step {L} {L₁} {L₂} {a} {b} {s}) f = go m.0 m.1 f
  where
    go : (x : Nonterminals) (ms : Outer) → Fits W L₁ ((b, L₂) ∷ s) (x, ms) → Applied W (x, ms) (Rule.Step L a L₁ b L₂) L s (Token.Open a)
    go x [] f = absurd f.1
    go x (d ∷ ms) f =
        let k = fits_on W L L₂ s d.1 ms ok.1 c (f.1.2, f.1.3) in
        record {
          from = refl;
          applied = both (eq-eqb a.0 a.0 refl) (both f.0 (both (eq-eqb _ _ (ap (λ (n : CloseName). n.0) f.1.1)) k.passes));
          match = k.match;
        }

-- a search stays calm
pub calm_on : (W : ℕ) {R : Rule} {L : ℕ} {s : Stack} {t : Token} {L' : ℕ} {s' : Stack} → InForm W R → Move R L s t L' s' → Calm W L s → Calm W L' s'
calm_on W ok by_empty c = c.1
calm_on W ok (by_next {s = []}) c = tt
calm_on W ok (by_next {s = d ∷ s}) c = ((ok c.0).1, c.1)
calm_on W ok (by_step {s = []}) c = (ok.0, tt)
calm_on W ok (by_step {s = d ∷ s}) c = (ok.0, (ok.1 c.0, c.1))

-- a rule for L that can stand at the end is the empty rule of L
pub ends_empty : (g : Rules) (L r : ℕ) → Passes finishes g L r → get_elem? g r ≡ some (Rule.Empty L)
ends_empty g L r h = rw ((if_empty_lem (λ M. true) h.rule h.passes).0, h.from) at h.is

-- ── all tokens ──

module _ (W : ℕ) (g : Rules) (ok : General W g) where
  pub run_fits : (w : List Token) (L : ℕ) (s : Stack) → Calm W L s → (e : List ℕ) → Memᴰ e (runs g (L, s) w) → Fits W L s (masks W g w)
  unfolding masks
  run_fits [] L s c e m =
      let h = ended g L s e m in
      rw h.done (some-lefts finishes g L h.number (Rule.Empty L) h.is refl refl, tt)
  run_fits (t ∷ w) L s c e m =
      let h = taken g L s t w e m in
      let a = ok h.number h.rule h.is in
      let k = goes_applies W (masks W g w) a c h.goes (run_fits w h.nonterminal h.due (calm_on W a h.goes c) h.rest h.run) in
      (some-lefts (applies W (masks W g w) t) g L h.number h.rule h.is k.from k.applied, k.match)

  pub fits_run : (w : List Token) (L : ℕ) (s : Stack) → Fits W L s (masks W g w) → (e : List ℕ) × Memᴰ e (runs g (L, s) w)
  unfolding masks
  fits_run [] L [] f =
      let h = lefts-some finishes g L f.0 in
      (h.0 ∷ [], end g (ends_empty g L h.0 h.1))
  fits_run [] L (d ∷ s) f = absurd f.1
  fits_run (t ∷ w) L s f =
      let h = lefts-some (applies W (masks W g w) t) g L f.0 in
      let k = applies_goes W (masks W g w) t h.1.rule s (ok h.0 h.1.rule h.1.is) (rw h.1.from f.1) h.1.passes in
      let r = fits_run w k.nonterminal k.due k.fits in
      (h.0 ∷ r.0, rw h.1.from at (take g w h.1.is k.goes r.1))

  member : (l : List (List ℕ)) → ¬ (l ≡ []) → (e : List ℕ) × Memᴰ e l
  member [] h = absurd (h refl)
  member (e ∷ l) h = (e, Memᴰ.head refl)

  -- a nonterminal with a stack due has a run exactly when each is in the mask of its level
  pub alive : (w : List Token) (L : ℕ) (s : Stack) → Calm W L s → (¬ (runs g (L, s) w ≡ [])) ↔ Fits W L s (masks W g w)
  alive w L s c = (
    λ h. let m = member (runs g (L, s) w) h in run_fits w L s c m.0 m.1,
    λ f q. let r = fits_run w L s f in Memᴰ.not-nil (rw q at r.1),
  )
