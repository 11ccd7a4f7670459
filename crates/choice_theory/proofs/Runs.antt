-- Two runs over the same tokens, at one position: the rules that they have there, and where they differ first.
use Prim.Native.Nat.{ℕ, zero, suc, ◌<◌}
use native.Mathlib.Omega.{arith}
use mathlib.Core.Path.{◌≡◌, refl, sym, ◌∙◌, ap, ap₂}
use mathlib.Core.Logic.{◌⊎◌, inl, inr, ◌≢◌}
use mathlib.Core.List.{List, [], ◌∷◌, Memᴰ}
use mathlib.Core.Option.{some, none-ne-some, some-injective}
use lib.ListN.{length, take, get_elem?}
use Rattle.laws.proofs.Lists.{trichotomy, heads, tails}
use Rattle.vpg.specs.declared.Rule.{Rule}
use Rattle.vpg.specs.declared.Token.{Token}
use Rattle.vpg.specs.believed.Grammar.{Rules, General, left}
use Rattle.vpg.specs.Runs.{Stack, State, runs}
use Rattle.vpg.proofs.Take.{Move, by_empty, by_next, by_step, moves, Taken, taken, ended, end}
use Rattle.vpg.proofs.Take as step
use Rattle.level_theory.specs.Masks.{masks, Calm}
use Rattle.level_theory.proofs.Alive.{applies_goes, goes_applies, calm_on, run_fits, fits_run}
use Rattle.choice_theory.specs.Several.{Differ}

-- ── lists ──

pub differ_somewhere : (e f : List ℕ) → length e ≡ length f → e ≢ f → (p : ℕ) × Differ e f p
differ_somewhere [] [] l d = absurd (d refl)
differ_somewhere [] (y ∷ f) l d = absurd (omega (arith, l))
differ_somewhere (x ∷ e) [] l d = absurd (omega (arith, l))
differ_somewhere (x ∷ e) (y ∷ f) l d = go (trichotomy x y) (differ_somewhere e f (omega (arith, l)))
  where
    here : x ≢ y → (p : ℕ) × Differ (x ∷ e) (y ∷ f) p
    here n = (0, record { one = x; other = y; before = refl; one_at = refl; other_at = refl; differ = n })

    go : (x ≡ y) ⊎ ((x < y) ⊎ (y < x)) → (e ≢ f → (p : ℕ) × Differ e f p) → (p : ℕ) × Differ (x ∷ e) (y ∷ f) p
    go (inl q) on =
        let (p, z) = on (λ i. d (ap₂ ◌∷◌ q i)) in
        (suc p, record { one = z.one; other = z.other; before = ap₂ ◌∷◌ q z.before; one_at = z.one_at; other_at = z.other_at; differ = z.differ })
    go (inr (inl m)) on = here (λ q. omega (arith, q))
    go (inr (inr m)) on = here (λ q. omega (arith, q))

-- ── the rule at a position ──

-- rule number r is for L
abbrev pub For : Rules → ℕ → ℕ → Type 0
For g r L = (R : Rule) × (get_elem? g r ≡ some R) × (left R ≡ L)

move-left : {R : Rule} {L : ℕ} {s : Stack} {t : Token} {L' : ℕ} {s' : Stack} → Move R L s t L' s' → left R ≡ L
move-left by_empty = refl
move-left by_next = refl
move-left by_step = refl

-- by one rule there is one way on
one_way : (g : Rules) {r r' : ℕ} {R R' : Rule} {L : ℕ} {s : Stack} {t : Token} (x y : State) → r ≡ r' → get_elem? g r ≡ some R → get_elem? g r' ≡ some R' →
    Move R L s t x.0 x.1 → Move R' L s t y.0 y.1 → x ≡ y
one_way g {R} {R'} x y q e e' m m' =
    let same : R ≡ R' = some-injective R R' (sym e ∙ ap (get_elem? g) q ∙ e') in
    some-injective x y (sym (moves m) ∙ rw same (moves m'))

-- the first rule of a run is for the nonterminal from which it runs
head_for : (g : Rules) (w : List Token) (L : ℕ) (s : Stack) (e : List ℕ) (r : ℕ) → Memᴰ e (runs g (L, s) w) → get_elem? e 0 ≡ some r → For g r L
head_for g [] L s e r m a =
    let h = ended g L s e m in
    (Rule.Empty L, rw (some-injective h.number r (rw h.shape at a)) at h.is, refl)
head_for g (t ∷ w) L s e r m a =
    let h = taken g L s t w e m in
    (h.rule, rw (some-injective h.number r (rw h.shape at a)) at h.is, move-left h.goes)

-- where two runs are the same up to a position, what is left to derive there is the same, so both have rules of one nonterminal there
pub same_for : (g : Rules) (w : List Token) (L : ℕ) (s : Stack) (e f : List ℕ) (p r r' : ℕ) → Memᴰ e (runs g (L, s) w) → Memᴰ f (runs g (L, s) w) →
    take p e ≡ take p f → get_elem? e p ≡ some r → get_elem? f p ≡ some r' → (K : ℕ) × For g r K × For g r' K
same_for g w L s e f zero r r' m m' q a b = (L, head_for g w L s e r m a, head_for g w L s f r' m' b)
same_for g [] L s e f (suc p) r r' m m' q a b = absurd (none-ne-some r (rw (ended g L s e m).shape at a))
same_for g (t ∷ w) L s e f (suc p) r r' m m' q a b = go (taken g L s t w e m) (taken g L s t w f m') (λ K z x y. same_for g w K z x y p r r')
  where
    On : Type 0
    On = (K : ℕ) (z : Stack) (x y : List ℕ) → Memᴰ x (runs g (K, z) w) → Memᴰ y (runs g (K, z) w) → take p x ≡ take p y → get_elem? x p ≡ some r → get_elem? y p ≡ some r' → (M : ℕ) × For g r M × For g r' M

    go : Taken g L s t w e → Taken g L s t w f → On → (K : ℕ) × For g r K × For g r' K
    go h k on =
        let both = rw (h.shape, k.shape) at q in
        let way = one_way g (h.nonterminal, h.due) (k.nonterminal, k.due) (heads both) h.is k.is h.goes k.goes in
        on h.nonterminal h.due h.rest k.rest h.run (rw way k.run) (tails both) (rw h.shape at a) (rw k.shape at b)

-- ── another rule at a position ──

-- a run that is the same as e up to position p and has rule r there
pub record Instead (g : Rules) (w : List Token) (L : ℕ) (s : Stack) (e : List ℕ) (p r : ℕ) : Type 0 where
  pub numbers : List ℕ
  pub run : Memᴰ numbers (runs g (L, s) w)
  pub before : take p numbers ≡ take p e
  pub at : get_elem? numbers p ≡ some r

-- a rule is for one nonterminal
one_for : (g : Rules) (r K L : ℕ) → For g r K → For g r L → K ≡ L
one_for g r K L (R, e, q) (R', e', q') = sym q ∙ ap left (some-injective R R' (sym e ∙ e')) ∙ q'

-- W: the well-matched nonterminals are those below it
module _ (W : ℕ) (g : Rules) (ok : General W g) where
  -- at the first position, where both run from the same nonterminal
  instead_here : (w : List Token) (L : ℕ) (s : Stack) (e : List ℕ) (s' : Stack) (f : List ℕ) (r : ℕ) → Calm W L s → Calm W L s' →
      Memᴰ e (runs g (L, s) w) → Memᴰ f (runs g (L, s') w) → get_elem? f 0 ≡ some r → Instead g w L s e 0 r
  instead_here [] L s e s' f r c c' m m' b =
      let k = ended g L s' f m' in
      record { numbers = k.number ∷ []; run = rw (ended g L s e m).done (end g k.is); before = refl; at = rw k.shape at b }
  instead_here (t ∷ w) L s e s' f r c c' m m' b =
      let h = taken g L s t w e m in
      let k = taken g L s' t w f m' in
      let ah = ok h.number h.rule h.is in
      let ak = ok k.number k.rule k.is in
      let mine = goes_applies W (masks W g w) ah c h.goes (run_fits W g ok w h.nonterminal h.due (calm_on W ah h.goes c) h.rest h.run) in
      let its = goes_applies W (masks W g w) ak c' k.goes (run_fits W g ok w k.nonterminal k.due (calm_on W ak k.goes c') k.rest k.run) in
      let way = applies_goes W (masks W g w) t k.rule s ak (rw its.from mine.match) its.applied in
      let (x, run) = fits_run W g ok w way.nonterminal way.due way.fits in
      record { numbers = k.number ∷ x; run = rw its.from at (step.take g w k.is way.goes run); before = refl; at = rw k.shape at b }

  -- a rule that some run has at a position can stand there in any other that has a rule of the same nonterminal there: what it needs is decided
  -- within its level, or, for a nonterminal that is no well-matched one, within all that is left, and what is due behind the level stays as it was
  pub instead : (w : List Token) (L : ℕ) (s : Stack) (e : List ℕ) (L' : ℕ) (s' : Stack) (f : List ℕ) (p r r' K : ℕ) → Calm W L s → Calm W L' s' →
      Memᴰ e (runs g (L, s) w) → Memᴰ f (runs g (L', s') w) → get_elem? e p ≡ some r → get_elem? f p ≡ some r' → For g r K → For g r' K → Instead g w L s e p r'
  instead w L s e L' s' f zero r r' K c c' m m' a b x y =
      let same : L ≡ L' = sym (one_for g r K L x (head_for g w L s e r m a)) ∙ one_for g r' K L' y (head_for g w L' s' f r' m' b) in
      instead_here w L s e s' f r' c (rw same c') m (rw same m') b
  instead [] L s e L' s' f (suc p) r r' K c c' m m' a b x y = absurd (none-ne-some r (rw (ended g L s e m).shape at a))
  instead (t ∷ w) L s e L' s' f (suc p) r r' K c c' m m' a b x y =
      let h = taken g L s t w e m in
      let k = taken g L' s' t w f m' in
      let z = instead w h.nonterminal h.due h.rest k.nonterminal k.due k.rest p r r' K (calm_on W (ok h.number h.rule h.is) h.goes c) (calm_on W (ok k.number k.rule k.is) k.goes c') h.run k.run (rw h.shape at a) (rw k.shape at b) x y in
      record { numbers = h.number ∷ z.numbers; run = step.take g w h.is h.goes z.run; before = ap (λ (l : List ℕ). h.number ∷ l) z.before ∙ sym (ap (take (suc p)) h.shape); at = z.at }
