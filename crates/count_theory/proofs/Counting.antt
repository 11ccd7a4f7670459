-- `counts` says how many runs pass a test position by position.
use Prim.Native.Nat.{ℕ, suc, ◌+◌, ◌*◌, ◌<◌, ◌≤◌}
use native.Mathlib.Nat.{zero-mul, mul-zero, one-mul, mul-one, mul_assoc, add-mul, zero-add, add_assoc}
use native.Mathlib.Decide.{dec_lt}
use native.Mathlib.Omega.{arith}
use mathlib.Core.Path.{◌≡◌, refl, sym, ◌∙◌, ap, ap₂}
use mathlib.Core.Bool.{Bool, true, false, ◌&&◌, and-false}
use mathlib.Core.List.{List, [], ◌∷◌, ◌++◌, map}
use mathlib.Core.Option.{Option, none, some}
use borrow.Author.Tests.{eqb-true, eq-eqb, lt-ltb, le-ltb, le-leb, lt-leb}
use lib.Dec.{eqb, ltb, leb}
use lib.ListN.{get_elem?}
use Rattle.vpg.specs.declared.CloseName.{CloseName}
use Rattle.vpg.specs.declared.OpenName.{OpenName}
use Rattle.vpg.specs.declared.Rule.{Rule}
use Rattle.vpg.specs.declared.Token.{Token}
use Rattle.vpg.specs.believed.Grammar.{Rules, Plain, InForm, General, left}
use Rattle.vpg.specs.Runs.{Stack, State, only, move, ends, collect, once, follow, runs}
use Rattle.vpg.specs.Tests.{is_open, is_close, same_token}
use Rattle.vpg.proofs.Take.{moved}
use Rattle.vpg.proofs.Tests.{same_is}
use Rattle.level_theory.specs.Masks.{floor, alone, tail, outer, Calm}
use Rattle.level_theory.proofs.Alive.{high_calm, alone_high, calm_on}
use Rattle.sets_theory.specs.believed.Sets.{one}
use Rattle.count_theory.specs.believed.CountAt.{tally}
use Rattle.count_theory.specs.Allowed.{Allowed, passes}
use Rattle.count_theory.specs.Counts.{Counts, Outer, Levels, given, onto, behind, continuations_at, continuations_end, sum, counts, weight, total}

-- ── numbers under a test ──

given_of_lem : (o e : Bool) (n k : ℕ) → given o (given e n * k) ≡ given (e && o) n * k
given_of_lem true true n k = refl
given_of_lem true false n k = refl
given_of_lem false true n k = sym (zero-mul k)
given_of_lem false false n k = sym (zero-mul k)

pub given-zero : (b : Bool) → given b 0 ≡ 0
given-zero true = refl
given-zero false = refl

nothing : (b : Bool) (k : ℕ) → 0 ≡ given b 0 * k
nothing b k = rw (given-zero b) (sym (zero-mul k))

-- ── tallies ──

pub tally-append : (f : List ℕ → Bool) (l l' : List (List ℕ)) → tally f (l ++ l') ≡ tally f l + tally f l'
tally-append f [] l' = sym (zero-add _)
tally-append f (e ∷ l) l' = rw (tally-append f l l', add_assoc)

tally_under : (ok : Allowed) (p n : ℕ) (l : List (List ℕ)) → tally (passes ok p) (map (λ e. n ∷ e) l) ≡ given (ok p n) (tally (passes ok (suc p)) l)
tally_under ok p n [] = sym (given-zero (ok p n))
tally_under ok p n (e ∷ l) = rw (tally_under ok p n l) (go (ok p n))
  where
    go : (b : Bool) → one (b && passes ok (suc p) e) + given b (tally (passes ok (suc p)) l) ≡ given b (one (passes ok (suc p) e) + tally (passes ok (suc p)) l)
    go true = refl
    go false = refl

-- the lists of each rule, by what they hold behind its number
tally-collect : (ok : Allowed) (p : ℕ) (k : Rule → List (List ℕ)) (n : ℕ) (g : Rules) → tally (passes ok p) (collect k n g) ≡ sum (λ r R. given (ok p r) (tally (passes ok (suc p)) (k R))) n g
tally-collect ok p k n [] = refl
tally-collect ok p k n (R ∷ g) = rw (tally-append (passes ok p) (map (λ e. n ∷ e) (k R)), tally_under ok p n (k R), tally-collect ok p k (suc n) g)

pub sum_same : (f h : ℕ → Rule → ℕ) (n : ℕ) (g : Rules) → ((r : ℕ) (R : Rule) → f r R ≡ h r R) → sum f n g ≡ sum h n g
sum_same f h n [] p = refl
sum_same f h n (R ∷ g) p = ap₂ ◌+◌ (p n R) (sum_same f h (suc n) g p)

-- of the rules of the list alone
pub sum_like : (f h : ℕ → Rule → ℕ) (n : ℕ) (g : Rules) → ((q r : ℕ) (R : Rule) → get_elem? g q ≡ some R → f r R ≡ h r R) → sum f n g ≡ sum h n g
sum_like f h n [] p = refl
sum_like f h n (R ∷ g) p = ap₂ ◌+◌ (p 0 n R refl) (sum_like f h (suc n) g (λ q r Q e. p (suc q) r Q e))

sum_times : (f : ℕ → Rule → ℕ) (k n : ℕ) (g : Rules) → sum (λ r R. f r R * k) n g ≡ sum f n g * k
sum_times f k n [] = sym (zero-mul k)
sum_times f k n (R ∷ g) = rw (sum_times f k (suc n) g, add-mul)

-- ── one level ──

nought : (x : Bool) (k : ℕ) → 0 ≡ given (x && false) 1 * k
nought true k = sym (zero-mul k)
nought false k = sym (zero-mul k)

given_times : (b : Bool) (n k : ℕ) → given b (n * k) ≡ given b n * k
given_times true n k = refl
given_times false n k = sym (zero-mul k)

given-one : (b : Bool) (n : ℕ) → n * given b 1 ≡ given b n
given-one true n = mul-one n
given-one false n = mul-zero n

-- no nonterminal is both below W and from W on
apart : (W M : ℕ) → given (ltb M W && true) 1 * given (leb W M) 1 ≡ 0
apart W M = go (dec_lt M W)
  where
    go : Dec (M < W) → given (ltb M W && true) 1 * given (leb W M) 1 ≡ 0
    go (yes l) = rw (lt-ltb M W l, lt-leb W M l)
    go (no l) = rw (le-ltb M W (omega arith)) (zero-mul _)

-- with nothing due, from W on
weight_high : (W M : ℕ) (ms : Outer) → W ≤ M → weight W M [] ms ≡ 1
weight_high W M [] h = refl
weight_high W M (d ∷ ms) h = rw (le-leb W M h)

pub all-weight : (W K n : ℕ) (ms : Outer) → n * weight W K [] ms ≡ given (leb (floor W ms) K) n
all-weight W K n [] = rw (le-leb 0 K (omega arith)) (mul-one n)
all-weight W K n (d ∷ ms) = given-one (leb W K) n

-- from M to K in one level
on_weight : (W M K : ℕ) (s : Stack) (x : Counts) (ms : Outer) → (M < W → K < W) → Calm W M s → x K * weight W K s ms ≡ onto (ltb M W) (floor W ms) x K * weight W M s ms
on_weight W M K [] x [] h c = go (ltb M W)
  where
    go : (low : Bool) → x K * 1 ≡ onto low 0 x K * 1
    go true = refl
    go false = rw (le-leb 0 K (omega arith))
on_weight W M K [] x (d ∷ ms) h c = go (dec_lt M W)
  where
    go : Dec (M < W) → x K * given (leb W K) 1 ≡ onto (ltb M W) W x K * given (leb W M) 1
    go (yes l) = rw (lt-ltb M W l, lt-leb W M l, lt-leb W K (h l)) (mul-zero (x K) ∙ sym (mul-zero (x K)))
    go (no l) = rw (le-ltb M W (omega arith), le-leb W M (omega arith)) (given-one (leb W K) (x K) ∙ sym (mul-one _))
on_weight W M K (e ∷ s) x [] h c = mul-zero _ ∙ sym (mul-zero _)
on_weight W M K (e ∷ s) x (d ∷ ms) h c = rw (lt-ltb M W c.0, lt-ltb K W (h c.0))

-- ── one token ──

-- how many derivations follow a state
abbrev pub ahead : ℕ → Levels → Option State → ℕ
ahead W m none = 0
ahead W m (some s) = total W m s.0 s.1

ahead_only : (W : ℕ) (m : Levels) (b : Bool) (M : ℕ) (s : State) → ahead W m (only (b && eqb M M) s) ≡ given b (total W m s.0 s.1)
ahead_only W m b M s = rw (eq-eqb M M refl) (go b)
  where
    go : (b : Bool) → ahead W m (only (b && true) s) ≡ given b (total W m s.0 s.1)
    go true = refl
    go false = refl

-- no rule of another nonterminal leads on
other : (R : Rule) (L : ℕ) (s : Stack) (t : Token) → eqb (left R) L ≡ false → move R L s t ≡ none
other (Rule.Empty M) L [] t e = refl
other (Rule.Empty M) L (d ∷ s) t e = rw (e, and-false (is_close d.0 t))
other (Rule.Next M i M₁) L s t e = rw (e, and-false (same_token i t))
other (Rule.Step M a M₁ b M₂) L s t e = rw (e, and-false (is_open a t))

module _ (W : ℕ) (m : Levels) where
  closed : (M : ℕ) (s : Stack) (t : Token) → Calm W M s → ahead W m (move (Rule.Empty M) M s t) ≡ continuations_at W m t (Rule.Empty M) * weight W M s (outer t m)
  closed M [] (Token.Mark c) h = nought (ltb M W) _
  closed M [] (Token.Open a) h = nought (ltb M W) _
  closed M [] (Token.Close b) h = sym (apart W M)
  closed M (d ∷ s) (Token.Mark c) h = nought (ltb M W) _
  closed M (d ∷ s) (Token.Open a) h = nought (ltb M W) _
  closed M (d ∷ s) (Token.Close b) h =
      ahead_only W m (eqb d.0.0 b.0) M (d.1, s)
      ∙ rw (lt-ltb M W h.0) (given_times (eqb d.0.0 b.0) (m.0 d.1) (weight W d.1 s m.1) ∙ sym (one-mul _))

  alone_on : (M : ℕ) (i : Token) (M₁ : ℕ) (s : Stack) → (M < W → Plain i × (M₁ < W)) → Calm W M s →
      m.0 M₁ * weight W M₁ s m.1 ≡ given (alone i (ltb M W)) (onto (ltb M W) (floor W m.1) m.0 M₁) * weight W M s (outer i m)
  alone_on M (Token.Mark c) M₁ s ok h = on_weight W M M₁ s m.0 m.1 (λ l. (ok l).1) h
  alone_on M (Token.Open a) M₁ s ok h =
      let l = alone_high W M (λ z. (ok z).0) in
      rw (high_calm W M s l h, le-ltb M W l, weight_high W M (outer (Token.Open a) m) l) (all-weight W M₁ (m.0 M₁) m.1 ∙ sym (mul-one _))
  alone_on M (Token.Close b) M₁ s ok h =
      let l = alone_high W M (λ z. (ok z).0) in
      rw (high_calm W M s l h, le-ltb M W l, le-leb W M l) (all-weight W M₁ (m.0 M₁) m.1 ∙ sym (mul-one _))

  next_on_lem : (M : ℕ) (i : Token) (M₁ : ℕ) (s : Stack) (t : Token) → (M < W → Plain i × (M₁ < W)) → Calm W M s →
      ahead W m (move (Rule.Next M i M₁) M s t) ≡ continuations_at W m t (Rule.Next M i M₁) * weight W M s (outer t m)
  next_on_lem M i M₁ s t ok h = ahead_only W m (same_token i t) M (M₁, s) ∙ go (same_token i t) refl
    where
      go : (b : Bool) → same_token i t ≡ b → given b (total W m M₁ s) ≡ given b (given (alone i (ltb M W)) (onto (ltb M W) (floor W m.1) m.0 M₁)) * weight W M s (outer t m)
      go true e = rw (← (same_is i t e)) (alone_on M i M₁ s ok h)
      go false e = sym (zero-mul _)

opened : (W : ℕ) (x : Counts) (ms : Outer) (M : ℕ) (a : OpenName) (M₁ : ℕ) (b : CloseName) (M₂ : ℕ) (s : Stack) (t : Token) → (M₁ < W) × (M < W → M₂ < W) → Calm W M s →
    ahead W (x, ms) (move (Rule.Step M a M₁ b M₂) M s t) ≡ continuations_at W (x, ms) t (Rule.Step M a M₁ b M₂) * weight W M s (outer t (x, ms))
opened W x ms M a M₁ b M₂ s (Token.Mark c) ok h = sym (zero-mul _)
opened W x ms M a M₁ b M₂ s (Token.Close c) ok h = sym (zero-mul _)
opened W x ms M a M₁ b M₂ s (Token.Open a') ok h =
    ahead_only W (x, ms) (eqb a.0 a'.0) M (M₁, (b, M₂) ∷ s)
    ∙ ap (given (eqb a.0 a'.0)) (due ms)
    ∙ given_times (eqb a.0 a'.0) (x M₁ * behind (ltb M W) W ms b M₂) (weight W M s (tail ms))
  where
    due : (ms : Outer) → x M₁ * weight W M₁ ((b, M₂) ∷ s) ms ≡ (x M₁ * behind (ltb M W) W ms b M₂) * weight W M s (tail ms)
    due [] = rw (mul-zero, zero-mul)
    due (d ∷ ms) = rw (lt-ltb M₁ W ok.0) (ap (λ (n : ℕ). x M₁ * n) (go (eqb b.0 d.0.0)) ∙ sym (mul_assoc (x M₁) _ (weight W M s ms)))
      where
        go : (e : Bool) → given e (d.1 M₂) * weight W M₂ s ms ≡ given e (onto (ltb M W) (floor W ms) d.1 M₂) * weight W M s ms
        go true = on_weight W M M₂ s d.1 ms ok.1 h
        go false = zero-mul _ ∙ sym (zero-mul _)

-- what a rule leads to
pub rule_ahead : (W : ℕ) (m : Levels) (L : ℕ) (s : Stack) (t : Token) (R : Rule) → InForm W R → Calm W L s → ahead W m (move R L s t) ≡ given (eqb (left R) L) (continuations_at W m t R) * weight W L s (outer t m)
rule_ahead W m L s t R ok h = go (eqb (left R) L) refl
  where
    own : (R : Rule) → InForm W R → Calm W (left R) s → ahead W m (move R (left R) s t) ≡ continuations_at W m t R * weight W (left R) s (outer t m)
    own (Rule.Empty M) ok h = closed W m M s t h
    own (Rule.Next M i M₁) ok h = next_on_lem W m M i M₁ s t ok h
    own (Rule.Step M a M₁ b M₂) ok h = opened W m.0 m.1 M a M₁ b M₂ s t ok h

    go : (b : Bool) → eqb (left R) L ≡ b → ahead W m (move R L s t) ≡ given b (continuations_at W m t R) * weight W L s (outer t m)
    go true e = rw (← (eqb-true (left R) L e)) (own R ok (rw (eqb-true (left R) L e) h))
    go false e = rw (other R L s t e) (sym (zero-mul _))

tally-follow : (f : List ℕ → Bool) (W : ℕ) (m : Levels) (k : State → List (List ℕ)) (o : Option State) → ((s : State) → o ≡ some s → tally f (k s) ≡ total W m s.0 s.1) → tally f (follow o k) ≡ ahead W m o
tally-follow f W m k none h = refl
tally-follow f W m k (some s) h = h s refl

-- where no token is left
pub tally_end : (ok : Allowed) (p W L : ℕ) (s : Stack) (R : Rule) → tally (passes ok p) (once (ends R L s)) ≡ given (eqb (left R) L) (continuations_end R) * weight W L s []
tally_end ok p W L [] (Rule.Empty M) = go (eqb M L)
  where
    go : (b : Bool) → tally (passes ok p) (once b) ≡ given b 1 * 1
    go true = refl
    go false = refl
tally_end ok p W L [] (Rule.Next M i M₁) = nothing (eqb M L) _
tally_end ok p W L [] (Rule.Step M a M₁ b M₂) = nothing (eqb M L) _
tally_end ok p W L (d ∷ s) R = sym (mul-zero _)

-- the sum over all rules, where each counts for h times k
rules_sum : (ok : ℕ → Bool) (L k : ℕ) (f h : Rule → ℕ) (g : Rules) → ((q : ℕ) (R : Rule) → get_elem? g q ≡ some R → f R ≡ given (eqb (left R) L) (h R) * k) → sum (λ r R. given (ok r) (f R)) 0 g ≡ sum (λ r R. given (eqb (left R) L && ok r) (h R)) 0 g * k
rules_sum ok L k f h g e =
    sum_like _ (λ r R. given (eqb (left R) L && ok r) (h R) * k) 0 g (λ q r R i. ap (given (ok r)) (e q R i) ∙ given_of_lem (ok r) (eqb (left R) L) (h R) k)
    ∙ sum_times (λ r R. given (eqb (left R) L && ok r) (h R)) k 0 g

-- ── all tokens ──

module _ (ok : Allowed) (W : ℕ) (g : Rules) (form : General W g) where
  pub tally-runs : (p : ℕ) (w : List Token) (s : State) → Calm W s.0 s.1 → tally (passes ok p) (runs g s w) ≡ total W (counts ok W g p w) s.0 s.1
  unfolding runs counts
  tally-runs p [] s c =
      tally-collect ok p (λ R. once (ends R s.0 s.1)) 0 g
      ∙ rules_sum (ok p) s.0 (weight W s.0 s.1 []) (λ R. tally (passes ok (suc p)) (once (ends R s.0 s.1))) continuations_end g (λ q R i. tally_end ok (suc p) W s.0 s.1 R)
  tally-runs p (t ∷ w) s c =
      tally-collect ok p (λ R. follow (move R s.0 s.1 t) (λ s'. runs g s' w)) 0 g
      ∙ rules_sum (ok p) s.0 (weight W s.0 s.1 (outer t m)) (λ R. tally (passes ok (suc p)) (follow (move R s.0 s.1 t) (λ s'. runs g s' w))) (continuations_at W m t) g
      (λ q R i.
      tally-follow (passes ok (suc p)) W m (λ s'. runs g s' w) (move R s.0 s.1 t) (λ s' e. tally-runs (suc p) w s' (calm_on W (form q R i) (moved R s.0 s.1 t s' e) c))
      ∙ rule_ahead W m s.0 s.1 t R (form q R i) c)
    where
      m : Levels
      m = counts ok W g (suc p) w
