-- The counts at a position: each rule that can stand there counts for the derivations of its parts, by the counts of two positions behind it.
use Prim.Native.Nat.{ℕ, suc, ◌+◌, ◌*◌}
use native.Mathlib.Nat.{zero-mul, mul-zero, mul-one}
use mathlib.Core.Path.{◌≡◌, refl, sym, ◌∙◌, ap}
use mathlib.Core.Bool.{Bool, true, false, ◌&&◌, ◌||◌, false≢true}
use mathlib.Core.List.{List, [], ◌∷◌, map}
use lib.Dec.{eqb, ltb, leb}
use lib.ListN.{length, drop}
use Rattle.laws.proofs.Bools.{and_left, and_right}
use Rattle.vpg.specs.declared.OpenName.{OpenName}
use Rattle.vpg.specs.declared.CloseName.{CloseName}
use Rattle.vpg.specs.declared.Rule.{Rule}
use Rattle.vpg.specs.declared.Token.{Token}
use Rattle.vpg.specs.believed.Grammar.{Rules, left}
use Rattle.vpg.specs.Tests.{is_open, same_token}
use Rattle.level_theory.specs.Masks.{Nonterminals, Masks, floor, alone, applies, finishes, lefts, tail, outer, masks}
use Rattle.level_theory.specs.Masks as mask
use Rattle.level_theory.specs.Pending.{Closes, pending_at, close_of}
use Rattle.level_theory.specs.Walk.{test_at}
use Rattle.level_theory.proofs.Pending.{drop-next, outer_levels, masks-outer}
use Rattle.count_theory.specs.Allowed.{Allowed}
use Rattle.count_theory.specs.Counts.{Counts, Outer, Levels, given, onto, behind, continuations_at, continuations_end, sum, sum_for, counts, next_outer, parts, counts_at, worth}
use Rattle.count_theory.proofs.Counting.{given-zero, sum_same}

-- ── counts beside masks ──

-- what can't be derived counts for nothing
abbrev Covers : Nonterminals → Counts → Type 0
Covers x c = (L : ℕ) → x L ≡ false → c L ≡ 0

abbrev CoversOuter : mask.Outer → Outer → Type 0
CoversOuter [] [] = Unit
CoversOuter [] (e ∷ y) = ⊥
CoversOuter (d ∷ x) [] = ⊥
CoversOuter (d ∷ x) (e ∷ y) = (d.0 ≡ e.0) × Covers d.1 e.1 × CoversOuter x y

abbrev CoversAll : Masks → Levels → Type 0
CoversAll k m = Covers k.0 m.0 × CoversOuter k.1 m.1

-- those with which a rule may go on
onto_dead : (low : Bool) (n : ℕ) (x : Nonterminals) (c : Counts) → Covers x c → (L : ℕ) → mask.onto low n x L ≡ false → onto low n c L ≡ 0
onto_dead true n x c h L q = h L q
onto_dead false n x c h L q = go (x L) (leb n L) refl q
  where
    go : (a b : Bool) → x L ≡ a → (a && b) ≡ false → given b (c L) ≡ 0
    go true b e q = rw q
    go false b e q = rw (h L e) (given-zero b)

onto_live : (low : Bool) (n : ℕ) (x : Nonterminals) (c : Counts) (L : ℕ) → mask.onto low n x L ≡ true → onto low n c L ≡ c L
onto_live true n x c L q = refl
onto_live false n x c L q = rw (and_right (x L) (leb n L) q)

floor-same : (W : ℕ) (x : mask.Outer) (y : Outer) → CoversOuter x y → floor W x ≡ floor W y
floor-same W [] [] c = refl
floor-same W [] (e ∷ y) c = absurd c
floor-same W (d ∷ x) [] c = absurd c
floor-same W (d ∷ x) (e ∷ y) c = refl

-- behind a close
behind_dead : (low : Bool) (W : ℕ) (x : mask.Outer) (y : Outer) → CoversOuter x y → (b : CloseName) (L : ℕ) → mask.behind low W x b L ≡ false → behind low W y b L ≡ 0
behind_dead low W [] [] c b L q = refl
behind_dead low W [] (e ∷ y) c b L q = absurd c
behind_dead low W (d ∷ x) [] c b L q = absurd c
behind_dead low W (d ∷ x) (e ∷ y) c b L q = rw (← c.0, ← (floor-same W x y c.2)) (go (eqb b.0 d.0.0) q)
  where
    go : (n : Bool) → (n && mask.onto low (floor W x) d.1 L) ≡ false → given n (onto low (floor W x) e.1 L) ≡ 0
    go true q = onto_dead low (floor W x) d.1 e.1 c.1 L q
    go false q = refl

behind_live : (low : Bool) (W : ℕ) (x : mask.Outer) (y : Outer) → CoversOuter x y → (b : CloseName) (L : ℕ) → mask.behind low W x b L ≡ true → behind low W y b L ≡ next_outer y L
behind_live low W [] y c b L q = absurd (false≢true q)
behind_live low W (d ∷ x) [] c b L q = absurd c
behind_live low W (d ∷ x) (e ∷ y) c b L q =
    let n = and_left (eqb b.0 d.0.0) (mask.onto low (floor W x) d.1 L) q in
    rw (← c.0, n, ← (floor-same W x y c.2)) (onto_live low (floor W x) d.1 e.1 L (and_right (eqb b.0 d.0.0) _ q))

-- ── one rule at a token ──

module _ (W : ℕ) (k : Masks) (m : Levels) (c : CoversAll k m) (t : Token) where
  same : floor W k.1 ≡ floor W m.1
  same = floor-same W k.1 m.1 c.1

  none_dead : (R : Rule) → applies W k t R ≡ false → continuations_at W m t R ≡ 0
  none_dead (Rule.Empty M) q = rw q
  none_dead (Rule.Next M i M₁) q = rw (← same) (go (same_token i t) (alone i (ltb M W)) q)
    where
      go : (b a : Bool) → (b && (a && mask.onto (ltb M W) (floor W k.1) k.0 M₁)) ≡ false → given b (given a (onto (ltb M W) (floor W k.1) m.0 M₁)) ≡ 0
      go true true q = onto_dead (ltb M W) (floor W k.1) k.0 m.0 c.0 M₁ q
      go true false q = refl
      go false a q = refl
  none_dead (Rule.Step M a M₁ b M₂) q = go (is_open a t) q
    where
      both : (x y : Bool) → k.0 M₁ ≡ x → mask.behind (ltb M W) W k.1 b M₂ ≡ y → (x && y) ≡ false → m.0 M₁ * behind (ltb M W) W m.1 b M₂ ≡ 0
      both true true e f q = absurd (false≢true (sym q))
      both true false e f q = rw (behind_dead (ltb M W) W k.1 m.1 c.1 b M₂ f) (mul-zero (m.0 M₁))
      both false y e f q = rw (c.0 M₁ e) (zero-mul _)

      go : (o : Bool) → (o && (k.0 M₁ && mask.behind (ltb M W) W k.1 b M₂)) ≡ false → given o (m.0 M₁ * behind (ltb M W) W m.1 b M₂) ≡ 0
      go true q = both (k.0 M₁) (mask.behind (ltb M W) W k.1 b M₂) refl refl q
      go false q = refl

  parts_live : (R : Rule) → applies W k t R ≡ true → continuations_at W m t R ≡ parts m.0 (next_outer m.1) R
  parts_live (Rule.Empty M) q = rw q
  parts_live (Rule.Next M i M₁) q =
      let h = and_right (same_token i t) (alone i (ltb M W) && mask.onto (ltb M W) (floor W k.1) k.0 M₁) q in
      rw (and_left (same_token i t) _ q, and_left (alone i (ltb M W)) _ h, ← same)
      (onto_live (ltb M W) (floor W k.1) k.0 m.0 M₁ (and_right (alone i (ltb M W)) _ h) ∙ sym (mul-one _))
  parts_live (Rule.Step M a M₁ b M₂) q =
      let i = and_right (is_open a t) _ q in
      rw (and_left (is_open a t) _ q, behind_live (ltb M W) W k.1 m.1 c.1 b M₂ (and_right (k.0 M₁) _ i))

-- ── all tokens ──

-- where no rule passes, the sum is 0
none-sum : (ok : ℕ → Bool) (f : Rule → ℕ) (p : Rule → Bool) (g : Rules) (L n : ℕ) → ((R : Rule) → p R ≡ false → f R ≡ 0) → lefts p g L ≡ false → sum (λ r R. given (eqb (left R) L && ok r) (f R)) n g ≡ 0
none-sum ok f p [] L n h q = refl
none-sum ok f p (R ∷ g) L n h q =
    rw (none-sum ok f p g L (suc n) h (or_right (eqb (left R) L && p R) (lefts p g L) q))
    (one (eqb (left R) L) (p R) (ok n) refl (or_left (eqb (left R) L && p R) (lefts p g L) q))
  where
    or_left : (a b : Bool) → (a || b) ≡ false → a ≡ false
    or_left true b e = e
    or_left false b e = refl

    or_right : (a b : Bool) → (a || b) ≡ false → b ≡ false
    or_right true b e = absurd (false≢true (sym e))
    or_right false b e = e

    one : (x y o : Bool) → p R ≡ y → (x && y) ≡ false → given (x && o) (f R) + 0 ≡ 0
    one true true o e z = absurd (false≢true (sym z))
    one true false o e z = rw (h R e, given-zero o)
    one false y o e z = refl

finish_dead : (R : Rule) → finishes R ≡ false → continuations_end R ≡ 0
finish_dead (Rule.Empty M) q = absurd (false≢true (sym q))
finish_dead (Rule.Next M i M₁) q = refl
finish_dead (Rule.Step M a M₁ b M₂) q = refl

covers_outer : (k : Masks) (m : Levels) → CoversAll k m → (t : Token) → CoversOuter (outer t k) (outer t m)
covers_outer k m c (Token.Mark n) = c.1
covers_outer k m c (Token.Open a) = go k.1 m.1 c.1
  where
    go : (x : mask.Outer) (y : Outer) → CoversOuter x y → CoversOuter (tail x) (tail y)
    go [] [] h = tt
    go [] (e ∷ y) h = absurd h
    go (d ∷ x) [] h = absurd h
    go (d ∷ x) (e ∷ y) h = h.2
covers_outer k m c (Token.Close b) = (refl, c.0, c.1)

covers : (ok : Allowed) (W : ℕ) (g : Rules) (p : ℕ) (v : List Token) → CoversAll (masks W g v) (counts ok W g p v)
unfolding masks counts
covers ok W g p [] = (λ L q. none-sum (ok p) continuations_end finishes g L 0 finish_dead q, tt)
covers ok W g p (t ∷ v) =
    let c = covers ok W g (suc p) v in
    (λ L q. none-sum (ok p) (continuations_at W (counts ok W g (suc p) v) t) (applies W (masks W g v) t) g L 0 (none_dead W (masks W g v) (counts ok W g (suc p) v) c t) q, covers_outer (masks W g v) (counts ok W g (suc p) v) c t)

-- ── by position ──

-- the levels around a position are those behind the pending closes
pub counts-outer : (ok : Allowed) (W : ℕ) (g : Rules) (w : List Token) (p : ℕ) → (counts ok W g p (drop p w)).1 ≡ map (λ d. (d.0, counts_at ok W g w (suc d.1))) (pending_at w p)
unfolding counts
counts-outer ok W g w p = outer_levels (λ q v. counts ok W g q v) (λ q. refl) (λ q t v. refl) w p

module _ (ok : Allowed) (W : ℕ) (g : Rules) (w : List Token) (p : ℕ) where
  -- the counts behind the first pending close
  abbrev Beyond : Counts
  Beyond = counts_at ok W g w (suc (close_of (pending_at w (suc p)) (length w)))

  abbrev Behind : Levels
  Behind = counts ok W g (suc p) (drop (suc p) w)

  -- a step that can stand at the token has its close first among the pending ones
  first_close : (t : Token) (M : ℕ) (a : OpenName) (M₁ : ℕ) (b : CloseName) (M₂ : ℕ) → applies W (masks W g (drop (suc p) w)) t (Rule.Step M a M₁ b M₂) ≡ true → next_outer Behind.1 M₂ ≡ Beyond M₂
  first_close t M a M₁ b M₂ q = rw (counts-outer ok W g w (suc p)) (go (pending_at w (suc p)) (rw (masks-outer W g w (suc p)) at (and_right ((masks W g (drop (suc p) w)).0 M₁) _ (and_right (is_open a t) _ q))))
    where
      go : (l : Closes) → mask.behind (ltb M W) W (map (λ d. (d.0, (masks W g (drop (suc d.1) w)).0)) l) b M₂ ≡ true → next_outer (map (λ d. (d.0, counts_at ok W g w (suc d.1))) l) M₂ ≡ counts_at ok W g w (suc (close_of l (length w))) M₂
      go [] e = absurd (false≢true e)
      go (d ∷ l) e = refl

  parts_same : (t : Token) (R : Rule) → applies W (masks W g (drop (suc p) w)) t R ≡ true → parts Behind.0 (next_outer Behind.1) R ≡ parts Behind.0 Beyond R
  parts_same t (Rule.Empty M) q = refl
  parts_same t (Rule.Next M i M₁) q = refl
  parts_same t (Rule.Step M a M₁ b M₂) q = ap (λ (n : ℕ). Behind.0 M₁ * n) (first_close t M a M₁ b M₂ q)

  -- what a rule counts for at a token
  pub worth_token : (t : Token) (v : List Token) → drop p w ≡ t ∷ v → (R : Rule) → continuations_at W Behind t R ≡ worth ok W g w p R
  unfolding test_at
  worth_token t v e R = rw (e, ← (drop-next w p e)) (go (applies W (masks W g (drop (suc p) w)) t R) refl)
    where
      go : (b : Bool) → applies W (masks W g (drop (suc p) w)) t R ≡ b → continuations_at W Behind t R ≡ given b (parts Behind.0 Beyond R)
      go true q = parts_live W (masks W g (drop (suc p) w)) Behind (covers ok W g (suc p) (drop (suc p) w)) t R q ∙ parts_same t R q
      go false q = none_dead W (masks W g (drop (suc p) w)) Behind (covers ok W g (suc p) (drop (suc p) w)) t R q

  -- and where no token is left
  pub worth_end : drop p w ≡ [] → (R : Rule) → continuations_end R ≡ worth ok W g w p R
  unfolding test_at
  worth_end e (Rule.Empty M) = rw e
  worth_end e (Rule.Next M i M₁) = rw e
  worth_end e (Rule.Step M a M₁ b M₂) = rw e

  -- the count of a nonterminal is the sum over its rules
  pub counts_here : (L : ℕ) → counts_at ok W g w p L ≡ sum_for (ok p) (worth ok W g w p) g L
  unfolding counts
  counts_here L = go (drop p w) refl
    where
      same : (f : Rule → ℕ) → ((R : Rule) → f R ≡ worth ok W g w p R) → sum_for (ok p) f g L ≡ sum_for (ok p) (worth ok W g w p) g L
      same f h = sum_same _ _ 0 g (λ r R. ap (given (eqb (left R) L && ok p r)) (h R))

      go : (v : List Token) → drop p w ≡ v → (counts ok W g p v).0 L ≡ sum_for (ok p) (worth ok W g w p) g L
      go [] e = same continuations_end (worth_end e)
      go (t ∷ v) e = rw (← (drop-next w p e)) (same (continuations_at W Behind t) (worth_token t v e))
