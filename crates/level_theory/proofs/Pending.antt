-- Pending closes: where they stand, and which of them are pending further on.
use Prim.Native.Nat.{ℕ, zero, suc, ◌+◌, ◌-◌, ◌<◌, ◌≤◌}
use native.Mathlib.Omega.{arith}
use mathlib.Core.Path.{◌≡◌, refl, sym, ◌∙◌, ap}
use mathlib.Core.Bool.{Bool, true, false, cond}
use mathlib.Core.Logic.{◌⊎◌, inl, inr, ⊎_elim}
use mathlib.Core.List.{List, [], ◌∷◌, map, Memᴰ}
use mathlib.Core.Option.{some, none-ne-some, some-injective}
use borrow.Author.Tests.{ltb-true, lt-ltb, le-ltb}
use lib.Dec.{ltb}
use lib.ListN.{drop, get_or, set, get_elem?}
use lib.Seq.{drop-drop, get_or-set_other}
use Rattle.vpg.specs.declared.OpenName.{OpenName}
use Rattle.vpg.specs.declared.CloseName.{CloseName}
use Rattle.vpg.specs.declared.Token.{Token}
use Rattle.vpg.specs.believed.Grammar.{Rules}
use Rattle.level_theory.specs.Masks.{Nonterminals, tail, outer, masks, Calm, Match}
use Rattle.level_theory.specs.Pending.{Closes, rest, pending_over, pending, pending_at, due_at}

abbrev Close : Type 0
Close = CloseName × ℕ

-- ── positions ──

-- all stand at p or behind
abbrev pub From : ℕ → Closes → Type 0
From p l = (d : Close) → Memᴰ d l → p ≤ d.1

pub rest_in : {d : Close} (l : Closes) → Memᴰ d (rest l) → Memᴰ d l
rest_in [] m = m
rest_in (x ∷ l) m = mathlib.Core.List.Memᴰ.tail m

pub pending-from : (v : List Token) (p : ℕ) → From p (pending v p)
unfolding pending
pending-from [] p d m = absurd (mathlib.Core.List.Memᴰ.not-nil m)
pending-from (Token.Mark c ∷ v) p d m = omega (arith, pending-from v (suc p) d m)
pending-from (Token.Open a ∷ v) p d m = omega (arith, pending-from v (suc p) d (rest_in (pending v (suc p)) m))
pending-from (Token.Close b ∷ v) p d m = ⊎_elim (λ e. rw e (omega arith)) (λ n. omega (arith, pending-from v (suc p) d n)) (mathlib.Core.List.Memᴰ.cases_cons m)

-- each stands before those that follow it
abbrev pub Rising : Closes → Type 0
Rising [] = Unit
Rising (d ∷ l) = From (suc d.1) l × Rising l

rest_rising : (l : Closes) → Rising l → Rising (rest l)
rest_rising [] h = h
rest_rising (d ∷ l) h = h.1

pub pending_rising : (v : List Token) (p : ℕ) → Rising (pending v p)
unfolding pending
pending_rising [] p = tt
pending_rising (Token.Mark c ∷ v) p = pending_rising v (suc p)
pending_rising (Token.Open a ∷ v) p = rest_rising (pending v (suc p)) (pending_rising v (suc p))
pending_rising (Token.Close b ∷ v) p = (pending-from v (suc p), pending_rising v (suc p))

-- ── one position on ──

pub drop-next : {A : Type 0} (w : List A) (p : ℕ) {t : A} {v : List A} → drop p w ≡ t ∷ v → drop (suc p) w ≡ v
drop-next [] zero e = absurd (let z : ◌≡◌ {A = ℕ} 0 1 = cc in omega arith)
drop-next [] (suc p) e = absurd (let z : ◌≡◌ {A = ℕ} 0 1 = cc in omega arith)
drop-next (x ∷ w) zero e = cc
drop-next (x ∷ w) (suc p) e = drop-next w p e

pub pending_next : (w : List Token) (p : ℕ) {t : Token} {v : List Token} → drop p w ≡ t ∷ v → pending_at w p ≡ pending_over t p (pending_at w (suc p))
unfolding pending
pending_next w p e = rw (e, drop-next w p e)

-- a close that is pending from q on, and stands at p or behind, is pending from p on
over-later : (t : Token) (q : ℕ) (l : Closes) {d : Close} → Memᴰ d (pending_over t q l) → q < d.1 → Memᴰ d l
over-later (Token.Mark c) q l m h = m
over-later (Token.Open a) q l m h = rest_in l m
over-later (Token.Close b) q l {d} m h = go (mathlib.Core.List.Memᴰ.cases_cons m)
  where
    go : (d ≡ (b, q)) ⊎ Memᴰ d l → Memᴰ d l
    go (inl e) = absurd (let z : d.1 ≡ q = rw e in omega arith)
    go (inr n) = n

suffix_later : (v : List Token) (q k : ℕ) {d : Close} → Memᴰ d (pending v q) → q + k ≤ d.1 → Memᴰ d (pending (drop k v) (q + k))
unfolding pending
suffix_later v q zero m h = let e : q + 0 ≡ q = omega arith in rw e m
suffix_later [] q (suc k) m h = absurd (mathlib.Core.List.Memᴰ.not-nil m)
suffix_later (t ∷ v) q (suc k) {d} m h =
    let e : q + suc k ≡ suc q + k = omega arith in
    rw e (suffix_later v (suc q) k (over-later t q (pending v (suc q)) m (omega arith)) (omega arith))

pub pending-later : (w : List Token) (q p : ℕ) {d : Close} → q ≤ p → Memᴰ d (pending_at w q) → p ≤ d.1 → Memᴰ d (pending_at w p)
pending-later w q p {d} h m k =
    let e : q + (p - q) ≡ p = omega arith in
    simp (drop-drop, e) at (suffix_later (drop q w) q (p - q) m (omega arith))

-- the close of an open at p is not pending from a position up to p on
pub close_fresh : (w : List Token) (q p : ℕ) {a : OpenName} {v : List Token} {b : Close} {l : Closes} → drop p w ≡ Token.Open a ∷ v → pending_at w (suc p) ≡ b ∷ l → q ≤ p →
    (d : Close) → Memᴰ d (pending_at w q) → d.1 ≡ b.1 → ⊥
close_fresh w q p {b = b} {l} e f h d m k =
    let r : Rising (b ∷ l) = rw f at (pending_rising (drop (suc p) w) (suc p)) in
    let s : suc p ≤ b.1 = pending-from (drop (suc p) w) (suc p) b (rw f (mathlib.Core.List.Memᴰ.head refl)) in
    let n : Memᴰ d l = simp (pending_next w p e, f) at (pending-later w q p h m (omega arith)) in
    omega (arith, r.0 d n)

-- ── what stands at a pending close ──

pub record IsClose (w : List Token) (d : Close) : Type 0 where
  pub at : drop d.1 w ≡ Token.Close d.0 ∷ drop (suc d.1) w

closes_in : (w v : List Token) (p : ℕ) → drop p w ≡ v → (d : Close) → Memᴰ d (pending v p) → IsClose w d
unfolding pending
closes_in w [] p e d m = absurd (mathlib.Core.List.Memᴰ.not-nil m)
closes_in w (Token.Mark c ∷ v) p e d m = closes_in w v (suc p) (drop-next w p e) d m
closes_in w (Token.Open a ∷ v) p e d m = closes_in w v (suc p) (drop-next w p e) d (rest_in (pending v (suc p)) m)
closes_in w (Token.Close b ∷ v) p e d m =
    ⊎_elim (λ q. rw q (record { at = e ∙ rw (drop-next w p e) })) (λ n. closes_in w v (suc p) (drop-next w p e) d n) (mathlib.Core.List.Memᴰ.cases_cons m)

pub pending_close : (w : List Token) (p : ℕ) (d : Close) → Memᴰ d (pending_at w p) → IsClose w d
pending_close w p d m = closes_in w (drop p w) p refl d m

-- ── the closes behind a pending close ──

pub at_next : (w v : List Token) (p : ℕ) → drop p w ≡ v → (i : ℕ) (d : Close) → get_elem? (pending v p) i ≡ some d → drop (suc i) (pending v p) ≡ pending_at w (suc d.1)
unfolding pending
at_next w [] p e i d m = absurd (none-ne-some d m)
at_next w (Token.Mark c ∷ v) p e i d m = at_next w v (suc p) (drop-next w p e) i d m
at_next w (Token.Open a ∷ v) p e i d m = go (pending v (suc p)) m (at_next w v (suc p) (drop-next w p e) (suc i) d)
  where
    go : (l : Closes) → get_elem? (rest l) i ≡ some d → (get_elem? l (suc i) ≡ some d → drop (suc (suc i)) l ≡ pending_at w (suc d.1)) → drop (suc i) (rest l) ≡ pending_at w (suc d.1)
    go [] m below = absurd (none-ne-some d m)
    go (x ∷ l) m below = below m
at_next w (Token.Close b ∷ v) p e zero d m = let q : p ≡ d.1 = ap (λ (x : Close). x.1) (some-injective _ _ m) in rw (← q, drop-next w p e)
at_next w (Token.Close b ∷ v) p e (suc i) d m = at_next w v (suc p) (drop-next w p e) i d m

-- the pending closes behind the first one
pub pending-rest : (w : List Token) (p : ℕ) (d : Close) (l : Closes) → pending_at w p ≡ d ∷ l → l ≡ pending_at w (suc d.1)
pending-rest w p d l e = rw e at (at_next w (drop p w) p refl 0 d (rw e))

-- ── masks and stacks over the pending closes ──

-- whatever is known of the levels: it goes from right to left, token by token
module _ {A : Type 0} (m : ℕ → List Token → A × List (CloseName × A)) (none : (p : ℕ) → (m p []).1 ≡ []) (over : (p : ℕ) (t : Token) (v : List Token) → (m p (t ∷ v)).1 ≡ outer t (m (suc p) v)) where
  abbrev behind-closes : List Token → Closes → List (CloseName × A)
  behind-closes w l = map (λ d. (d.0, (m (suc d.1) (drop (suc d.1) w)).0)) l

  tails : (w : List Token) (l : Closes) → tail (behind-closes w l) ≡ behind-closes w (rest l)
  tails w [] = refl
  tails w (d ∷ l) = refl

  levels_in : (w v : List Token) (p : ℕ) → drop p w ≡ v → (m p v).1 ≡ behind-closes w (pending v p)
  unfolding pending
  levels_in w [] p e = none p
  levels_in w (Token.Mark c ∷ v) p e = over p (Token.Mark c) v ∙ levels_in w v (suc p) (drop-next w p e)
  levels_in w (Token.Open a ∷ v) p e = over p (Token.Open a) v ∙ ap (tail {A = CloseName × A}) (levels_in w v (suc p) (drop-next w p e)) ∙ tails w (pending v (suc p))
  levels_in w (Token.Close b ∷ v) p e =
      over p (Token.Close b) v ∙ rw (drop-next w p e) (ap (λ (l : List (CloseName × A)). (b, (m (suc p) v).0) ∷ l) (levels_in w v (suc p) (drop-next w p e)))

  -- the outer levels are those behind the pending closes
  pub outer_levels : (w : List Token) (p : ℕ) → (m p (drop p w)).1 ≡ map (λ d. (d.0, (m (suc d.1) (drop (suc d.1) w)).0)) (pending_at w p)
  outer_levels w p = levels_in w (drop p w) p refl

pub masks-outer : (W : ℕ) (g : Rules) (w : List Token) (p : ℕ) → (masks W g (drop p w)).1 ≡ map (λ d. (d.0, (masks W g (drop (suc d.1) w)).0)) (pending_at w p)
unfolding masks
masks-outer W g w p = outer_levels (λ q v. masks W g v) (λ q. refl) (λ q t v. refl) w p

-- a store behind a close that is not among them
pub due_set : (W : ℕ) (f : List ℕ) (j v : ℕ) (l : Closes) (L : ℕ) → ((d : Close) → Memᴰ d l → d.1 ≡ j → ⊥) → due_at W (set f j v) l L ≡ due_at W f l L
due_set W f j v [] L h = refl
due_set W f j v (d ∷ l) L h =
    rw (get_or-set_other f j d.1 v 0 (h d (mathlib.Core.List.Memᴰ.head refl)), due_set W f j v l (get_or f d.1 0) (λ x m. h x (mathlib.Core.List.Memᴰ.tail m)))

-- what an array says is due is calm
pub calm_due : (W : ℕ) (f : List ℕ) (l : Closes) (L : ℕ) → Calm W L (due_at W f l L)
calm_due W f [] L = tt
calm_due W f (d ∷ l) L = go (calm_due W f l (get_or f d.1 0)) (ltb L W) refl
  where
    go : Calm W (get_or f d.1 0) (due_at W f l (get_or f d.1 0)) → (b : Bool) → ltb L W ≡ b → Calm W L (cond b ((d.0, get_or f d.1 0) ∷ due_at W f l (get_or f d.1 0)) [])
    go c true e = (ltb-true L W e, c)
    go c false e = tt

-- from W on nothing is due
pub due_high : (W : ℕ) (f : List ℕ) (l : Closes) (L : ℕ) → W ≤ L → due_at W f l L ≡ []
due_high W f [] L h = refl
due_high W f (d ∷ l) L h = rw (le-ltb L W h)

pub due_low : (W : ℕ) (f : List ℕ) (d : Close) (l : Closes) (L : ℕ) → L < W → due_at W f (d ∷ l) L ≡ (d.0, get_or f d.1 0) ∷ due_at W f l (get_or f d.1 0)
due_low W f d l L h = rw (lt-ltb L W h)

-- nothing due that matches is what the array says
pub due_none : (W : ℕ) (f : List ℕ) (h : Close → CloseName × Nonterminals) (l : Closes) (K : ℕ) → Match W K [] (map h l) → [] ≡ due_at W f l K
due_none W f h [] K m = refl
due_none W f h (d ∷ l) K m = sym (due_high W f (d ∷ l) K m)

-- in one level the array says the same of the next nonterminal
pub due_on : (W : ℕ) (f : List ℕ) (h : Close → CloseName × Nonterminals) (l : Closes) (L K : ℕ) → (L < W → K < W) → Match W K (due_at W f l L) (map h l) → due_at W f l L ≡ due_at W f l K
due_on W f h [] L K i m = refl
due_on W f h (d ∷ l) L K i m = go (ltb L W) refl m
  where
    go : (b : Bool) → ltb L W ≡ b → Match W K (cond b ((d.0, get_or f d.1 0) ∷ due_at W f l (get_or f d.1 0)) []) (map h (d ∷ l)) →
        cond b ((d.0, get_or f d.1 0) ∷ due_at W f l (get_or f d.1 0)) [] ≡ due_at W f (d ∷ l) K
    go true e m = sym (due_low W f d l K (i (ltb-true L W e)))
    go false e m = due_none W f h (d ∷ l) K m
