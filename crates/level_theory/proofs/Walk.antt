-- One step of a walk by an array: the state at the next position is the one that the rule leads to.
use Prim.Native.Nat.{ℕ, suc, ◌<◌, ◌≤◌}
use native.Mathlib.Omega.{arith}
use mathlib.Core.Path.{◌≡◌, refl, sym, ◌∙◌, ap}
use mathlib.Core.Bool.{Bool, true, false, cond}
use mathlib.Core.List.{List, [], ◌∷◌, map, Memᴰ}
use borrow.Author.Tests.{lt-ltb}
use lib.Dec.{ltb}
use lib.ListN.{length, drop, get_or, set}
use lib.Seq.{set-get_or, get_or-set_same}
use Rattle.laws.proofs.Lists.{heads, tails}
use Rattle.vpg.specs.declared.CloseName.{CloseName}
use Rattle.vpg.specs.declared.Rule.{Rule}
use Rattle.vpg.specs.declared.Token.{Token}
use Rattle.vpg.specs.believed.Grammar.{Rules, InForm, left}
use Rattle.vpg.specs.Runs.{Stack}
use Rattle.vpg.proofs.Take.{Move, by_empty, by_next, by_step}
use Rattle.level_theory.specs.Masks.{Nonterminals, applies, finishes, lefts, outer, masks, Match, Fits}
use Rattle.level_theory.specs.Pending.{Closes, rest, pending_at, close_of, due_at}
use Rattle.level_theory.specs.Walk.{test_at, inner, later}
use Rattle.level_theory.proofs.Alive.{Passes, alone_high, applies_goes}
use Rattle.level_theory.proofs.Pending.{pending_next, close_fresh, masks-outer, due_set, due_high, due_none, due_on}

-- the level of a position holds the nonterminals of the rules that can stand there
pub level_test : (W : ℕ) (g : Rules) (v : List Token) (L : ℕ) → lefts (test_at W g v) g L ≡ (masks W g v).0 L
unfolding masks test_at
level_test W g [] L = refl
level_test W g (t ∷ v) L = refl

-- at the end the rules that can stand are those that finish
pub passes_end : (W : ℕ) {g : Rules} {L r : ℕ} → Passes (test_at W g []) g L r → Passes finishes g L r
unfolding test_at
passes_end W x = record { rule = x.rule; is = x.is; from = x.from; passes = x.passes }

pub end_passes : (W : ℕ) {g : Rules} {L r : ℕ} → Passes finishes g L r → Passes (test_at W g []) g L r
unfolding test_at
end_passes W x = record { rule = x.rule; is = x.is; from = x.from; passes = x.passes }

module _ (W : ℕ) (g : Rules) (w : List Token) (p n : ℕ) (f : List ℕ) where
  -- the pending closes behind position p
  abbrev Behind : Closes
  Behind = pending_at w (suc p)

  -- the array after rule R at position p
  abbrev pub stored : Rule → List ℕ
  stored R = set f (close_of Behind n) (later R (get_or f (close_of Behind n) 0))

  -- an open whose step fits has its close first among the pending ones
  record Closing (b : CloseName) : Type 0 where
    close : CloseName × ℕ
    others : Closes
    is : Behind ≡ close ∷ others
    named : b ≡ close.0

  -- the masks behind p, level by level
  abbrev Level : CloseName × ℕ → CloseName × Nonterminals
  Level d = (d.0, (masks W g (drop (suc d.1) w)).0)

  matching : (L : ℕ) (s : Stack) → Fits W L s (masks W g (drop (suc p) w)) → Match W L s (map Level Behind)
  matching L s h = rw (masks-outer W g w (suc p)) at h.1

  closing : (b : CloseName) (L₁ L₂ : ℕ) (s : Stack) → Fits W L₁ ((b, L₂) ∷ s) (masks W g (drop (suc p) w)) → Closing b
  closing b L₁ L₂ s h = go Behind refl (matching L₁ ((b, L₂) ∷ s) h)
    where
      go : (l : Closes) → Behind ≡ l → Match W L₁ ((b, L₂) ∷ s) (map Level l) → Closing b
      go [] e m = absurd m
      go (d ∷ l) e m = record { close = d; others = l; is = e; named = m.1 }

  pub record Placed (R : Rule) (L' : ℕ) (s' : Stack) : Type 0 where
    pub next : L' ≡ inner R (get_or f p 0)
    pub due : s' ≡ due_at W (stored R) Behind L'

  -- a store that changes nothing
  unstored : (s : Stack) (K : ℕ) → s ≡ due_at W f Behind K → s ≡ due_at W (set f (close_of Behind n) (get_or f (close_of Behind n) 0)) Behind K
  unstored s K q = q ∙ ap (λ (x : List ℕ). due_at W x Behind K) (sym (set-get_or f (close_of Behind n) 0))

  -- where a rule leads is what the array says at the next position
  pub placed : {R : Rule} {L : ℕ} {s : Stack} {t : Token} {v : List Token} {L' : ℕ} {s' : Stack} → InForm W R → Move R L s t L' s' → drop p w ≡ t ∷ v →
      Fits W L' s' (masks W g (drop (suc p) w)) → close_of Behind n < length f → s ≡ due_at W f (pending_at w p) L → Placed R L' s'
  placed ok (by_empty {L} {M} {b} {s}) e h room q = go (ltb L W) (q ∙ ap (λ (l : Closes). due_at W f l L) (pending_next w p e))
    where
      go : (low : Bool) → (b, M) ∷ s ≡ cond low ((b, get_or f p 0) ∷ due_at W f Behind (get_or f p 0)) [] → Placed (Rule.Empty L) M s
      go true k =
          let m = ap (λ (x : CloseName × ℕ). x.1) (heads k) in
          record { next = m; due = unstored s M (rw m (tails k)) }
      go false k = absurd (let z : ◌≡◌ {A = ℕ} 1 0 = cc in omega arith)
  placed ok (by_next {L} {L₁} {t = Token.Mark c} {s = s}) e h room q =
      let k : s ≡ due_at W f Behind L = q ∙ ap (λ (l : Closes). due_at W f l L) (pending_next w p e) in
      record { next = refl; due = unstored s L₁ (k ∙ due_on W f Level Behind L L₁ (λ x. (ok x).1) (rw k at (matching L₁ s h))) }
  placed ok (by_next {L} {L₁} {t = Token.Open a} {s = s}) e h room q =
      let k : s ≡ [] = q ∙ due_high W f (pending_at w p) L (alone_high W L (λ x. (ok x).0)) in
      record { next = refl; due = unstored s L₁ (k ∙ due_none W f Level Behind L₁ (rw k at (matching L₁ s h))) }
  placed ok (by_next {L} {L₁} {t = Token.Close b} {s = s}) e h room q =
      let k : s ≡ [] = q ∙ due_high W f (pending_at w p) L (alone_high W L (λ x. (ok x).0)) in
      record { next = refl; due = unstored s L₁ (k ∙ due_none W f Level Behind L₁ (rw k at (matching L₁ s h))) }
  placed ok (by_step {L} {L₁} {L₂} {a} {b} {s}) e h room q = record { next = refl; due = go (closing b L₁ L₂ s h) }
    where
      go : Closing b → (b, L₂) ∷ s ≡ due_at W (set f (close_of Behind n) L₂) Behind L₁
      go c =
          let k : s ≡ due_at W f c.others L = q ∙ ap (λ (l : Closes). due_at W f l L) (pending_next w p e ∙ ap rest c.is) in
          let u : Match W L₁ ((b, L₂) ∷ s) (map Level (c.close ∷ c.others)) = rw c.is at (matching L₁ ((b, L₂) ∷ s) h) in
          let k' : s ≡ due_at W f c.others L₂ = k ∙ due_on W f Level c.others L L₂ ok.1 (rw k at u.3) in
          let m : (d : CloseName × ℕ) → Memᴰ d c.others → d.1 ≡ c.close.1 → ⊥ =
          λ d x. close_fresh w p p e c.is (le_refl' p) d (rw (pending_next w p e, c.is) x) in
          let r : c.close.1 < length f = rw c.is at room in
          rw (c.is, lt-ltb L₁ W ok.0, get_or-set_same f c.close.1 L₂ 0 r, due_set W f c.close.1 L₂ c.others L₂ m, ← k', ← c.named)
        where
          le_refl' : (x : ℕ) → x ≤ x
          le_refl' x = omega arith

  -- the states at p and before are not touched
  pub stable : {R : Rule} {L : ℕ} {s : Stack} {t : Token} {v : List Token} {L' : ℕ} {s' : Stack} → Move R L s t L' s' → drop p w ≡ t ∷ v →
      Fits W L' s' (masks W g (drop (suc p) w)) → (q : ℕ) → q ≤ p → (K : ℕ) → due_at W (stored R) (pending_at w q) K ≡ due_at W f (pending_at w q) K
  stable by_empty e h q l K = rw set-get_or
  stable by_next e h q l K = rw set-get_or
  stable (by_step {L₁ = L₁} {L₂} {a} {b} {s}) e h q l K = let c = closing b L₁ L₂ s h in rw c.is (due_set W f c.close.1 L₂ (pending_at w q) K (close_fresh w q p e c.is l))

  -- a rule that applies where the state fits leads to a state that fits
  pub record Onward (R : Rule) (t : Token) : Type 0 where
    pub goes : Move R (left R) (due_at W f (pending_at w p) (left R)) t (inner R (get_or f p 0)) (due_at W (stored R) Behind (inner R (get_or f p 0)))
    pub fits : Fits W (inner R (get_or f p 0)) (due_at W (stored R) Behind (inner R (get_or f p 0))) (masks W g (drop (suc p) w))

  pub onward : (R : Rule) (t : Token) (v : List Token) → InForm W R → drop p w ≡ t ∷ v → close_of Behind n < length f →
      Match W (left R) (due_at W f (pending_at w p) (left R)) (outer t (masks W g (drop (suc p) w))) → applies W (masks W g (drop (suc p) w)) t R ≡ true → Onward R t
  onward R t v ok e room m q =
      let k = applies_goes W (masks W g (drop (suc p) w)) t R (due_at W f (pending_at w p) (left R)) ok m q in
      let d = placed ok k.goes e k.fits room refl in
      record { goes = rw (d.due, d.next) at k.goes; fits = rw (d.due, d.next) at k.fits }
