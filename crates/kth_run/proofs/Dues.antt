-- What is due behind the pending closes, from one position to the next.
use Prim.Native.Nat.{ℕ, suc, ◌*◌, ◌<◌, ◌≤◌}
use native.Mathlib.Decide.{ℕ_discrete, dec_lt}
use native.Mathlib.Omega.{arith}
use mathlib.Core.Path.{◌≡◌, refl, sym, ◌∙◌, ap}
use mathlib.Core.Logic.{◌⊎◌, inl, inr, ◌≢◌}
use mathlib.Core.Bool.{Bool, true, false, cond}
use mathlib.Core.List.{List, [], ◌∷◌, map, Memᴰ}
use borrow.Author.Tests.{lt-ltb, le-ltb, le-leb, ltb-false}
use lib.Dec.{ltb}
use lib.ListN.{length, drop}
use Rattle.laws.proofs.Bools.{eqb_refl}
use Rattle.vpg.specs.declared.OpenName.{OpenName}
use Rattle.vpg.specs.declared.CloseName.{CloseName}
use Rattle.vpg.specs.declared.Rule.{Rule}
use Rattle.vpg.specs.declared.Token.{Token}
use Rattle.vpg.specs.believed.Grammar.{Rules, InForm}
use Rattle.vpg.specs.Runs.{Stack}
use Rattle.vpg.proofs.Take.{Move, by_empty, by_next, by_step}
use Rattle.capped.specs.Capped.{cap}
use Rattle.capped.proofs.Capped.{cap-mul}
use Rattle.level_theory.specs.Masks.{Nonterminals, masks, Calm, Match, Fits}
use Rattle.level_theory.specs.Pending.{Closes, pending_at, close_of, due_at}
use Rattle.level_theory.specs.Walk.{inner, later}
use Rattle.level_theory.proofs.Alive.{high_calm, alone_high}
use Rattle.level_theory.proofs.Pending.{pending_next, close_fresh, masks-outer}
use Rattle.tables.specs.Ready.{Below}
use Rattle.levels.proofs.Levels.{close_below}
use Rattle.count_theory.specs.Allowed.{Allowed}
use Rattle.count_theory.specs.Counts.{Counts, counts, weight, counts_at}
use Rattle.count_theory.proofs.Here.{counts-outer}
use Rattle.kth_run.specs.Walk.{due_with, due_product, IfTrue, Dues, number_in}

-- ── the product ──

weight-product : (W : ℕ) (C : ℕ → Counts) (f : List ℕ) (l : Closes) (L : ℕ) → weight W L (due_at W f l L) (map (λ d. (d.0, C (suc d.1))) l) ≡ due_product W C (number_in f) l L
weight-product W C f [] L = refl
weight-product W C f (d ∷ l) L = go (ltb L W) refl (weight-product W C f l (number_in f d.1))
  where
    go : (b : Bool) → ltb L W ≡ b → weight W (number_in f d.1) (due_at W f l (number_in f d.1)) (map (λ e. (e.0, C (suc e.1))) l) ≡ due_product W C (number_in f) l (number_in f d.1) →
        weight W L (cond b ((d.0, number_in f d.1) ∷ due_at W f l (number_in f d.1)) []) (map (λ e. (e.0, C (suc e.1))) (d ∷ l)) ≡ cond b (C (suc d.1) (number_in f d.1) * due_product W C (number_in f) l (number_in f d.1)) 1
    go true e inner = rw (e, eqb_refl d.0.0, inner)
    go false e inner = rw (le-leb W L (ltb-false L W e))

-- the weight of a stack is the product over the pending closes
pub due_weight : (ok : Allowed) (W : ℕ) (g : Rules) (w : List Token) (p : ℕ) (f : List ℕ) (L : ℕ) →
    weight W L (due_at W f (pending_at w p) L) (counts ok W g p (drop p w)).1 ≡ due_product W (counts_at ok W g w) (number_in f) (pending_at w p) L
due_weight ok W g w p f L = rw (counts-outer ok W g w p) (weight-product W (counts_at ok W g w) f (pending_at w p) L)

-- it stands at the first of them
pub first_due : (W : ℕ) (C : ℕ → Counts) (f v : ℕ → ℕ) (n : ℕ) (l : Closes) (L : ℕ) → Dues W C f v n l L → v (close_of l n) ≡ cap (due_product W C f l L)
first_due W C f v n [] L d = d
first_due W C f v n (x ∷ l) L d = d.0

-- ── nothing is due ──

module _ (W : ℕ) (C : ℕ → Counts) (f : ℕ → ℕ) (h : CloseName × ℕ → CloseName × Nonterminals) where
  product_high : (l : Closes) (L : ℕ) → W ≤ L → due_product W C f l L ≡ 1
  product_high [] L k = refl
  product_high (d ∷ l) L k = rw (le-ltb L W k)

  -- where nothing is due, 1 at the first pending close is enough
  pub dues_none : (v : ℕ → ℕ) (n : ℕ) (l : Closes) (L : ℕ) → Match W L [] (map h l) → v (close_of l n) ≡ 1 → Dues W C f v n l L
  dues_none v n [] L m e = e
  dues_none v n (d ∷ l) L m e = rw (le-ltb L W m) (e, tt)

  -- a rule goes on within its level: no close ends it, or both nonterminals are well matched or both are not
  same_side : (l : Closes) (L K : ℕ) (s : Stack) → Calm W L s → (L < W → K < W) → Match W K s (map h l) → (l ≡ []) ⊎ (ltb L W ≡ ltb K W)
  same_side [] L K s c i m = inl refl
  same_side (d ∷ l) L K s c i m = inr (go (dec_lt L W))
    where
      go : Dec (L < W) → ltb L W ≡ ltb K W
      go (yes q) = lt-ltb L W q ∙ sym (lt-ltb K W (i q))
      go (no q) =
          let high = alone_high W L q in
          let k : W ≤ K = (rw (high_calm W L s high c) at m) in
          le-ltb L W high ∙ sym (le-ltb K W k)

  product_on : (l : Closes) (L K : ℕ) → (l ≡ []) ⊎ (ltb L W ≡ ltb K W) → due_product W C f l L ≡ due_product W C f l K
  product_on l L K (inl e) = rw e
  product_on [] L K (inr e) = refl
  product_on (d ∷ l) L K (inr e) = rw e

  dues_on : (v : ℕ → ℕ) (n : ℕ) (l : Closes) (L K : ℕ) → (l ≡ []) ⊎ (ltb L W ≡ ltb K W) → Dues W C f v n l L → Dues W C f v n l K
  dues_on v n l L K (inl e) d = rw e (rw e at d)
  dues_on v n [] L K (inr e) d = d
  dues_on v n (x ∷ l) L K (inr e) d = rw (← e) d

-- ── what stays ──

module _ (W : ℕ) (C : ℕ → Counts) (f f' v v' : ℕ → ℕ) (n : ℕ) where
  product-same : (l : Closes) (L : ℕ) → ((d : CloseName × ℕ) → Memᴰ d l → f d.1 ≡ f' d.1) → due_product W C f l L ≡ due_product W C f' l L
  product-same [] L e = refl
  product-same (d ∷ l) L e = rw (e d (Memᴰ.head refl), product-same l (f' d.1) (λ x m. e x (Memᴰ.tail m)))

  dues_same : (l : Closes) (L : ℕ) → ((d : CloseName × ℕ) → Memᴰ d l → f d.1 ≡ f' d.1) → ((d : CloseName × ℕ) → Memᴰ d l → v d.1 ≡ v' d.1) → v n ≡ v' n →
      Dues W C f v n l L → Dues W C f' v' n l L
  dues_same [] L e i z d = sym z ∙ d
  dues_same (x ∷ l) L e i z d =
      (sym (i x (Memᴰ.head refl)) ∙ d.0 ∙ ap cap (product-same (x ∷ l) L e), go (ltb L W) (dues_same l (f' x.1) (λ y m. e y (Memᴰ.tail m)) (λ y m. i y (Memᴰ.tail m)) z) d.1)
    where
      go : (b : Bool) → (Dues W C f v n l (f' x.1) → Dues W C f' v' n l (f' x.1)) → IfTrue b (Dues W C f v n l (f x.1)) → IfTrue b (Dues W C f' v' n l (f' x.1))
      go true same y = same (rw (e x (Memᴰ.head refl)) at y)
      go false same y = tt

-- ── over a token ──

module _ (W : ℕ) (g : Rules) (w : List Token) (p : ℕ) (C : ℕ → Counts) (f f' v v' : ℕ → ℕ) where
  abbrev Close : ℕ
  Close = close_of (pending_at w (suc p)) (length w)

  abbrev Level : CloseName × ℕ → CloseName × Nonterminals
  Level d = (d.0, (masks W g (drop (suc d.1) w)).0)

  -- all but the first pending close behind p are as they were
  pub record Apart : Type 0 where
    pub numbers : (j : ℕ) → j ≢ Close → f j ≡ f' j
    pub values : (j : ℕ) → j ≢ Close → v j ≡ v' j

  matching : (L : ℕ) (s : Stack) → Fits W L s (masks W g (drop (suc p) w)) → Match W L s (map Level (pending_at w (suc p)))
  matching L s h = rw (masks-outer W g w (suc p)) at h.1

  -- a step: its close is pending now, before all others
  stepped : (a : OpenName) (b : CloseName) (M M₁ M₂ : ℕ) (s : Stack) → InForm W (Rule.Step M a M₁ b M₂) → Calm W M s → drop p w ≡ Token.Open a ∷ drop (suc p) w → Fits W M₁ ((b, M₂) ∷ s) (masks W g (drop (suc p) w)) →
      Apart → f' Close ≡ M₂ → (Close < length w → v' Close ≡ cap (C (suc Close) M₂ * due_product W C f (pending_at w p) M)) → Dues W C f v (length w) (pending_at w p) M → Dues W C f' v' (length w) (pending_at w (suc p)) M₁
  stepped a b M M₁ M₂ s form calm e h apart number value d = go (pending_at w (suc p)) refl (matching M₁ ((b, M₂) ∷ s) h)
    where
      go : (l : Closes) → pending_at w (suc p) ≡ l → Match W M₁ ((b, M₂) ∷ s) (map Level l) → Dues W C f' v' (length w) l M₁
      go [] i m = absurd m
      go (x ∷ l) i m =
          let is : Close ≡ x.1 = rw i in
          let outer : pending_at w p ≡ l = pending_next w p e ∙ rw i in
          let within : x.1 < length w = close_below w (suc p) x (rw i (Memᴰ.head refl)) in
          let fresh : (y : CloseName × ℕ) → Memᴰ y l → y.1 ≢ Close =
          λ y k j. close_fresh w p p e i (omega arith) y (rw outer k) (j ∙ is) in
          let side = same_side W C f Level l M M₂ s calm form.1 m.3 in
          let same = product_on W C f Level l M M₂ side ∙ product-same W C f f' v v' (length w) l M₂ (λ y k. apart.numbers y.1 (fresh y k)) in
          let last : f' x.1 ≡ M₂ = rw (← is) number in
          let first : v' x.1 ≡ cap (C (suc x.1) (f' x.1) * due_product W C f' l (f' x.1)) = rw (last, ← is) (value (rw is within) ∙ rw (outer, same)) in
          let rest : Dues W C f' v' (length w) l (f' x.1) =
          rw last (dues_same W C f f' v v' (length w) l M₂ (λ y k. apart.numbers y.1 (fresh y k)) (λ y k. apart.values y.1 (fresh y k)) (apart.values (length w) (λ j. omega (arith, j, is, within))) (dues_on W C f Level v (length w) l M M₂ side (rw outer at d))) in
          rw (lt-ltb M₁ W m.0) (first, rest)

  -- where the arrays have what they had, all that is due is as it was
  kept : (l : Closes) (L : ℕ) → Apart → f Close ≡ f' Close → v Close ≡ v' Close → Dues W C f v (length w) l L → Dues W C f' v' (length w) l L
  kept l L apart number value d = dues_same W C f f' v v' (length w) l L (λ y k. numbers y.1) (λ y k. values y.1) (values (length w)) d
    where
      numbers : (j : ℕ) → f j ≡ f' j
      numbers j = go (ℕ_discrete j Close)
        where
          go : Dec (j ≡ Close) → f j ≡ f' j
          go (yes e) = rw e number
          go (no e) = apart.numbers j e

      values : (j : ℕ) → v j ≡ v' j
      values j = go (ℕ_discrete j Close)
        where
          go : Dec (j ≡ Close) → v j ≡ v' j
          go (yes e) = rw e value
          go (no e) = apart.values j e

  -- by a nonterminal that is not well matched nothing is due
  pending-alone : (M M₁ : ℕ) (s : Stack) → W ≤ M → Calm W M s → Fits W M₁ s (masks W g (drop (suc p) w)) → v' Close ≡ cap (due_product W C f (pending_at w p) M) → Dues W C f' v' (length w) (pending_at w (suc p)) M₁
  pending-alone M M₁ s high calm h value =
      dues_none W C f' Level v' (length w) (pending_at w (suc p)) M₁ (rw (high_calm W M s high calm) at (matching M₁ s h)) (value ∙ ap cap (product_high W C f Level (pending_at w p) M high))

  -- a token taken alone
  alone : (t : Token) (M M₁ : ℕ) (s : Stack) → InForm W (Rule.Next M t M₁) → Calm W M s → drop p w ≡ t ∷ drop (suc p) w → Fits W M₁ s (masks W g (drop (suc p) w)) → Apart →
      f Close ≡ f' Close → v' Close ≡ cap (due_product W C f (pending_at w p) M) → Dues W C f v (length w) (pending_at w p) M → Dues W C f' v' (length w) (pending_at w (suc p)) M₁
  alone (Token.Mark c) M M₁ s form calm e h apart number value d =
      let here : pending_at w p ≡ pending_at w (suc p) = pending_next w p e in
      let side = same_side W C f Level (pending_at w (suc p)) M M₁ s calm (λ q. (form q).1) (matching M₁ s h) in
      let now : Dues W C f v (length w) (pending_at w (suc p)) M = rw here at d in
      let same : v Close ≡ v' Close = first_due W C f v (length w) (pending_at w (suc p)) M now ∙ sym (value ∙ rw here) in
      kept (pending_at w (suc p)) M₁ apart number same (dues_on W C f Level v (length w) (pending_at w (suc p)) M M₁ side now)
  alone (Token.Open a) M M₁ s form calm e h apart number value d = pending-alone M M₁ s (alone_high W M (λ q. (form q).0)) calm h value
  alone (Token.Close b) M M₁ s form calm e h apart number value d = pending-alone M M₁ s (alone_high W M (λ q. (form q).0)) calm h value

  -- where a rule leads, what is due is what the arrays say at the next position; x: the capped counts behind the close, due: what is due at p
  pub dues_next : {R : Rule} {L : ℕ} {s : Stack} {t : Token} {L' : ℕ} {s' : Stack} → Move R L s t L' s' → InForm W R → Calm W L s → drop p w ≡ t ∷ drop (suc p) w → Fits W L' s' (masks W g (drop (suc p) w)) → Apart →
      (x : Counts) (due : ℕ) → Below 32 R → (Close < length w → (M : ℕ) → M < 32 → x M ≡ cap (C (suc Close) M)) → due ≡ cap (due_product W C f (pending_at w p) L) →
      f' Close ≡ later R (f Close) → v' Close ≡ due_with R x due (v Close) → L' ≡ inner R (f p) → Dues W C f v (length w) (pending_at w p) L → Dues W C f' v' (length w) (pending_at w (suc p)) L'
  dues_next (by_empty {L} {M} {b} {s}) form calm e h apart x due small counted is number value there d =
      let now = rw (pending_next w p e, lt-ltb L W calm.0) at d in
      kept (pending_at w (suc p)) M apart (sym number) (sym value) (rw there now.1)
  dues_next (by_next {L} {L₁} {t} {s}) form calm e h apart x due small counted is number value there d = alone t L L₁ s form calm e h apart (sym number) (value ∙ is) d
  dues_next (by_step {L} {L₁} {L₂} {a} {b} {s}) form calm e h apart x due small counted is number value there d =
      stepped a b L L₁ L₂ s form calm e h apart number (λ l. value ∙ rw (counted l L₂ small.2, is) (sym (cap-mul (C (suc Close) L₂) (due_product W C f (pending_at w p) L)))) d
