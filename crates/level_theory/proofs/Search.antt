-- The first run and the next run, rule by rule: what a loop over the tokens has to show of each step.
use Prim.Native.Nat.{ℕ, ◌<◌}
use mathlib.Core.Path.{◌≡◌, refl, ap}
use mathlib.Core.Logic.{◌⊎◌, inl, inr}
use mathlib.Core.Bool.{Bool}
use mathlib.Core.List.{List, [], ◌∷◌}
use mathlib.Core.Option.{some}
use lib.ListN.{get_elem?}
use Rattle.vpg.specs.declared.Rule.{Rule}
use Rattle.vpg.specs.declared.Token.{Token}
use Rattle.vpg.specs.believed.Grammar.{Rules, General}
use Rattle.vpg.specs.believed.Order.{Before}
use Rattle.vpg.specs.Extremes.{Least, Next, Last}
use Rattle.vpg.specs.Runs.{Stack, State, move}
use Rattle.laws.proofs.Lists.{trichotomy}
use Rattle.vpg.proofs.Take.{Move, moves, Taken, taken, take, Ended, ended, end}
use Rattle.level_theory.specs.Masks.{applies, finishes, masks, Calm}
use Rattle.level_theory.specs.Walk.{Run}
use Rattle.level_theory.proofs.Alive.{Passes, goes_applies, calm_on, run_fits, ends_empty}

-- no rule for L passes whose number P holds of
abbrev pub None : (Rule → Bool) → Rules → ℕ → (ℕ → Type 0) → Type 0
None p g L P = (r : ℕ) → P r → Passes p g L r → ⊥

-- a rule leads to one place
one_way : (g : Rules) {L : ℕ} {s : Stack} {t : Token} {r q L₁ L₂ : ℕ} {s₁ s₂ : Stack} {R Q : Rule} → r ≡ q →
    get_elem? g r ≡ some R → get_elem? g q ≡ some Q → Move R L s t L₁ s₁ → Move Q L s t L₂ s₂ → ◌≡◌ {A = State} (L₁, s₁) (L₂, s₂)
one_way g {L} {s} {t} {R} {Q} e p q v v' =
    let h : R ≡ Q = cc in
    cc (moves v, moves v', ap (λ (X : Rule). move X L s t) h)

-- the first rule of a run applies
pub live : (W : ℕ) {g : Rules} {L : ℕ} {s : Stack} {t : Token} {w : List Token} {f : List ℕ} → General W g → Calm W L s → (k : Taken g L s t w f) → Passes (applies W (masks W g w) t) g L k.number
live W {g} {w = w} ok c k =
    let h = ok k.number k.rule k.is in
    let a = goes_applies W (masks W g w) h c k.goes (run_fits W g ok w k.nonterminal k.due (calm_on W h k.goes c) k.rest k.run) in
    record { rule = k.rule; is = k.is; from = a.from; passes = a.applied }

-- two lists with one head
with_head : {r q : ℕ} {e d f : List ℕ} → f ≡ q ∷ d → r ≡ q → (e ≡ d) ⊎ Before e d → (r ∷ e ≡ f) ⊎ Before (r ∷ e) f
with_head s q (inl p) = inl (cc (s))
with_head s q (inr b) = inr (rw s (inr (q, b)))

module _ (g : Rules) (L : ℕ) (s : Stack) (t : Token) (w : List Token) where
  -- rule number r leads to L' with s' due
  pub record Leads (r L' : ℕ) (s' : Stack) : Type 0 where
    pub rule : Rule
    pub is : get_elem? g r ≡ some rule
    pub goes : Move rule L s t L' s'

  -- what follows the same rule is a run from the same place
  pub same_place : {r L' : ℕ} {s' : Stack} {f : List ℕ} (v : Leads r L' s') (k : Taken g L s t w f) → r ≡ k.number → Run g (L', s') w k.rest
  same_place v k q = rw (one_way g q v.is k.is v.goes k.goes) k.run

  -- the next run keeps the rule where what follows has a next run
  pub next_keep : (r L' : ℕ) (s' : Stack) (e e' : List ℕ) → Leads r L' s' → Next (Run g (L', s') w) e e' → Next (Run g (L, s) (t ∷ w)) (r ∷ e) (r ∷ e')
  next_keep r L' s' e e' v h = record {
    holds = (take g w v.is v.goes h.holds.0, inr (refl, h.holds.1));
    least = λ f m. let k = taken g L s t w f m.0 in go f k (rw k.shape at m.1);
  }
    where
      go : (f : List ℕ) (k : Taken g L s t w f) → (r < k.number) ⊎ ((r ≡ k.number) × Before e k.rest) → (r ∷ e' ≡ f) ⊎ Before (r ∷ e') f
      go f k (inl l) = inr (rw k.shape (inl l))
      go f k (inr b) = with_head k.shape b.0 (h.least k.rest (same_place v k b.0, b.1))

  module _ (W : ℕ) (ok : General W g) (calm : Calm W L s) where
    -- the first run takes the first rule that applies
    pub first_step : (r L' : ℕ) (s' : Stack) (e : List ℕ) → Leads r L' s' → None (applies W (masks W g w) t) g L (λ q. q < r) → Least (Run g (L', s') w) e → Least (Run g (L, s) (t ∷ w)) (r ∷ e)
    first_step r L' s' e v d h = record {
      holds = take g w v.is v.goes h.holds;
      least = λ f m. let k = taken g L s t w f m in go f k (trichotomy r k.number);
    }
      where
        go : (f : List ℕ) (k : Taken g L s t w f) → (r ≡ k.number) ⊎ ((r < k.number) ⊎ (k.number < r)) → (r ∷ e ≡ f) ⊎ Before (r ∷ e) f
        go f k (inl q) = with_head k.shape q (h.least k.rest (same_place v k q))
        go f k (inr (inl l)) = inr (rw k.shape (inl l))
        go f k (inr (inr l)) = absurd (d k.number l (live W ok calm k))

    -- otherwise it takes the next rule that applies, and the first run after it
    pub next-turn : (r L' : ℕ) (s' : Stack) (e : List ℕ) (q M : ℕ) (z : Stack) (e' : List ℕ) → Leads r L' s' → Last (Run g (L', s') w) e →
        r < q → Leads q M z → None (applies W (masks W g w) t) g L (λ p. (r < p) × (p < q)) → Least (Run g (M, z) w) e' → Next (Run g (L, s) (t ∷ w)) (r ∷ e) (q ∷ e')
    next-turn r L' s' e q M z e' v last lt u d h = record {
      holds = (take g w u.is u.goes h.holds, inl lt);
      least = λ f m. let k = taken g L s t w f m.0 in go f k (trichotomy q k.number) (rw k.shape at m.1);
    }
      where
        go : (f : List ℕ) (k : Taken g L s t w f) → (q ≡ k.number) ⊎ ((q < k.number) ⊎ (k.number < q)) →
            (r < k.number) ⊎ ((r ≡ k.number) × Before e k.rest) → (q ∷ e' ≡ f) ⊎ Before (q ∷ e') f
        go f k (inl p) b = with_head k.shape p (h.least k.rest (same_place u k p))
        go f k (inr (inl l)) b = inr (rw k.shape (inl l))
        go f k (inr (inr l)) (inl b) = absurd (d k.number (b, l) (live W ok calm k))
        go f k (inr (inr l)) (inr b) = absurd (last k.rest (same_place v k b.0) b.1)

    -- and where there is no such rule there is no next run
    pub last_step : (r L' : ℕ) (s' : Stack) (e : List ℕ) → Leads r L' s' → Last (Run g (L', s') w) e → None (applies W (masks W g w) t) g L (λ p. r < p) → Last (Run g (L, s) (t ∷ w)) (r ∷ e)
    last_step r L' s' e v last d f m b = let k = taken g L s t w f m in go k (rw k.shape at b)
      where
        go : (k : Taken g L s t w f) → (r < k.number) ⊎ ((r ≡ k.number) × Before e k.rest) → ⊥
        go k (inl l) = d k.number l (live W ok calm k)
        go k (inr b) = last k.rest (same_place v k b.0) b.1

-- where the tokens end
module _ (g : Rules) (L : ℕ) where
  finished : {f : List ℕ} (k : Ended g L [] f) → Passes finishes g L k.number
  finished k = record { rule = Rule.Empty L; is = k.is; from = refl; passes = refl }

  pub end_first : (r : ℕ) → Passes finishes g L r → None finishes g L (λ q. q < r) → Least (Run g (L, []) []) (r ∷ [])
  end_first r p d = record { holds = end g (ends_empty g L r p); least = λ f m. let k = ended g L [] f m in go f k (trichotomy r k.number) }
    where
      go : (f : List ℕ) (k : Ended g L [] f) → (r ≡ k.number) ⊎ ((r < k.number) ⊎ (k.number < r)) → (r ∷ [] ≡ f) ⊎ Before (r ∷ []) f
      go f k (inl q) = inl (cc k.shape)
      go f k (inr (inl l)) = inr (rw k.shape (inl l))
      go f k (inr (inr l)) = absurd (d k.number l (finished k))

  -- the next run of one number
  pub end_next : (r q : ℕ) → r < q → Passes finishes g L q → None finishes g L (λ p. (r < p) × (p < q)) → Next (Run g (L, []) []) (r ∷ []) (q ∷ [])
  end_next r q lt p d = record {
    holds = (end g (ends_empty g L q p), inl lt);
    least = λ f m. let k = ended g L [] f m.0 in go f k (trichotomy q k.number) (rw k.shape at m.1);
  }
    where
      go : (f : List ℕ) (k : Ended g L [] f) → (q ≡ k.number) ⊎ ((q < k.number) ⊎ (k.number < q)) → (r < k.number) ⊎ ((r ≡ k.number) × ⊥) → (q ∷ [] ≡ f) ⊎ Before (q ∷ []) f
      go f k (inl e) b = inl (cc k.shape)
      go f k (inr (inl l)) b = inr (rw k.shape (inl l))
      go f k (inr (inr l)) (inl b) = absurd (d k.number (b, l) (finished k))
      go f k (inr (inr l)) (inr b) = absurd b.1

  pub end_last : (r : ℕ) → None finishes g L (λ p. r < p) → Last (Run g (L, []) []) (r ∷ [])
  end_last r d f m b = let k = ended g L [] f m in go k (rw k.shape at b)
    where
      go : (k : Ended g L [] f) → (r < k.number) ⊎ ((r ≡ k.number) × ⊥) → ⊥
      go k (inl l) = d k.number l (finished k)
      go k (inr b) = b.1
