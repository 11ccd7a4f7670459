-- What a member of `runs` begins with: a rule, by which the tokens end or one token is taken.
use Prim.Native.Nat.{ℕ, zero, suc, ◌+◌}
use native.Mathlib.Nat.{zero-add, suc-add, add-suc, add-zero}
use mathlib.Core.Path.{◌≡◌, refl, sym, ◌∙◌, subst}
use mathlib.Core.Logic.{◌⊎◌, inl, inr}
use mathlib.Core.Bool.{Bool, true, false, ◌&&◌, false≢true}
use mathlib.Core.List.Memᴰ
use mathlib.Core.List.{List, [], ◌∷◌, map, Memᴰ}
use mathlib.Core.Option.{Option, none, some, none-ne-some, some-injective}
use borrow.Author.Tests.{eqb-true, eq-eqb}
use lib.Dec.{eqb}
use lib.ListN.{get_elem?}
use Rattle.vpg.specs.declared.OpenName.{OpenName}
use Rattle.vpg.specs.declared.CloseName.{CloseName}
use Rattle.vpg.specs.declared.Rule.{Rule}
use Rattle.vpg.specs.declared.Token.{Token}
use Rattle.vpg.specs.believed.Grammar.{Rules}
use Rattle.vpg.specs.Runs.{Stack, State, only, move, ends, collect, once, follow, runs}
use Rattle.vpg.specs.Tests.{is_open, is_close, same_token}
use Rattle.vpg.proofs.Tests.{open_is, close_is, same_is, same_refl, empty_is}

-- ── collect ──

-- e is what rule R of number n + r gives, with that number in front
pub record Hit (k : Rule → List (List ℕ)) (n : ℕ) (g : Rules) (e : List ℕ) : Type 0 where
  pub number : ℕ
  pub rule : Rule
  pub rest : List ℕ
  pub is : get_elem? g number ≡ some rule
  pub shape : e ≡ (n + number) ∷ rest
  pub given : Memᴰ rest (k rule)

pub hit : (k : Rule → List (List ℕ)) (n : ℕ) (g : Rules) (e : List ℕ) → Memᴰ e (collect k n g) → Hit k n g e
hit k n [] e m = absurd (Memᴰ.not-nil m)
hit k n (R ∷ g) e m = go (hit k (suc n) g e) (Memᴰ.append_cases (map (λ e. n ∷ e) (k R)) m)
  where
    go : (Memᴰ e (collect k (suc n) g) → Hit k (suc n) g e) → Memᴰ e (map (λ e. n ∷ e) (k R)) ⊎ Memᴰ e (collect k (suc n) g) → Hit k n (R ∷ g) e
    go below (inl m) =
        let h = Memᴰ.of_map (λ (e : List ℕ). n ∷ e) (k R) m in
        record { number = 0; rule = R; rest = h.0; is = refl; shape = sym h.2 ∙ rw add-zero; given = h.1 }
    go below (inr m) =
        let h = below m in
        record { number = suc h.number; rule = h.rule; rest = h.rest; is = h.is; shape = h.shape ∙ rw (suc-add, add-suc); given = h.given }

pub unhit : (k : Rule → List (List ℕ)) (n : ℕ) (g : Rules) (r : ℕ) (R : Rule) (e : List ℕ) → get_elem? g r ≡ some R → Memᴰ e (k R) → Memᴰ ((n + r) ∷ e) (collect k n g)
unhit k n [] r R e p m = absurd (none-ne-some R p)
unhit k n (R' ∷ g) zero R e p m =
    Memᴰ.append_left (collect k (suc n) g) (Memᴰ.cast (rw add-zero) (Memᴰ.map (λ (e : List ℕ). n ∷ e) (subst (λ (X : Rule). Memᴰ e (k X)) (sym (some-injective R' R p)) m)))
unhit k n (R' ∷ g) (suc r) R e p m = Memᴰ.append_right (map (λ e. n ∷ e) (k R')) (Memᴰ.cast (rw (suc-add, add-suc)) (unhit k (suc n) g r R e p m))

-- ── move ──

-- `move`, as a relation
pub data Move : Rule → ℕ → Stack → Token → ℕ → Stack → Type 0 where
  by_empty : {L M : ℕ} {b : CloseName} {s : Stack} → Move (Rule.Empty L) L ((b, M) ∷ s) (Token.Close b) M s
  by_next : {L L₁ : ℕ} {t : Token} {s : Stack} → Move (Rule.Next L t L₁) L s t L₁ s
  by_step : {L L₁ L₂ : ℕ} {a : OpenName} {b : CloseName} {s : Stack} → Move (Rule.Step L a L₁ b L₂) L s (Token.Open a) L₁ ((b, L₂) ∷ s)

-- the tests that a move passed
only-some : (b : Bool) (M L : ℕ) (x y : State) → only (b && eqb M L) x ≡ some y → (b ≡ true) × (M ≡ L) × (x ≡ y)
only-some b M L x y p = go b (eqb M L) refl p
  where
    go : (b e : Bool) → eqb M L ≡ e → only (b && e) x ≡ some y → (b ≡ true) × (M ≡ L) × (x ≡ y)
    go true true f p = (refl, eqb-true M L f, some-injective x y p)
    go true false f p = absurd (none-ne-some y p)
    go false e f p = absurd (none-ne-some y p)

pub moved : (R : Rule) (L : ℕ) (s : Stack) (t : Token) (y : State) → move R L s t ≡ some y → Move R L s t y.0 y.1
moved (Rule.Empty M) L [] t y p = absurd (none-ne-some y p)
moved (Rule.Empty M) L (d ∷ s) t y p = let h = only-some (is_close d.0 t) M L _ y p in rw (← h.2, ← h.1, ← close_is d.0 t h.0) by_empty
moved (Rule.Next M i M₁) L s t y p = let h = only-some (same_token i t) M L _ y p in rw (← h.2, ← h.1, ← same_is i t h.0) by_next
moved (Rule.Step M a M₁ b M₂) L s t y p = let h = only-some (is_open a t) M L _ y p in rw (← h.2, ← h.1, ← open_is a t h.0) by_step

only_true : (a b : Bool) (x : State) → a ≡ true → b ≡ true → only (a && b) x ≡ some x
only_true a b x p q = rw (p, q)

pub moves : {R : Rule} {L : ℕ} {s : Stack} {t : Token} {L' : ℕ} {s' : Stack} → Move R L s t L' s' → move R L s t ≡ some (L', s')
moves (by_empty {L} {b}) = only_true _ _ _ (eq-eqb b.0 b.0 refl) (eq-eqb L L refl)
moves (by_next {L} {t}) = only_true _ _ _ (same_refl t) (eq-eqb L L refl)
moves (by_step {L} {a}) = only_true _ _ _ (eq-eqb a.0 a.0 refl) (eq-eqb L L refl)

-- ── runs ──

-- the first step of a run over the token t and then w
pub record Taken (g : Rules) (L : ℕ) (s : Stack) (t : Token) (w : List Token) (e : List ℕ) : Type 0 where
  pub number : ℕ
  pub rule : Rule
  pub nonterminal : ℕ
  pub due : Stack
  pub rest : List ℕ
  pub is : get_elem? g number ≡ some rule
  pub goes : Move rule L s t nonterminal due
  pub shape : e ≡ number ∷ rest
  pub run : Memᴰ rest (runs g (nonterminal, due) w)

follow-mem : {e : List ℕ} (o : Option State) (k : State → List (List ℕ)) → Memᴰ e (follow o k) → (s : State) × (o ≡ some s) × Memᴰ e (k s)
follow-mem none k m = absurd (Memᴰ.not-nil m)
follow-mem (some s) k m = (s, refl, m)

pub taken : (g : Rules) (L : ℕ) (s : Stack) (t : Token) (w : List Token) (e : List ℕ) → Memᴰ e (runs g (L, s) (t ∷ w)) → Taken g L s t w e
unfolding runs
taken g L s t w e m =
    let h = hit (λ R. follow (move R L s t) (λ s'. runs g s' w)) 0 g e m in
    let f = follow-mem (move h.rule L s t) (λ s'. runs g s' w) h.given in
    record { number = h.number; rule = h.rule; nonterminal = f.0.0; due = f.0.1; rest = h.rest; is = h.is; goes = moved h.rule L s t f.0 f.1; shape = h.shape ∙ rw zero-add; run = f.2 }

pub take : (g : Rules) (w : List Token) {r : ℕ} {R : Rule} {L : ℕ} {s : Stack} {t : Token} {L' : ℕ} {s' : Stack} {e : List ℕ} → get_elem? g r ≡ some R → Move R L s t L' s' → Memᴰ e (runs g (L', s') w) → Memᴰ (r ∷ e) (runs g (L, s) (t ∷ w))
unfolding runs
take g w {r} {R} {L} {s} {t} {e} p v m =
    Memᴰ.cast (rw zero-add) (unhit (λ R. follow (move R L s t) (λ s'. runs g s' w)) 0 g r R e p (rw (moves v) m))

-- a run over no token
pub record Ended (g : Rules) (L : ℕ) (s : Stack) (e : List ℕ) : Type 0 where
  pub number : ℕ
  pub is : get_elem? g number ≡ some (Rule.Empty L)
  pub done : s ≡ []
  pub shape : e ≡ number ∷ []

pub ends_true : (R : Rule) (L : ℕ) (s : Stack) → ends R L s ≡ true → (R ≡ Rule.Empty L) × (s ≡ [])
ends_true R L [] p = (empty_is L R p, refl)
ends_true R L (d ∷ s) p = absurd (false≢true p)

once-mem : {e : List ℕ} (b : Bool) → Memᴰ e (once b) → (b ≡ true) × (e ≡ [])
once-mem true m = (refl, Memᴰ.eq_of_singleton m)
once-mem false m = absurd (Memᴰ.not-nil m)

pub ended : (g : Rules) (L : ℕ) (s : Stack) (e : List ℕ) → Memᴰ e (runs g (L, s) []) → Ended g L s e
unfolding runs
ended g L s e m =
    let h = hit (λ R. once (ends R L s)) 0 g e m in
    let f = once-mem (ends h.rule L s) h.given in
    let q = ends_true h.rule L s f.0 in
    record { number = h.number; is = rw q.0 at h.is; done = q.1; shape = h.shape ∙ rw (zero-add, f.1) }

pub end : (g : Rules) {r : ℕ} {L : ℕ} → get_elem? g r ≡ some (Rule.Empty L) → Memᴰ (r ∷ []) (runs g (L, []) [])
unfolding runs
end g {r} {L} p =
    Memᴰ.cast (rw zero-add) (unhit (λ R. once (ends R L [])) 0 g r (Rule.Empty L) [] p (rw (eq-eqb L L refl) (Memᴰ.head refl)))
