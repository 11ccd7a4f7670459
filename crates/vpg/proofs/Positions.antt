-- What stands at each position of a derivation's code, by the kind of token (document 01, "Readings").
use Prim.Native.Nat.{ℕ, zero, suc, ◌+◌}
use native.Mathlib.Nat.{zero-add, suc-add}
use native.Mathlib.Omega.{arith}
use mathlib.Core.Path.{◌≡◌, refl, ◌∙◌}
use mathlib.Core.Logic.{◌⊎◌, inl, inr, ⊎_elim}
use mathlib.Core.List.{List, [], ◌∷◌, ◌++◌, append_assoc}
use mathlib.Core.Option.{some, none-ne-some, some-injective}
use lib.ListN.{length, get_elem?, length-append}
use Rattle.vpg.specs.declared.MarkName.{MarkName}
use Rattle.vpg.specs.declared.OpenName.{OpenName}
use Rattle.vpg.specs.declared.CloseName.{CloseName}
use Rattle.vpg.specs.declared.Rule.{Rule}
use Rattle.vpg.specs.declared.Token.{Token}
use Rattle.vpg.specs.believed.Grammar.{Rules, Tree, code, Derives, by_empty, by_next, by_step}
use Rattle.vpg.specs.believed.Matched.{PlainRules}
use Rattle.vpg.specs.Positions.{final, AloneAt, StepAt}
use Rattle.laws.proofs.Lists.{at_left, at_right, at_cases, drop-left}
use Rattle.vpg.proofs.Entries.{code-length}

-- ── what stands at a position, moved into a longer list ──

-- token x stands at p, and beside it what document 01 says of its kind
data At (g : Rules) (w : List Token) (e : List ℕ) : ℕ → Token → Type 0 where
  at-alone : {p : ℕ} {i : Token} → AloneAt g e p i → At g w e p i
  at_open : {p : ℕ} {a : OpenName} {q : ℕ} {b : CloseName} → StepAt g w e p a q b → At g w e p (Token.Open a)
  at_close : {p : ℕ} {a : OpenName} {q : ℕ} {b : CloseName} → StepAt g w e p a q b → At g w e q (Token.Close b)

module _ {g : Rules} where
  step_shift : {w : List Token} {e : List ℕ} {p : ℕ} {a : OpenName} {q : ℕ} {b : CloseName} (y : Token) (n : ℕ) → StepAt g w e p a q b → StepAt g (y ∷ w) (n ∷ e) (suc p) a (suc q) b
  step_shift y n h =
      record { number = h.number; nonterminal = h.nonterminal; within = h.within; after = h.after; inside = h.inside; tree = h.tree; rest = h.rest; stands = h.stands; is = h.is; derives = h.derives; tokens = h.tokens; close = omega arith; ends = h.ends; later = h.later; numbers = h.numbers }

  shift : {w : List Token} {e : List ℕ} {p : ℕ} {x : Token} (y : Token) (n : ℕ) → At g w e p x → At g (y ∷ w) (n ∷ e) (suc p) x
  shift y n (at-alone h) = at-alone (record { number = h.number; nonterminal = h.nonterminal; after = h.after; stands = h.stands; is = h.is })
  shift y n (at_open h) = at_open (step_shift y n h)
  shift y n (at_close h) = at_close (step_shift y n h)

  shift_all : {w : List Token} {e : List ℕ} {p : ℕ} {x : Token} (v : List Token) (f : List ℕ) → length v ≡ length f → At g w e p x → At g (v ++ w) (f ++ e) (length v + p) x
  shift_all [] [] l h = rw zero-add h
  shift_all [] (n ∷ f) l h = absurd (omega arith)
  shift_all (y ∷ v) [] l h = absurd (omega arith)
  shift_all (y ∷ v) (n ∷ f) l h = rw suc-add (shift y n (shift_all v f (omega arith) h))

  step_extend : {w : List Token} {e : List ℕ} {p : ℕ} {a : OpenName} {q : ℕ} {b : CloseName} (v : List Token) (f : List ℕ) → StepAt g w e p a q b → StepAt g (w ++ v) (e ++ f) p a q b
  step_extend {w} {e} {p} {q} v f h =
      record {
        number = h.number;
        nonterminal = h.nonterminal;
        within = h.within;
        after = h.after;
        inside = h.inside;
        tree = h.tree;
        rest = h.rest ++ v;
        stands = at_left e f p h.stands;
        is = h.is;
        derives = h.derives;
        tokens = drop-left w v p h.tokens ∙ rw append_assoc;
        close = h.close;
        ends = at_left e f q h.ends;
        later = h.later ++ f;
        numbers = drop-left e f p h.numbers ∙ rw append_assoc;
      }

  extend : {w : List Token} {e : List ℕ} {p : ℕ} {x : Token} (v : List Token) (f : List ℕ) → At g w e p x → At g (w ++ v) (e ++ f) p x
  extend {e} {p} v f (at-alone h) = at-alone (record { number = h.number; nonterminal = h.nonterminal; after = h.after; stands = at_left e f p h.stands; is = h.is })
  extend v f (at_open h) = at_open (step_extend v f h)
  extend v f (at_close h) = at_close (step_extend v f h)

  -- ── the theorems ──

  -- "position n holds the form 0 rule that ends the top level"
  pub position_end : {L : ℕ} {w : List Token} {t : Tree} → Derives g L w t → get_elem? (code t) (length w) ≡ some (final t)
  position_end (by_empty p) = refl
  position_end (by_next p d) = position_end d
  position_end (by_step {b} {v} {w} {t} {u} p d d') =
      let e : length (v ++ (Token.Close b ∷ w)) ≡ length (code t) + length w = simp (length-append, code-length d) (omega arith) in
      rw (e, at_right) (position_end d')

  -- `final` is the number of a form 0 rule
  pub final_empty : {L : ℕ} {w : List Token} {t : Tree} → Derives g L w t → (K : ℕ) × (get_elem? g (final t) ≡ some (Rule.Empty K))
  final_empty (by_empty {L} p) = (L, p)
  final_empty (by_next p d) = final_empty d
  final_empty (by_step p d d') = final_empty d'

  -- what a step gives at its open and at its close
  step_here : {r L : ℕ} {a : OpenName} {L₁ : ℕ} {b : CloseName} {L₂ : ℕ} {v : List Token} {t : Tree} (w : List Token) (f : List ℕ) →
      get_elem? g r ≡ some (Rule.Step L a L₁ b L₂) → Derives g L₁ v t → StepAt g (Token.Open a ∷ (v ++ (Token.Close b ∷ w))) (r ∷ (code t ++ f)) 0 a (suc (length v)) b
  step_here {r} {L} {L₁} {L₂} {v} {t} w f p d =
      record { number = r; nonterminal = L; within = L₁; after = L₂; inside = v; tree = t; rest = w; stands = refl; is = p; derives = d; tokens = refl; close = omega arith; ends = at_left (code t) f (length v) (position_end d); later = f; numbers = refl }

  positions : {L : ℕ} {w : List Token} {t : Tree} → Derives g L w t → (p : ℕ) (x : Token) → get_elem? w p ≡ some x → At g w (code t) p x
  positions (by_empty q) p x h = absurd (none-ne-some x h)
  positions (by_next {r} {L} {i} {L₁} q d) zero x h =
      rw (← (some-injective i x h)) (at-alone (record { number = r; nonterminal = L; after = L₁; stands = refl; is = q }))
  positions (by_next {r} {i} q d) (suc p) x h = shift i r (positions d p x h)
  positions (by_step {a} {w} {u} q d d') zero x h =
      rw (← (some-injective (Token.Open a) x h)) (at_open (step_here w (code u) q d))
  positions (by_step {r} {a} {b} {v} {w} {t} {u} q d d') (suc p) x h = go (at_cases x v (Token.Close b ∷ w) p h) (λ h. positions d p x h) (λ k h. positions d' k x h)
    where
      go : (get_elem? v p ≡ some x) ⊎ ((k : ℕ) × (p ≡ length v + k) × (get_elem? (Token.Close b ∷ w) k ≡ some x)) → (get_elem? v p ≡ some x → At g v (code t) p x) → ((k : ℕ) → get_elem? w k ≡ some x → At g w (code u) k x) → At g (Token.Open a ∷ (v ++ (Token.Close b ∷ w))) (r ∷ (code t ++ code u)) (suc p) x
      go (inl h) in-inside in_rest = shift (Token.Open a) r (extend (Token.Close b ∷ w) (code u) (in-inside h))
      go (inr (zero, e, h)) in-inside in_rest =
          let z : p ≡ length v = omega arith in
          rw (z, ← (some-injective (Token.Close b) x h)) (at_close (step_here w (code u) q d))
      go (inr (suc k, e, h)) in-inside in_rest =
          let z : p ≡ length (v ++ (Token.Close b ∷ [])) + k = simp length-append (omega arith) in
          rw z (shift (Token.Open a) r (rw append_assoc at (shift_all (v ++ (Token.Close b ∷ [])) (code t) (simp (length-append, code-length d) (omega arith)) (in_rest k h))))

  mark_of : {w : List Token} {e : List ℕ} {p : ℕ} {c : MarkName} → At g w e p (Token.Mark c) → AloneAt g e p (Token.Mark c)
  mark_of (at-alone h) = h

  open_of : {w : List Token} {e : List ℕ} {p : ℕ} {a : OpenName} → At g w e p (Token.Open a) → AloneAt g e p (Token.Open a) ⊎ ((q : ℕ) × (b : CloseName) × StepAt g w e p a q b)
  open_of (at-alone h) = inl h
  open_of (at_open {q} {b} h) = inr (q, b, h)

  close_of : {w : List Token} {e : List ℕ} {q : ℕ} {b : CloseName} → At g w e q (Token.Close b) → AloneAt g e q (Token.Close b) ⊎ ((p : ℕ) × (a : OpenName) × StepAt g w e p a q b)
  close_of (at-alone h) = inl h
  close_of (at_close {p} {a} h) = inr (p, a, h)

  module _ {L : ℕ} {w : List Token} {t : Tree} (d : Derives g L w t) where
    pub position_mark : (p : ℕ) (c : MarkName) → get_elem? w p ≡ some (Token.Mark c) → AloneAt g (code t) p (Token.Mark c)
    position_mark p c h = mark_of (positions d p (Token.Mark c) h)

    pub position_open : (p : ℕ) (a : OpenName) → get_elem? w p ≡ some (Token.Open a) → AloneAt g (code t) p (Token.Open a) ⊎ ((q : ℕ) × (b : CloseName) × StepAt g w (code t) p a q b)
    position_open p a h = open_of (positions d p (Token.Open a) h)

    pub position_close : (q : ℕ) (b : CloseName) → get_elem? w q ≡ some (Token.Close b) → AloneAt g (code t) q (Token.Close b) ⊎ ((p : ℕ) × (a : OpenName) × StepAt g w (code t) p a q b)
    position_close q b h = close_of (positions d q (Token.Close b) h)

    -- where no rule takes an open or a close alone
    pub matched_open : PlainRules g → (p : ℕ) (a : OpenName) → get_elem? w p ≡ some (Token.Open a) → (q : ℕ) × (b : CloseName) × StepAt g w (code t) p a q b
    matched_open ok p a h = ⊎_elim (λ k. absurd (ok k.number _ k.is)) (λ k. k) (position_open p a h)

    pub matched_close : PlainRules g → (q : ℕ) (b : CloseName) → get_elem? w q ≡ some (Token.Close b) → (p : ℕ) × (a : OpenName) × StepAt g w (code t) p a q b
    matched_close ok q b h = ⊎_elim (λ k. absurd (ok k.number _ k.is)) (λ k. k) (position_close q b h)
