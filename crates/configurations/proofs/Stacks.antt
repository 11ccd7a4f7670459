-- The open steps of a stack: what a push and a pop make of them, and one step of the pass.
use Prim.Native.Nat.{ℕ, zero, suc, ◌+◌, ◌-◌, ◌<◌, ◌≤◌}
use native.Mathlib.Numerals.{add-one}
use native.Mathlib.Omega.{arith}
use mathlib.Core.Path.{◌≡◌, sym, ◌∙◌, ap, subst}
use mathlib.Core.List.{List, [], ◌∷◌}
use lib.ListN.{length, get_or, set}
use lib.Seq.{get_or-set_same, get_or-set_other, set-set}
use Rattle.vpg.specs.declared.OpenName.{OpenName}
use Rattle.vpg.specs.declared.CloseName.{CloseName}
use Rattle.vpg.specs.declared.Token.{Token}
use Rattle.vpg.specs.believed.Grammar.{Grammar}
use Rattle.pair_theory.specs.Depth.{open_after}
use Rattle.pair_theory.specs.Pairs.{PairState, PairStack, over_next, over_open, over_return, closed}
use Rattle.tables.specs.declared.Head.{Head}
use Rattle.tables.specs.declared.Table.{Table}
use Rattle.pair_states.specs.declared.Opened.{Opened}
use Rattle.pair_states.specs.Encodes.{Encodes}
use Rattle.pair_states.specs.Wide.{wide_grammar}
use Rattle.configurations.specs.declared.stack.Stack.{Stack}
use Rattle.configurations.specs.Stack.{nothing, Saved, Pushed, Holds, StepHolds}

-- ── push and pop ──

-- the stack goes by the open steps alone
saved_same : (opened opened' : List Opened) (d : ℕ) (T : PairStack) → ((e : ℕ) → e < d → get_or opened' e nothing ≡ get_or opened e nothing) → Saved opened d T → Saved opened' d T
saved_same opened opened' zero [] f x = tt
saved_same opened opened' zero (y ∷ T) f x = x
saved_same opened opened' (suc d) [] f x = x
saved_same opened opened' (suc d) (y ∷ T) f x = (
  subst (λ (o : Opened). Encodes o.words y.0) (sym (f d (omega arith))) x.0,
  ap (λ (o : Opened). o.name) (f d (omega arith)) ∙ x.1,
  saved_same opened opened' d T (λ e l. f e (omega arith)) x.2,
)

pub pushed : (before after : Stack) (a : OpenName) (words : List ℕ) → before.depth < 128 → after.opened ≡ set before.opened before.depth (record { name = a; words = words }) → after.depth ≡ before.depth + 1 →
    Pushed a words before after
pushed before after a words more e f = record {
  holds = λ S T x y. rw (f, add-one) (
    subst (λ (o : Opened). Encodes o.words S) (sym top) x,
    ap (λ (o : Opened). o.name) top,
    saved_same before.opened after.opened before.depth T (λ k l. rw e (get_or-set_other before.opened before.depth k (record { name = a; words = words }) nothing (omega arith))) y,
  );
  depth = f;
}
  where
    top : get_or after.opened before.depth nothing ≡ record { name = a; words = words }
    top = rw e (get_or-set_same before.opened before.depth _ nothing (omega (arith, before.bounded.0)))

-- the place behind the open steps is written twice: the name first, then the words
pub written : (opened : List Opened) (d : ℕ) (a : OpenName) (words words' : List ℕ) → d < length opened →
    set (set opened d (record { name = a; words = words' })) d (record { name = (get_or (set opened d (record { name = a; words = words' })) d nothing).name; words = words }) ≡ set opened d (record { name = a; words = words })
written opened d a words words' l = rw (get_or-set_same opened d (record { name = a; words = words' }) nothing l) (set-set opened d _ _)

-- ── one step ──

-- before an open fewer than 128 steps are open
pub room : (t : Token) (a : OpenName) (d : ℕ) → t ≡ Token.Open a → open_after t d ≤ 128 → d < 128
room t a d e h = let l : open_after (Token.Open a) d ≤ 128 = rw e at h in omega arith

-- over each kind of token
module _ (table : Table) (head : Head) (words : List ℕ) (stack : Stack) where
  abbrev g : Grammar
  g = wide_grammar table head

  pub open_step : (a : OpenName) (words' : List ℕ) (stack' : Stack) → Pushed a words stack stack' → ((S : PairState) → Encodes words S → Encodes words' (over_open g a S)) →
      StepHolds table head (Token.Open a) words stack words' stack'
  open_step a words' stack' p f = record { holds = λ x h. record { state = f x.0 h.state; saved = p.holds x.0 x.1 h.state h.saved }; steps_open = p.depth }

  -- the words after the close of the step at number e
  abbrev Back : CloseName → ℕ → List ℕ → Type 0
  Back b e words' =
      (S S₁ : PairState) → Encodes words S → Encodes (get_or stack.opened e nothing).words S₁ → Encodes words' (over_return g b S S₁ (get_or stack.opened e nothing).name)

  pub close_step : (b : CloseName) (words' : List ℕ) (stack' : Stack) → 0 < stack.depth → stack'.opened ≡ stack.opened → stack'.depth ≡ stack.depth - 1 → Back b (stack.depth - 1) words' →
      StepHolds table head (Token.Close b) words stack words' stack'
  close_step b words' stack' more e f back =
      record { holds = λ x h. let r = go stack.depth more back x.0 x.1 h.state h.saved in record { state = r.0; saved = rw (e, f) r.1 }; steps_open = f }
    where
      go : (d : ℕ) → 0 < d → Back b (d - 1) words' → (S : PairState) (T : PairStack) → Encodes words S → Saved stack.opened d T →
          Encodes words' (closed g b S T).0 × Saved stack.opened (d - 1) (closed g b S T).1
      go zero more f S T x y = absurd (omega arith)
      go (suc d) more f S [] x y = absurd y
      go (suc d) more f S (p ∷ T) x y =
          let e : suc d - 1 ≡ d = omega arith in
          let at = rw e at f in (
            subst (λ (o : OpenName). Encodes words' (over_return g b S p.0 o)) y.1 (at S p.0 x y.0),
            rw e y.2,
          )

  -- with no open before it
  pub close_none : (b : CloseName) (words' : List ℕ) → stack.depth ≡ 0 → ((S : PairState) → Encodes words S → Encodes words' (over_next g (Token.Close b) S)) →
      StepHolds table head (Token.Close b) words stack words' stack
  close_none b words' none f = record { holds = λ x h. go x.0 x.1 h.state (subst (λ (k : ℕ). Saved stack.opened k x.1) none h.saved); steps_open = rw none }
    where
      go : (S : PairState) (T : PairStack) → Encodes words S → Saved stack.opened 0 T → Holds words' stack (closed g b S T)
      go S [] x y = record { state = f S x; saved = rw none tt }
      go S (p ∷ T) x y = absurd y
