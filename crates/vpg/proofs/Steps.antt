-- A nonterminal derives the tokens by a tree exactly when single steps lead from it to them.
use Prim.Native.Nat.{ℕ}
use mathlib.Core.Path.{◌≡◌, refl}
use mathlib.Core.Logic.{◌↔◌}
use mathlib.Core.List.{List, [], ◌∷◌, ◌++◌, map, append_assoc, append-nil}
use mathlib.Core.Option.{some}
use lib.ListN.{get_elem?}
use Rattle.vpg.specs.declared.Rule.{Rule}
use Rattle.vpg.specs.declared.Token.{Token}
use Rattle.vpg.specs.believed.Grammar.{Rules, Grammar, Tree, code, Derives, by_empty, by_next, by_step, Reading, left}
use Rattle.vpg.specs.Steps.{Symbol, terminal, nonterminal, right, OneStep, replace, Steps, no_step, and_then}

-- a tree for each nonterminal of a string
data Forest (g : Rules) : List Symbol → List Token → Type 0 where
  nothing : Forest g [] []
  token : {x : Token} {s : List Symbol} {w : List Token} → Forest g s w → Forest g (terminal x ∷ s) (x ∷ w)
  tree : {L : ℕ} {s : List Symbol} {v w : List Token} {t : Tree} → Derives g L v t → Forest g s w → Forest g (nonterminal L ∷ s) (v ++ w)

module _ {g : Rules} where
  -- ── from a tree to steps, leftmost first ──

  one-cons : {s s' : List Symbol} (x : Symbol) → OneStep g s s' → OneStep g (x ∷ s) (x ∷ s')
  one-cons x (replace r y z p) = replace r (x ∷ y) z p

  steps_cons : {s s' : List Symbol} (x : Symbol) → Steps g s s' → Steps g (x ∷ s) (x ∷ s')
  steps_cons x no_step = no_step
  steps_cons x (and_then h k) = and_then (one-cons x h) (steps_cons x k)

  tree_steps : {L : ℕ} {v : List Token} {t : Tree} → Derives g L v t → (s : List Symbol) (w : List Token) → Steps g s (map terminal w) → Steps g (nonterminal L ∷ s) (map terminal (v ++ w))
  tree_steps (by_empty {r} p) s w h = and_then (replace r [] s p) h
  tree_steps (by_next {r} {i} p d) s w h = and_then (replace r [] s p) (steps_cons (terminal i) (tree_steps d s w h))
  tree_steps (by_step {r} {a} {b} {L₂} {w = v'} p d d') s w h =
      simp append_assoc
      (and_then (replace r [] s p) (steps_cons (terminal (Token.Open a)) (tree_steps d (terminal (Token.Close b) ∷ nonterminal L₂ ∷ s) (Token.Close b ∷ (v' ++ w)) (steps_cons (terminal (Token.Close b)) (tree_steps d' s w h)))))

  -- ── from steps to a tree ──

  tokens : (w : List Token) → Forest g (map terminal w) w
  tokens [] = nothing
  tokens (x ∷ w) = token (tokens w)

  -- the right side's trees make the left side's tree
  forest_rule : (r : ℕ) (R : Rule) {s : List Symbol} {w : List Token} → get_elem? g r ≡ some R → Forest g (right R ++ s) w → Forest g (nonterminal (left R) ∷ s) w
  forest_rule r (Rule.Empty L) p f = tree (by_empty p) f
  forest_rule r (Rule.Next L i L₁) p (token (tree d f)) = tree (by_next p d) f
  forest_rule r (Rule.Step L a L₁ b L₂) p (token (tree d (token (tree d' f)))) = rw append_assoc at (tree (by_step p d d') f)

  forest_context : (r : ℕ) {R : Rule} (x y : List Symbol) {w : List Token} → get_elem? g r ≡ some R → Forest g (x ++ (right R ++ y)) w → Forest g (x ++ (nonterminal (left R) ∷ y)) w
  forest_context r {R} [] y p f = forest_rule r R p f
  forest_context r (terminal t ∷ x) y p (token f) = token (forest_context r x y p f)
  forest_context r (nonterminal L ∷ x) y p (tree d f) = tree d (forest_context r x y p f)

  forest_one : {s s' : List Symbol} {w : List Token} → OneStep g s s' → Forest g s' w → Forest g s w
  forest_one (replace r x y p) f = forest_context r x y p f

  forest_steps : {s s' : List Symbol} {w : List Token} → Steps g s s' → Forest g s' w → Forest g s w
  forest_steps no_step f = f
  forest_steps (and_then h k) f = forest_one h (forest_steps k f)

  forest_single : {L : ℕ} {w : List Token} → Forest g (nonterminal L ∷ []) w → (t : Tree) × Derives g L w t
  forest_single (tree {t} d nothing) = (t, rw append-nil d)

-- "L →* w"
pub derives_steps : (g : Rules) (L : ℕ) (w : List Token) → ((t : Tree) × Derives g L w t) ↔ Steps g (nonterminal L ∷ []) (map terminal w)
derives_steps g L w = (λ h. rw append-nil at (tree_steps h.1 [] [] no_step), λ h. forest_single (forest_steps h (tokens w)))

-- there is a reading exactly when the tokens are in the grammar's language
pub reading_steps : (g : Grammar) (w : List Token) → ((e : List ℕ) × Reading g w e) ↔ Steps g.rules (nonterminal g.start ∷ []) (map terminal w)
reading_steps g w = (
  λ h. (derives_steps g.rules g.start w).0 (h.1.0, h.1.1),
  λ h. let k = (derives_steps g.rules g.start w).1 h in (code k.0, (k.0, k.1, refl)),
)
