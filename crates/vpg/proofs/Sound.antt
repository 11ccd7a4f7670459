-- `entries` has the readings and nothing else.
use Prim.Native.Nat.{ℕ}
use mathlib.Core.Path.{◌≡◌, refl}
use mathlib.Core.Logic.{◌↔◌}
use mathlib.Core.List.{List, [], ◌∷◌, ◌++◌, append_assoc, append-nil, Memᴰ}
use mathlib.Core.Option.{some}
use lib.ListN.{get_elem?}
use Rattle.vpg.specs.declared.Rule.{Rule}
use Rattle.vpg.specs.declared.Token.{Token}
use Rattle.vpg.specs.believed.Grammar.{Rules, Grammar, Tree, leaf, next, step, code, Derives, by_empty, by_next, by_step, Reading}
use Rattle.vpg.specs.Runs.{Stack, runs, entries}
use Rattle.vpg.proofs.Take.{Move, taken, take, ended, end}
use Rattle.vpg.proofs.Take

-- w begins with what a tree from L derives, and e with its code; P holds of what is left of both
record First (g : Rules) (L : ℕ) (P : List Token → List ℕ → Type 0) (w : List Token) (e : List ℕ) : Type 0 where
  tree : Tree
  front : List Token
  back : List Token
  codes : List ℕ
  derives : Derives g L front tree
  tokens : w ≡ front ++ back
  shape : e ≡ code tree ++ codes
  left : P back codes

-- a tree for each level that is due
abbrev Rest : Rules → Stack → List Token → List ℕ → Type 0
Rest g [] w e = (w ≡ []) × (e ≡ [])
Rest g (d ∷ s) w e = (v : List Token) × (w ≡ Token.Close d.0 ∷ v) × First g d.1 (Rest g s) v e

-- a step from the left onto a forest
onto : (g : Rules) {r : ℕ} {R : Rule} {L : ℕ} {s : Stack} {t : Token} {L' : ℕ} {s' : Stack} {w : List Token} {e : List ℕ} →
    get_elem? g r ≡ some R → Move R L s t L' s' → First g L' (Rest g s') w e → First g L (Rest g s) (t ∷ w) (r ∷ e)
onto g {r} {w = w} {e} p (Take.by_empty {b}) f =
    record { tree = leaf r; front = []; back = Token.Close b ∷ w; codes = e; derives = by_empty p; tokens = refl; shape = refl; left = (w, refl, f) }
onto g {r} p (Take.by_next {t = i}) f =
    record { tree = next r f.tree; front = i ∷ f.front; back = f.back; codes = f.codes; derives = by_next p f.derives; tokens = rw f.tokens; shape = rw f.shape; left = f.left }
onto g {r} p (Take.by_step {a} {b}) f =
    let h = f.left.2 in
    record {
      tree = step r f.tree h.tree;
      front = Token.Open a ∷ (f.front ++ (Token.Close b ∷ h.front));
      back = h.back;
      codes = h.codes;
      derives = by_step p f.derives h.derives;
      tokens = rw (append_assoc, f.tokens, f.left.1, h.tokens);
      shape = rw (append_assoc, f.shape, h.shape);
      left = h.left;
    }

sound : (g : Rules) (w : List Token) (L : ℕ) (s : Stack) (e : List ℕ) → Memᴰ e (runs g (L, s) w) → First g L (Rest g s) w e
sound g [] L s e m =
    let h = ended g L s e m in
    rw (h.done, h.shape)
    (record { tree = leaf h.number; front = []; back = []; codes = []; derives = by_empty h.is; tokens = refl; shape = refl; left = (refl, refl) })
sound g (t ∷ w) L s e m =
    let h = taken g L s t w e m in
    rw h.shape (onto g h.is h.goes (sound g w h.nonterminal h.due h.rest h.run))

-- what is left of a run after the tree of the current nonterminal
Onward : Rules → Stack → List Token → List ℕ → Type 0
Onward g [] w e = (w ≡ []) × (e ≡ [])
Onward g (d ∷ s) w e = (v : List Token) × (w ≡ Token.Close d.0 ∷ v) × Memᴰ e (runs g (d.1, s) v)

closes : (g : Rules) {r L : ℕ} (s : Stack) (w : List Token) (e : List ℕ) → get_elem? g r ≡ some (Rule.Empty L) → Onward g s w e → Memᴰ (r ∷ e) (runs g (L, s) w)
unfolding Onward
closes g [] w e p o = rw (o.0, o.1) (end g p)
closes g (d ∷ s) w e p o = rw o.1 (take g o.0 p Take.by_empty o.2)

complete : (g : Rules) {L : ℕ} {v : List Token} {t : Tree} → Derives g L v t → (s : Stack) (w : List Token) (e : List ℕ) → Onward g s w e → Memᴰ (code t ++ e) (runs g (L, s) (v ++ w))
unfolding Onward
complete g (by_empty p) s w e o = closes g s w e p o
complete g (by_next {w = v} p d) s w e o = take g (v ++ w) p Take.by_next (complete g d s w e o)
complete g (by_step {b} {L₂} {v} {w = v'} {t} {u} p d d') s w e o =
    simp append_assoc
    (take g (v ++ (Token.Close b ∷ (v' ++ w))) p Take.by_step (complete g d ((b, L₂) ∷ s) (Token.Close b ∷ (v' ++ w)) (code u ++ e) (v' ++ w, refl, complete g d' s w e o)))

reading : (g : Grammar) (w : List Token) (e : List ℕ) → First g.rules g.start (Rest g.rules []) w e → Reading g w e
reading g w e f = (f.tree, rw (f.tokens, f.left.0, append-nil) f.derives, rw (f.shape, f.left.1, append-nil))

pub entries_readings : (g : Grammar) (w : List Token) (e : List ℕ) → Memᴰ e (entries g w) ↔ Reading g w e
unfolding Onward
entries_readings g w e =
    (λ m. reading g w e (sound g.rules w g.start [] e m), λ h. simp (append-nil, h.2) at (complete g.rules h.1 [] [] [] (refl, refl)))
