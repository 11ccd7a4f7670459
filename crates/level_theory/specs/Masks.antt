-- Which nonterminals derive what is ahead, computed from right to left. Of the well-matched ones, those below W, it is the rest of the level; of
-- the others it is all that is left.
-- Law: alive (level_theory/proofs/Alive.antt)
use Rattle.std.specs.Prelude.{ℕ, ◌<◌, ◌≤◌, ◌≡◌, Bool, true, false, not, ◌&&◌, List, [], ◌∷◌, eqb, ltb, leb}
use Rattle.laws.specs.Any.{any}
use Rattle.vpg.specs.declared.CloseName.{CloseName}
use Rattle.vpg.specs.declared.Rule.{Rule}
use Rattle.vpg.specs.declared.Token.{Token}
use Rattle.vpg.specs.believed.Grammar.{Rules, left}
use Rattle.vpg.specs.Runs.{Stack}
use Rattle.vpg.specs.Tests.{is_open, any_close, same_token, if_empty}

-- a set of nonterminals
abbrev pub Nonterminals : Type 0
Nonterminals = ℕ → Bool

-- the outer levels, innermost first: each with the close that leads back to it
abbrev pub Outer : Type 0
Outer = List (CloseName × Nonterminals)

-- the nonterminals that derive what is ahead, and those of the outer levels
abbrev pub Masks : Type 0
Masks = Nonterminals × Outer

-- the nonterminals from which on one derives all that is left: any where no close is ahead that ends the level, else those from W on
abbrev pub floor : {A : Type 0} → ℕ → List A → ℕ
floor W [] = 0
floor W (d ∷ ms) = W

-- those with which a rule may go on. low: the rule is for a well-matched nonterminal; otherwise they are to derive all that is left
abbrev pub onto : Bool → ℕ → Nonterminals → Nonterminals
onto true n x L = x L
onto false n x L = x L && leb n L

-- may a rule go on with L in the next outer level, behind the close b
abbrev pub behind : Bool → ℕ → Outer → CloseName → Nonterminals
behind low W [] b L = false
behind low W (d ∷ ms) b L = eqb b.0 d.0.0 && onto low (floor W ms) d.1 L

-- may a rule take the token alone: a rule for a well-matched nonterminal takes no open and no close so
abbrev pub alone : Token → Bool → Bool
alone (Token.Mark c) low = true
alone (Token.Open a) low = not low
alone (Token.Close b) low = not low

-- can R stand at the token; low: is it for a well-matched nonterminal; inside: what it may go on with behind the token, after b: and behind the
-- close of a step, which is b
abbrev pub stands : Bool → (Bool → Nonterminals) → (Bool → CloseName → Nonterminals) → Token → Rule → Bool
stands low inside after t (Rule.Empty M) = low && any_close t
stands low inside after t (Rule.Next M i M₁) = same_token i t && (alone i low && inside low M₁)
stands low inside after t (Rule.Step M a M₁ b M₂) = is_open a t && (inside true M₁ && after low b M₂)

-- m: the masks behind the token
abbrev pub applies : ℕ → Masks → Token → Rule → Bool
applies W m t R = stands (ltb (left R) W) (λ k. onto k (floor W m.1) m.0) (λ k. behind k W m.1) t R

-- can R stand where no token is left
abbrev pub finishes : Rule → Bool
finishes R = if_empty (λ M. true) R

-- the nonterminals of which a rule passes
abbrev pub lefts : (Rule → Bool) → Rules → Nonterminals
lefts p g L = any (λ R. eqb (left R) L && p R) g

abbrev pub tail : {A : Type 0} → List A → List A
tail [] = []
tail (d ∷ ms) = ms

-- the outer levels before a token, from what is known of the levels behind it
abbrev pub outer : {A : Type 0} → Token → A × List (CloseName × A) → List (CloseName × A)
outer (Token.Mark c) m = m.1
outer (Token.Open a) m = tail m.1
outer (Token.Close b) m = (b, m.0) ∷ m.1

-- the masks before a token, from those behind it
abbrev pub over : ℕ → Rules → Token → Masks → Masks
over W g t m = (lefts (applies W m t) g, outer t m)

unfoldable pub masks : ℕ → Rules → List Token → Masks
masks W g [] = (lefts finishes g, [])
masks W g (t ∷ w) = over W g t (masks W g w)

-- while something is due the nonterminal is a well-matched one, at each level
abbrev pub Calm : ℕ → ℕ → Stack → Type 0
Calm W L [] = Unit
Calm W L (d ∷ s) = (L < W) × Calm W d.1 s

-- each level that is due has the close of the mask at its depth, and a nonterminal of the mask. Where a close is ahead, something is due exactly
-- when the nonterminal L is a well-matched one
abbrev pub Match : ℕ → ℕ → Stack → Outer → Type 0
Match W L [] [] = Unit
Match W L [] (m ∷ ms) = W ≤ L
Match W L (d ∷ s) [] = ⊥
Match W L (d ∷ s) (m ∷ ms) = (L < W) × (d.0 ≡ m.0) × (m.1 d.1 ≡ true) × Match W d.1 s ms

abbrev pub Fits : ℕ → ℕ → Stack → Masks → Type 0
Fits W L s m = (m.0 L ≡ true) × Match W L s m.1
