-- Definition 2.1 of the paper, well-matched grammars: no rule takes an open or a close alone. Document 01's files say such grammars.
-- Law: matched_readings, entries_matched (vpg/proofs/Matched.antt)
-- Clauses: 2.1, 2.2, 2.4, 2.5, 3.1, 3.2 (docs/SPECIFICATION.md)
use Rattle.std.specs.Prelude.{ℕ, ◌≡◌, List, [], ◌∷◌, ◌++◌}
use Rattle.std.proofs.Math.Option.{some}
use Rattle.std.proofs.Math.ListN.{get_elem?}
use Rattle.vpg.specs.declared.MarkName.{MarkName}
use Rattle.vpg.specs.declared.OpenName.{OpenName}
use Rattle.vpg.specs.declared.CloseName.{CloseName}
use Rattle.vpg.specs.declared.Rule.{Rule}
use Rattle.vpg.specs.declared.Token.{Token}
use Rattle.vpg.specs.believed.Grammar.{Rules, Grammar, Tree, leaf, next, step, code, Plain}

abbrev pub PlainRule : Rule → Type 0
PlainRule (Rule.Empty L) = Unit
PlainRule (Rule.Next L i L₁) = Plain i
PlainRule (Rule.Step L a L₁ b L₂) = Unit

abbrev pub PlainRules : Rules → Type 0
PlainRules g = (r : ℕ) (R : Rule) → get_elem? g r ≡ some R → PlainRule R

-- `Matched g L w t`: by the rules of g, L derives the tokens w, and t says how. One constructor for each form of Definition 2.1
pub data Matched (g : Rules) : ℕ → List Token → Tree → Type 0 where
  -- (1) L becomes nothing
  by_empty : {r L : ℕ} → get_elem? g r ≡ some (Rule.Empty L) → Matched g L [] (leaf r)
  -- (2) L becomes mark c, then L₁
  by_mark : {r L : ℕ} {c : MarkName} {L₁ : ℕ} {w : List Token} {t : Tree} →
      get_elem? g r ≡ some (Rule.Next L (Token.Mark c) L₁) → Matched g L₁ w t → Matched g L (Token.Mark c ∷ w) (next r t)
  -- (3) L becomes open a, L₁, close b, then L₂
  by_step : {r L : ℕ} {a : OpenName} {L₁ : ℕ} {b : CloseName} {L₂ : ℕ} {v w : List Token} {t u : Tree} →
      get_elem? g r ≡ some (Rule.Step L a L₁ b L₂) → Matched g L₁ v t → Matched g L₂ w u →
      Matched g L (Token.Open a ∷ (v ++ (Token.Close b ∷ w))) (step r t u)

-- "a derivation of the whole history" from the start, written as rule numbers
abbrev pub MatchedReading : Grammar → List Token → List ℕ → Type 0
MatchedReading g w e = (t : Tree) × Matched g.rules g.start w t × (code t ≡ e)
