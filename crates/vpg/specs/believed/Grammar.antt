-- Grammars, derivations and readings: Definition 2.2 of the paper and document 01, "Tokens, stages, rules" and "Readings". Where no rule takes an
-- open or a close alone, as in every file of document 01, this is Definition 2.1 (Matched.antt, `matched_readings`).
-- Clauses: 2.1, 2.2, 2.4, 2.5, 3.1, 3.2 (docs/SPECIFICATION.md)
use Rattle.std.specs.Prelude.{ℕ, ◌<◌, ◌≡◌, List, [], ◌∷◌, ◌++◌}
use Rattle.std.proofs.Math.Option.{some}
use Rattle.std.proofs.Math.ListN.{get_elem?}
use Rattle.vpg.specs.declared.OpenName.{OpenName}
use Rattle.vpg.specs.declared.CloseName.{CloseName}
use Rattle.vpg.specs.declared.Rule.{Rule}
use Rattle.vpg.specs.declared.Token.{Token}

-- "Rules are numbered from 0 in file order": rule r is the r-th of the list
abbrev pub Rules : Type 0
Rules = List Rule

-- the stage that a rule is for, the left side of Definition 2.2: what becomes nothing, a token or a step
abbrev pub left : Rule → ℕ
left (Rule.Empty L) = L
left (Rule.Next L i L₁) = L
left (Rule.Step L a L₁ b L₂) = L

-- (V, Σ, P, L₀) of the paper: V is the numbers below `nonterminals` (document 01: stages), V⁰, the well-matched ones, those below `well`, P the
-- rules, L₀ the start
pub record Grammar : Type 0 where
  pub nonterminals : ℕ
  pub well : ℕ
  pub start : ℕ
  pub rules : Rules

-- ── Definition 2.2: which rules a grammar may have ──

-- is it a plain symbol
abbrev pub Plain : Token → Type 0
Plain (Token.Mark c) = Unit
Plain (Token.Open a) = ⊥
Plain (Token.Close b) = ⊥

-- W: V⁰ is the numbers below W
abbrev pub InForm : ℕ → Rule → Type 0
InForm W (Rule.Empty L) = Unit
InForm W (Rule.Next L i L₁) = L < W → Plain i × (L₁ < W)
InForm W (Rule.Step L a L₁ b L₂) = (L₁ < W) × (L < W → L₂ < W)

abbrev pub General : ℕ → Rules → Type 0
General W g = (r : ℕ) (R : Rule) → get_elem? g r ≡ some R → InForm W R

-- ── derivations ──

-- a derivation tree, with the number of the rule at each node; "the order in which stages are replaced doesn't count"
pub data Tree : Type 0 where
  leaf : ℕ → Tree
  next : ℕ → Tree → Tree
  step : ℕ → Tree → Tree → Tree

-- `Derives g L w t`: by the rules of g, L derives the tokens w, and t says how. One constructor for each form of Definition 2.2
pub data Derives (g : Rules) : ℕ → List Token → Tree → Type 0 where
  -- (1) L becomes nothing
  by_empty : {r L : ℕ} → get_elem? g r ≡ some (Rule.Empty L) → Derives g L [] (leaf r)
  -- (2) L becomes the token i, then L₁
  by_next : {r L : ℕ} {i : Token} {L₁ : ℕ} {w : List Token} {t : Tree} →
      get_elem? g r ≡ some (Rule.Next L i L₁) → Derives g L₁ w t → Derives g L (i ∷ w) (next r t)
  -- (3) L becomes open a, L₁, close b, then L₂
  by_step : {r L : ℕ} {a : OpenName} {L₁ : ℕ} {b : CloseName} {L₂ : ℕ} {v w : List Token} {t u : Tree} →
      get_elem? g r ≡ some (Rule.Step L a L₁ b L₂) → Derives g L₁ v t → Derives g L₂ w u →
      Derives g L (Token.Open a ∷ (v ++ (Token.Close b ∷ w))) (step r t u)

-- "written as rule numbers": a node's number, then those of its parts in the order of the tokens
abbrev pub code : Tree → List ℕ
code (leaf r) = r ∷ []
code (next r t) = r ∷ code t
code (step r t u) = r ∷ (code t ++ code u)

-- "a derivation of the whole history" from the start, written as rule numbers
abbrev pub Reading : Grammar → List Token → List ℕ → Type 0
Reading g w e = (t : Tree) × Derives g.rules g.start w t × (code t ≡ e)
