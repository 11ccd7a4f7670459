-- Derivation by single steps, as the paper writes it at the end of section 2: strings of terminals and nonterminals, w → w' and L →* w.
-- Law: derives_steps (vpg/proofs/Steps.antt)
use Rattle.std.specs.Prelude.{ℕ, ◌≡◌, List, [], ◌∷◌, ◌++◌}
use Rattle.std.proofs.Math.Option.{some}
use Rattle.std.proofs.Math.ListN.{get_elem?}
use Rattle.vpg.specs.declared.Rule.{Rule}
use Rattle.vpg.specs.declared.Token.{Token}
use Rattle.vpg.specs.believed.Grammar.{Rules, left}

pub data Symbol : Type 0 where
  terminal : Token → Symbol
  nonterminal : ℕ → Symbol

-- the right side of a rule of Definition 2.2
abbrev pub right : Rule → List Symbol
right (Rule.Empty L) = []
right (Rule.Next L i L₁) = terminal i ∷ nonterminal L₁ ∷ []
right (Rule.Step L a L₁ b L₂) = terminal (Token.Open a) ∷ nonterminal L₁ ∷ terminal (Token.Close b) ∷ nonterminal L₂ ∷ []

-- "a single derivation step": somewhere in the string the left side of a rule is replaced by its right side
pub data OneStep (g : Rules) : List Symbol → List Symbol → Type 0 where
  replace : (r : ℕ) {R : Rule} (x y : List Symbol) → get_elem? g r ≡ some R → OneStep g (x ++ (nonterminal (left R) ∷ y)) (x ++ (right R ++ y))

-- "a sequence of derivation steps", of any length
pub data Steps (g : Rules) : List Symbol → List Symbol → Type 0 where
  no_step : {x : List Symbol} → Steps g x x
  and_then : {x y z : List Symbol} → OneStep g x y → Steps g y z → Steps g x z
