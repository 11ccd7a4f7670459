-- More than one reading, and where two readings differ first (document 02, 2.5).
-- Law: several-count, choice-first (choice_theory/proofs/Choices.antt)
-- Law: choice_neighbours (choice_theory/proofs/Neighbours.antt)
use Rattle.std.specs.Prelude.{ℕ, ◌≡◌, ◌⊎◌, ◌≢◌, List, [], ◌∷◌, take}
use Rattle.std.proofs.Math.Option.{some}
use Rattle.std.proofs.Math.ListN.{get_elem?}
use Rattle.vpg.specs.declared.Token.{Token}
use Rattle.vpg.specs.believed.Grammar.{Grammar, Reading}

-- document 02, 2.5: "a history has more than one reading"
abbrev pub Several : Grammar → List Token → Type 0
Several g w = (e : List ℕ) × (f : List ℕ) × (e ≢ f) × Reading g w e × Reading g w f

-- two lists are the same up to position p and differ there
pub record Differ (e f : List ℕ) (p : ℕ) : Type 0 where
  pub one : ℕ
  pub other : ℕ
  pub before : take p e ≡ take p f
  pub one_at : get_elem? e p ≡ some one
  pub other_at : get_elem? f p ≡ some other
  pub differ : one ≢ other

-- two readings do so
abbrev pub DifferFirst : Grammar → List Token → ℕ → Type 0
DifferFirst g w p = (e : List ℕ) × (f : List ℕ) × Reading g w e × Reading g w f × Differ e f p

-- two neighbours in a list do so
abbrev pub Neighbours : List (List ℕ) → ℕ → Type 0
Neighbours [] p = ⊥
Neighbours (e ∷ []) p = ⊥
Neighbours (e ∷ f ∷ l) p = Differ e f p ⊎ Neighbours (f ∷ l) p
