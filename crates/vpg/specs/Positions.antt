-- What stands at each position of a reading (document 01, "Readings"): g are the rules, w the tokens, e the numbers, one for each position.
-- Law: position_mark, position_open, position_close, position_end (vpg/proofs/Positions.antt)
-- Law: matched_open, matched_close (vpg/proofs/Positions.antt)
use Rattle.std.specs.Prelude.{ℕ, ◌+◌, ◌≡◌, List, ◌∷◌, ◌++◌, length, drop}
use Rattle.std.proofs.Math.Option.{some}
use Rattle.std.proofs.Math.ListN.{get_elem?}
use Rattle.vpg.specs.declared.OpenName.{OpenName}
use Rattle.vpg.specs.declared.CloseName.{CloseName}
use Rattle.vpg.specs.declared.Rule.{Rule}
use Rattle.vpg.specs.declared.Token.{Token}
use Rattle.vpg.specs.believed.Grammar.{Rules, Tree, leaf, next, step, Derives, code}

-- the number of the rule that ends what a tree derives: the last along the tree's level
abbrev pub final : Tree → ℕ
final (leaf r) = r
final (next r t) = final t
final (step r t u) = final u

-- "a mark's position holds the form 1 rule that makes it": token i at p, which a rule takes alone
pub record AloneAt (g : Rules) (e : List ℕ) (p : ℕ) (i : Token) : Type 0 where
  pub number : ℕ
  pub nonterminal : ℕ
  pub after : ℕ
  pub stands : get_elem? e p ≡ some number
  pub is : get_elem? g number ≡ some (Rule.Next nonterminal i after)

-- "an open's position holds the form 2 rule that makes it and its close. A close's position holds the form 0 rule that ends the inside of its
-- step": open a at p and close b at q
pub record StepAt (g : Rules) (w : List Token) (e : List ℕ) (p : ℕ) (a : OpenName) (q : ℕ) (b : CloseName) : Type 0 where
  pub number : ℕ
  pub nonterminal : ℕ
  pub within : ℕ
  pub after : ℕ
  pub inside : List Token
  pub tree : Tree
  pub rest : List Token
  pub stands : get_elem? e p ≡ some number
  pub is : get_elem? g number ≡ some (Rule.Step nonterminal a within b after)
  pub derives : Derives g within inside tree
  pub tokens : drop p w ≡ Token.Open a ∷ (inside ++ (Token.Close b ∷ rest))
  pub close : q ≡ p + 1 + length inside
  pub ends : get_elem? e q ≡ some (final tree)
  -- the numbers behind the open's, up to and with the close's, are the code of the tree that derives the inside
  pub later : List ℕ
  pub numbers : drop p e ≡ number ∷ (code tree ++ later)
