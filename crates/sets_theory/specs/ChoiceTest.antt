-- Whether a position is a choice, as a test over the rules of its set.
-- Law: choice_is (sets_theory/proofs/Choices.antt)
use Rattle.std.specs.Prelude.{ℕ, Bool, false, ◌&&◌, List, eqb, length}
use Rattle.std.proofs.Math.Option.{Option, none, some}
use Rattle.std.proofs.Math.ListN.{get_elem?}
use Rattle.laws.specs.Any.{any_below}
use Rattle.vpg.specs.declared.Rule.{Rule}
use Rattle.vpg.specs.declared.Token.{Token}
use Rattle.vpg.specs.believed.Grammar.{Grammar, left}
use Rattle.sets_theory.specs.KeptTest.{kept}

-- are these two rules, of one nonterminal
abbrev pub same_left : Option Rule → Option Rule → Bool
same_left none o = false
same_left (some R) none = false
same_left (some R) (some R') = eqb (left R) (left R')

-- is a rule before r, of r's nonterminal, in the set at position p
abbrev pub met_before : Grammar → List Token → ℕ → ℕ → Bool
met_before g w p r = any_below r (λ r'. kept g w p r' && same_left (get_elem? g.rules r') (get_elem? g.rules r))

-- so that r, if it is in the set too, is the second of two
unfoldable pub choice : Grammar → List Token → ℕ → Bool
choice g w p = any_below (length g.rules) (λ r. kept g w p r && met_before g w p r)
