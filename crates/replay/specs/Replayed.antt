-- What going over a buffer as a reading says of it.
-- Law: is_run (next_run/proofs/Successor.antt)
use Rattle.std.specs.Prelude.{ℕ, ◌≡◌, true, List, [], length, get_or, Option, Some, None}
use Rattle.std.proofs.Math.Option.{some}
use Rattle.std.proofs.Math.ListN.{get_elem?}
use Rattle.vpg.specs.declared.Rule.{Rule}
use Rattle.vpg.specs.declared.Token.{Token}
use Rattle.vpg.specs.believed.Grammar.{Grammar}
use Rattle.level_theory.specs.Local.{LeadsTo}
use Rattle.level_theory.specs.Walk.{Run}
use Rattle.levels.specs.Levels.{derives_all}
use Rattle.replay.specs.declared.Replayed.{Replayed}

-- e is a reading; at has the nonterminal of each position, f the one behind each close
pub record Reads (g : Grammar) (w : List Token) (e at f : List ℕ) : Type 0 where
  pub all : derives_all g.well g.rules w g.start ≡ true
  pub begins : get_or at 0 0 ≡ g.start
  pub leads : LeadsTo g.well g.rules w at f e (length w)
  pub ends : get_elem? g.rules (get_or e (length w) 0) ≡ some (Rule.Empty (get_or at (length w) 0))
  pub room_at : length at ≡ 1025
  pub room_behind : length f ≡ 1025

-- e is a reading, of which the arrays say the nonterminals; or it is none
abbrev pub ReplayIs : Grammar → List Token → List ℕ → Option Replayed → Type 0
ReplayIs g w e (Some r) = Reads g w e r.at r.behind
ReplayIs g w e None = Run g.rules (g.start, []) w e → ⊥
