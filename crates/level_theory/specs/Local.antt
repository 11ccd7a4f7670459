-- A reading, position by position: which nonterminal stands where, and that each rule leads from one position to the next.
-- Law: run_at, next-all (level_theory/proofs/Local.antt)
use Rattle.std.specs.Prelude.{ℕ, suc, ◌<◌, ◌≡◌, List, ◌∷◌, drop, get_or}
use Rattle.std.proofs.Math.Option.{some}
use Rattle.std.proofs.Math.ListN.{get_elem?}
use Rattle.vpg.specs.declared.Rule.{Rule}
use Rattle.vpg.specs.declared.Token.{Token}
use Rattle.vpg.specs.believed.Grammar.{Rules}
use Rattle.vpg.specs.Runs.{State, move}
use Rattle.level_theory.specs.Pending.{pending_at, due_at}

-- the state at position q: at has the nonterminal of each position, f the one behind each close
abbrev pub state_at : ℕ → List Token → List ℕ → List ℕ → ℕ → State
state_at W w at f q = (get_or at q 0, due_at W f (pending_at w q) (get_or at q 0))

-- rule number e[q] leads over the token at q to the state at the next position
pub record LeadsAt (W : ℕ) (g : Rules) (w : List Token) (at f e : List ℕ) (q : ℕ) : Type 0 where
  pub token : Token
  pub here : drop q w ≡ token ∷ drop (suc q) w
  pub rule : Rule
  pub is : get_elem? g (get_or e q 0) ≡ some rule
  pub goes : move rule (state_at W w at f q).0 (state_at W w at f q).1 token ≡ some (state_at W w at f (suc q))

-- so at every position before p
abbrev pub LeadsTo : ℕ → Rules → List Token → List ℕ → List ℕ → List ℕ → ℕ → Type 0
LeadsTo W g w at f e p = (q : ℕ) → q < p → LeadsAt W g w at f e q
