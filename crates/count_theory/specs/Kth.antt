-- The k-th run of a list of runs, found rule by rule and token by token. All numbers count from 0.
-- Law: kth-next, kth-last (count_theory/proofs/Kth.antt)
use Rattle.std.specs.Prelude.{ℕ, ◌+◌, ◌*◌, ◌<◌, ◌≡◌, List, ◌++◌, eqb, length, take, drop}
use Rattle.std.proofs.Math.Option.{some}
use Rattle.std.proofs.Math.ListN.{get_elem?}
use Rattle.vpg.specs.declared.Rule.{Rule}
use Rattle.vpg.specs.declared.Token.{Token}
use Rattle.vpg.specs.believed.Grammar.{Rules, left}
use Rattle.vpg.specs.Runs.{State, runs}
use Rattle.level_theory.specs.Masks.{Calm}
use Rattle.count_theory.specs.Allowed.{Allowed}
use Rattle.count_theory.specs.Counts.{given, sum, counts, total, weight, worth}

-- the counts from position p on are those of all runs
abbrev pub Free : Allowed → ℕ → Rules → List Token → ℕ → Type 0
Free ok W g w p = (s : State) → Calm W s.0 s.1 → length (runs g s (drop p w)) ≡ total W (counts ok W g p (drop p w)) s.0 s.1

-- how many runs from a state have rule R at position p
abbrev pub size : Allowed → ℕ → Rules → List Token → ℕ → State → Rule → ℕ
size ok W g w p s R = given (eqb (left R) s.0) (worth ok W g w p R) * weight W s.0 s.1 (counts ok W g p (drop p w)).1

-- the k-th of all is the i-th of rule r, where each rule R has f R of them
pub record Located (f : Rule → ℕ) (g : Rules) (k r i : ℕ) : Type 0 where
  pub rule : Rule
  pub is : get_elem? g r ≡ some rule
  pub skipped : sum (λ q R. f R) 0 (take r g) + i ≡ k
  pub inside : i < f rule

-- the i-th run from s' before position p, behind the numbers e, is the k-th from s
abbrev pub Onward : Rules → State → List Token → ℕ → List ℕ → ℕ → State → ℕ → Type 0
Onward g s w k e p s' i = (f : List ℕ) → get_elem? (runs g s' (drop p w)) i ≡ some f → get_elem? (runs g s w) k ≡ some (e ++ f)
