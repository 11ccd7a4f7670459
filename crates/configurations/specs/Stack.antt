-- Which configuration the words of a state and a stack of open steps are.
-- Inner: step (configurations/src/lib.rt)
use Rattle.std.specs.Prelude.{ℕ, zero, suc, ◌≡◌, ◌+◌, List, [], ◌∷◌, get_or}
use Rattle.vpg.specs.declared.OpenName.{OpenName}
use Rattle.vpg.specs.declared.Token.{Token}
use Rattle.pair_theory.specs.Depth.{open_after}
use Rattle.pair_theory.specs.Pairs.{PairState, PairStack, Configuration, derivative}
use Rattle.tables.specs.declared.Head.{Head}
use Rattle.tables.specs.declared.Table.{Table}
use Rattle.pair_states.specs.declared.Opened.{Opened}
use Rattle.pair_states.specs.Encodes.{Encodes}
use Rattle.pair_states.specs.Wide.{wide_grammar}
use Rattle.configurations.specs.declared.stack.Stack.{Stack}

-- a step with no name and no words: what stands where a list has no item
abbrev pub nothing : Opened
nothing = record { name = record { 0 = 0 }; words = [] }

-- the first d open steps are the stack, its top last
abbrev pub Saved : List Opened → ℕ → PairStack → Type 0
Saved opened zero [] = Unit
Saved opened zero (x ∷ T) = ⊥
Saved opened (suc d) [] = ⊥
Saved opened (suc d) (x ∷ T) = Encodes (get_or opened d nothing).words x.0 × ((get_or opened d nothing).name ≡ x.1) × Saved opened d T

-- one step more is open: whatever stack it was before, this one is on top of it now
pub record Pushed (name : OpenName) (words : List ℕ) (before after : Stack) : Type 0 where
  pub holds : (S : PairState) (T : PairStack) → Encodes words S → Saved before.opened before.depth T → Saved after.opened after.depth ((S, name) ∷ T)
  pub depth : after.depth ≡ before.depth + 1

-- the words of a state and of the open steps are the configuration
pub record Holds (words : List ℕ) (stack : Stack) (x : Configuration) : Type 0 where
  pub state : Encodes words x.0
  pub saved : Saved stack.opened stack.depth x.1

-- over the token t: whatever configuration the words were before, they are its derivative now
pub record StepHolds (table : Table) (head : Head) (t : Token) (words : List ℕ) (stack : Stack) (words' : List ℕ) (stack' : Stack) : Type 0 where
  pub holds : (x : Configuration) → Holds words stack x → Holds words' stack' (derivative (wide_grammar table head) t x)
  pub steps_open : stack'.depth ≡ open_after t stack.depth
