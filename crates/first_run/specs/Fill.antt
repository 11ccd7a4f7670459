-- What the forward pass starts from, looks for and writes.
-- Law: first_is, none_is (first_run/proofs/Whole.antt)
use Rattle.std.specs.Prelude.{ℕ, suc, ◌≡◌, List, ◌++◌, length, take, drop}
use Rattle.vpg.specs.declared.Token.{Token}
use Rattle.vpg.specs.believed.Grammar.{Rules}
use Rattle.vpg.specs.Extremes.{Least}
use Rattle.vpg.specs.Runs.{State}
use Rattle.level_theory.specs.Masks.{masks, Fits}
use Rattle.level_theory.specs.Pending.{pending_at, due_at}
use Rattle.level_theory.specs.Walk.{Run}
use Rattle.first_run.specs.declared.Configuration.{Configuration}

-- the state of a configuration: its nonterminal, and what is due behind the pending closes
abbrev pub state_of : ℕ → List Token → Configuration → State
state_of W w c = (c.nonterminal, due_at W c.behind (pending_at w c.position) c.nonterminal)

-- the configuration derives the tokens from its position on
abbrev pub Derives : ℕ → Rules → List Token → Configuration → Type 0
Derives W g w c = Fits W (state_of W w c).0 (state_of W w c).1 (masks W g (drop c.position w))

-- from the position of a configuration on the buffer now has the first run from there; all else is as it was
pub record Filled (W : ℕ) (g : Rules) (w : List Token) (from : Configuration) (old new : List ℕ) : Type 0 where
  pub run : List ℕ
  pub least : Least (Run g (state_of W w from) (drop from.position w)) run
  pub written : take (suc (length w)) new ≡ take from.position old ++ run
  pub kept : drop (suc (length w)) new ≡ drop (suc (length w)) old
