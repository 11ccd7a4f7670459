-- The least list with a property, the next one after a given list, and the last: what first reading and next reading look for.
-- Law: first-written, next-written, next_no_further (listing_model/proofs/Calls.antt)
use Rattle.std.specs.Prelude.{ℕ, ◌≡◌, ◌⊎◌, List}
use Rattle.vpg.specs.believed.Order.{Before}

-- e is the least list of which P holds
pub record Least (P : List ℕ → Type 0) (e : List ℕ) : Type 0 where
  pub holds : P e
  pub least : (f : List ℕ) → P f → (e ≡ f) ⊎ Before e f

-- e is the least list after d of which P holds
abbrev pub Next : (List ℕ → Type 0) → List ℕ → List ℕ → Type 0
Next P d e = Least (λ f. P f × Before d f) e

-- P holds of no list after d
abbrev pub Last : (List ℕ → Type 0) → List ℕ → Type 0
Last P d = (f : List ℕ) → P f → Before d f → ⊥
