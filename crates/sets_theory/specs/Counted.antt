-- How many numbers have a property.
-- Law: choice_count_is (sets_theory/proofs/Choices.antt)
use Rattle.std.specs.Prelude.{ℕ, ◌≡◌, ◌↔◌, length}
use mathlib.Core.List.{List, Memᴰ}
use Rattle.laws.specs.Distinct.{Distinct}

-- there are k numbers with the property P: a list of them, each once
pub record Counted (P : ℕ → Type 0) (k : ℕ) : Type 0 where
  pub numbers : List ℕ
  pub distinct : Distinct numbers
  pub members : (n : ℕ) → Memᴰ n numbers ↔ P n
  pub size : length numbers ≡ k
