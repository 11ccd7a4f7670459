-- The token numbers of a history that has passed.
-- Inner: open_files (service/src/lib.rt)
use Rattle.std.specs.Prelude.{ℕ, ◌<◌, ◌≡◌, List, [], ◌∷◌}
use Rattle.std.specs.Coded.{→_prop, le_prop, Coded-set, coded_ℕ}
use Rattle.history_file.specs.believed.HistoryFile.{kind, depth_after}
use Rattle.history_file.specs.HistoryTokens.{Tokens}
use Rattle.history_file.specs.Wellformed.{Nested, Wellformed}

pub record Passed (ts : List ℕ) : Type 0 where
  pub tokens : Tokens ts
  pub wellformed : Wellformed ts

-- such a fact has one proof alone, which a fact that stands in a struct has to show: the part of it that goes by cases
bound_once : (p q m n : ℕ) → IsProp (p ≡ q → m < n)
bound_once p q m n = →_prop le_prop

pub nested_once : (depth : ℕ) (ts : List ℕ) → IsProp (Nested depth ts)
nested_once depth [] x y = Coded-set coded_ℕ depth 0 x y
nested_once depth (t ∷ ts) x y = λ i. (
  bound_once (kind t) 2 0 depth x.0 y.0 i,
  bound_once (kind t) 1 depth 128 x.1 y.1 i,
  nested_once (depth_after t depth) ts x.2 y.2 i,
)
