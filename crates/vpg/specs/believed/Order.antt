-- The order of readings (document 01, "Readings").
-- Clauses: 3.4, 3.5 (docs/SPECIFICATION.md)
use Rattle.std.specs.Prelude.{ℕ, ◌<◌, ◌≡◌, ◌⊎◌}
use mathlib.Core.List.{List, [], ◌∷◌, Memᴰ}

-- "ordered by the first position where they differ, smaller rule number first"
abbrev pub Before : List ℕ → List ℕ → Type 0
Before [] [] = ⊥
Before [] (y ∷ f) = Unit
Before (x ∷ e) [] = ⊥
Before (x ∷ e) (y ∷ f) = (x < y) ⊎ ((x ≡ y) × Before e f)

-- each stands before all that follow it
abbrev pub Ascending : List (List ℕ) → Type 0
Ascending [] = Unit
Ascending (e ∷ l) = ((f : List ℕ) → Memᴰ f l → Before e f) × Ascending l
