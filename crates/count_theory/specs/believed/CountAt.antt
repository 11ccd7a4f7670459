-- How many readings have a rule at a position (document 02, 2.6).
-- Clauses: 12.2, 12.3 (docs/SPECIFICATION.md)
use Rattle.std.specs.Prelude.{ℕ, zero, suc, ◌+◌, Bool, List, [], ◌∷◌}
use Rattle.sets_theory.specs.believed.Sets.{one}
use Rattle.sets_theory.specs.KeptTest.{stands_at}

-- how many of the lists pass a test
abbrev pub tally : (List ℕ → Bool) → List (List ℕ) → ℕ
tally f [] = 0
tally f (e ∷ l) = one (f e) + tally f l

-- "the count of readings with that rule there": rule r at position p
abbrev pub count_at : List (List ℕ) → ℕ → ℕ → ℕ
count_at l p r = tally (λ e. stands_at e p r) l

-- "these counts add up": f 0 + .. + f (n - 1)
abbrev pub sum_below : ℕ → (ℕ → ℕ) → ℕ
sum_below zero f = 0
sum_below (suc n) f = sum_below n f + f n
