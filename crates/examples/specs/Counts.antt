-- Document 02, 2.6, on single files: how many readings, how many with a rule at a position, and reading k. `counts` in proofs/ has them all.
-- Law: counts (examples/proofs/Counts.antt)
use Rattle.std.specs.Prelude.{ℕ, ◌≡◌, List, [], ◌∷◌}
use Rattle.service.specs.believed.Given.{given, refused, written}
use Rattle.reading_counts.specs.believed.Numbered.{exact, over, told, readings_due, readings_at_due, reading_due}
use Rattle.examples.specs.Examples.{G}

-- one step with a mark in it, and two empty steps
abbrev pub step : List ℕ
step = 3 ∷ 1 ∷ 0 ∷ 2 ∷ []

abbrev pub two : List ℕ
two = 4 ∷ 1 ∷ 2 ∷ 1 ∷ 2 ∷ []

pub record Counts : Type 0 where
  -- "the exact count up to 2^64 − 1, or over when there are more"
  pub top : told 18446744073709551615 ≡ exact 18446744073709551615
  pub above : told 18446744073709551616 ≡ over
  pub all : readings_due G step ≡ given (exact 2)
  pub all_two : readings_due G two ≡ given (exact 4)
  pub none : readings_due G (1 ∷ 0 ∷ []) ≡ given (exact 0)
  pub turned_down : readings_due G (1 ∷ 2 ∷ []) ≡ refused 12
  pub at_open : readings_at_due G step 0 1 ≡ given (exact 1)
  pub at_end : readings_at_due G step 3 0 ≡ given (exact 2)
  -- "0 if there are none", also of a number that is no rule's
  pub no_rule : readings_at_due G step 0 128 ≡ given (exact 0)
  -- "18 when .. a position is above n", whatever the rule
  pub behind : readings_at_due G step 4 200 ≡ refused 18
  pub second : reading_due G step 2 (7 ∷ 7 ∷ 7 ∷ 7 ∷ 7 ∷ []) ≡ (written, 2 ∷ 5 ∷ 6 ∷ 0 ∷ 7 ∷ [])
  pub third : reading_due G two 3 (7 ∷ 7 ∷ 7 ∷ 7 ∷ 7 ∷ []) ≡ (written, 2 ∷ 6 ∷ 1 ∷ 4 ∷ 0 ∷ [])
  -- "18 when k is 0 or above the count"
  pub zeroth : reading_due G step 0 (7 ∷ 7 ∷ 7 ∷ 7 ∷ []) ≡ (refused 18, 7 ∷ 7 ∷ 7 ∷ 7 ∷ [])
  pub too_many : reading_due G step 3 (7 ∷ 7 ∷ 7 ∷ 7 ∷ []) ≡ (refused 18, 7 ∷ 7 ∷ 7 ∷ 7 ∷ [])
  pub no_first : reading_due G (1 ∷ 0 ∷ []) 1 (7 ∷ 7 ∷ []) ≡ (refused 18, 7 ∷ 7 ∷ [])
  -- "it follows 15"
  pub short : reading_due G step 0 (7 ∷ 7 ∷ 7 ∷ []) ≡ (refused 15, 7 ∷ 7 ∷ 7 ∷ [])
