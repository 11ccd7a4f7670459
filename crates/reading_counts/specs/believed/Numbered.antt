-- How many readings there are, how many have a rule at a position, and reading k (document 02, 2.6).
-- Clauses: 12.1, 12.2, 12.4 (docs/SPECIFICATION.md)
use Rattle.std.specs.Prelude.{ℕ, ◌+◌, cond, ◌||◌, List, ◌++◌, eqb, ltb, length, drop, Option, Some, None, Result, Ok, Err}
use Rattle.refusal.specs.declared.Refusal.{Refusal}
use Rattle.refusal.specs.believed.Refusal.{number}
use Rattle.vpg.specs.Runs.{entries}
use Rattle.listing_model.specs.believed.Listing.{entry}
use Rattle.count_theory.specs.believed.CountAt.{count_at}
use Rattle.service.specs.believed.Given.{Given, given, refused, written, untouched}
use Rattle.service.specs.believed.Opened.{files_in, opened, served}

-- a count as it is told
pub data Told : Type 0 where
  exact : ℕ → Told
  over : Told

-- "the exact count up to 2^64 − 1, or over when there are more"
abbrev pub told : ℕ → Told
told n = cond (ltb n 18446744073709551616) (exact n) over

-- each case of the answer
abbrev pub readings_said : Result (Option ℕ) Refusal → Given Told
readings_said (Ok (Some n)) = given (exact n)
readings_said (Ok None) = given over
readings_said (Err e) = refused (number e)

-- "How many readings"; no buffer is asked for
abbrev pub readings_due : List ℕ → List ℕ → Given Told
readings_due grammar history = served refused (λ g w. given (told (length (entries g w)))) (files_in grammar history)

-- "For a position and a rule, in the same way, the count of readings with that rule there"; 18 when "a position is above n"
abbrev pub readings_at_due : List ℕ → List ℕ → ℕ → ℕ → Given Told
readings_at_due grammar history p r =
    served refused (λ g w. cond (ltb (length w) p) (refused 18) (given (told (count_at (entries g w) p r)))) (files_in grammar history)

-- "reading k, counted from 1", in the first n elements of a buffer; 18 "when k is 0 or above the count"
abbrev pub numbered : List (List ℕ) → ℕ → ℕ → List ℕ → Given Unit × List ℕ
numbered l k n buf = cond (eqb k 0 || ltb (length l) k) (untouched buf 18) (written, entry l k ++ drop n buf)

-- "it is what the stepwise listing has at k", n + 1 numbers; 18 "follows 15"
abbrev pub reading_due : List ℕ → List ℕ → ℕ → List ℕ → Given Unit × List ℕ
reading_due grammar history k buf = served (untouched buf) (λ g w. numbered (entries g w) k (length w + 1) buf) (opened 1 (length buf) (files_in grammar history))
