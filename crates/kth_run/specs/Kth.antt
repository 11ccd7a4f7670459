-- Reading number k, as the core of its service gives it.
-- Law: kth_is, kth_above (kth_run/proofs/Whole.antt)
use Rattle.std.specs.Prelude.{ℕ, zero, suc, Bool, true, false, cond, Result, Ok, Err, List, ◌++◌, ltb, length, drop}
use Rattle.listing_model.specs.believed.Listing.{entry}
use Rattle.kth_run.specs.declared.NoSuchReading.{NoSuchReading}

abbrev pub was_written : Result Unit NoSuchReading → Bool
was_written (Ok u) = true
was_written (Err e) = false

-- is there an entry of number k, from 1
abbrev pub has_entry : List (List ℕ) → ℕ → Bool
has_entry l zero = false
has_entry l (suc i) = ltb i (length l)

-- entry k in the first n elements of a buffer, where there is one; else all is as it was
abbrev pub kth_written : List (List ℕ) → ℕ → ℕ → List ℕ → Bool × List ℕ
kth_written l k n buf = cond (has_entry l k) (true, entry l k ++ drop n buf) (false, buf)
