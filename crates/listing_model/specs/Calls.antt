-- One call of first reading or next reading on the buffer alone (document 01, "Services"): what it answers and what it leaves.
-- Law: subject-listing (calls/proofs/Lists.antt)
use Rattle.std.specs.Prelude.{ℕ, List, [], ◌∷◌, ◌++◌, take, drop}
use Rattle.std.proofs.Math.Option.{none, some}
use Rattle.listing_model.specs.believed.Listing.{Call, first, next, Answer, written, no_reading, no_further, refused, Subject, due, over, Shown, find}

-- "n + 1 bytes written, or none and no byte written"
abbrev pub first_on : List (List ℕ) → ℕ → List ℕ → Answer × List ℕ
first_on [] n buf = (no_reading, buf)
first_on (e ∷ l) n buf = (written, e ++ drop n buf)

-- "overwritten by its successor, or no further and no byte written"; l: the entries behind the one in the buffer
abbrev pub successor : List (List ℕ) → ℕ → List ℕ → Answer × List ℕ
successor [] n buf = (no_further, buf)
successor (e ∷ l) n buf = (written, e ++ drop n buf)

abbrev pub next_on : Shown → List (List ℕ) → ℕ → List ℕ → Answer × List ℕ
next_on none l n buf = (refused 16, buf)
next_on (some k) l n buf = successor (drop k l) n buf

abbrev pub call_on : Subject → Call → List ℕ → Answer × List ℕ
call_on (due k) c buf = (refused k, buf)
call_on (over l n) first buf = first_on l n buf
call_on (over l n) next buf = next_on (find (take n buf) l) l n buf
