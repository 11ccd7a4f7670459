-- What is handed from one function to the next.
-- Law: first_begun, none-listed (listing_text/proofs/Whole.antt)
use Rattle.std.specs.Prelude.{ℕ, ◌+◌, ◌<◌, ◌≡◌, Bool, true, false, List, [], length, take, get_or}
use Rattle.listing_model.specs.believed.Listing.{Answer, written, no_reading, no_further, refused}

-- the buffer holds the first reading, of n + 1 rule numbers
pub record Begun (l : List (List ℕ)) (n : ℕ) (reading : List ℕ) : Type 0 where
  pub some_one : 0 < length l
  pub room : n < length reading
  pub holds : take (n + 1) reading ≡ get_or l 0 []

abbrev pub is_written : Answer → Bool
is_written written = true
is_written no_reading = false
is_written no_further = false
is_written (refused k) = false
