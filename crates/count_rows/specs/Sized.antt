-- How long the arrays of the counts are.
-- Inner: rows_of (count_rows/src/lib.rt)
use Rattle.std.specs.Prelude.{ℕ, ◌<◌, ◌≡◌, List, [], length, get_or}

-- 1,026 positions, each with 32 counts and a word
abbrev pub Sized : List (List ℕ) → List ℕ → Type 0
Sized counts overs = (length counts ≡ 1026) × ((p : ℕ) → p < 1026 → length (get_or counts p []) ≡ 32) × (length overs ≡ 1026)
