-- A number held to its range, over any way to read the number at a place (document 01: "1 or 2 for a number before its range").
-- Clauses: 6.3 (docs/SPECIFICATION.md)
use Rattle.std.specs.Prelude.{ℕ, ◌+◌, cond, ltb, eqb, Ok, Err}
use Rattle.refusal.specs.declared.Refusal.{Refusal}
use Rattle.numbers.specs.believed.Number.{Read}

-- the range is asked of a number that could be read; 1 and 2 go before it
abbrev pub limited : Read ℕ → ℕ → Refusal → Read ℕ
limited (Ok (n, p)) limit refusal = cond (ltb n limit) (Ok (n, p)) (Err refusal)
limited (Err e) limit refusal = Err e

-- the number at a place, below the limit
unfoldable pub field_at : (ℕ → Read ℕ) → ℕ → ℕ → Refusal → Read ℕ
field_at number at limit refusal = limited (number at) limit refusal

-- "not 1 to .." (3, 4): 0 is refused by the same number
abbrev pub positive : Read ℕ → Refusal → Read ℕ
positive (Ok (n, p)) refusal = cond (eqb n 0) (Err refusal) (Ok (n, p))
positive (Err e) refusal = Err e

-- the number at a place, from 1 to the most
unfoldable pub count_at : (ℕ → Read ℕ) → ℕ → ℕ → Refusal → Read ℕ
count_at number at most refusal = positive (field_at number at (most + 1) refusal) refusal
