-- Elements as a source of numbers (document 02, 2.2: "from the numbers of a file in their order, one element each").
-- Clauses: 11.1 (docs/SPECIFICATION.md)
use Rattle.std.specs.Prelude.{ℕ, ◌+◌, cond, List, ltb, length, get_or, Ok, Err}
use Rattle.refusal.specs.declared.Refusal.{Refusal}
use Rattle.numbers.specs.believed.Number.{Read, Source}

-- the element at a place, whatever its size: "1 for too few elements", "2 never"
unfoldable pub element_at : List ℕ → ℕ → Read ℕ
element_at es at = cond (ltb at (length es)) (Ok (get_or es at 0, at + 1)) (Err Refusal.Truncated)

-- "9 for too many"
abbrev pub elements : List ℕ → Source
elements es = record { number = element_at es; more = λ at. ltb at (length es) }
