-- The bytes of one step: which part of a history file they are, or why there is none (document 02, 2.1, and refusal 17).
-- Clauses: 10.1 to 10.4 (docs/SPECIFICATION.md)
use Rattle.std.specs.Prelude.{ℕ, suc, ◌+◌, cond, ◌&&◌, List, [], ◌∷◌, eqb, ltb, length, get_or, take, drop, Result, Ok, Err}
use Rattle.std.proofs.Math.Option.{Option, none, some}
use Rattle.refusal.specs.declared.Refusal.{Refusal}
use Rattle.refusal.specs.believed.Refusal.{number}
use Rattle.numbers.specs.Written.{written}
use Rattle.history_file.specs.believed.HistoryFile.{HistoryFile, kind, depth_after, history_of}

-- one more, where there is a number
abbrev pub later : Option ℕ → Option ℕ
later none = none
later (some k) = some (suc k)

-- how many tokens there are through the first one after which no step is open, with so many steps open before them: from an open on, through
-- the close that ends its step. None where there is no such token
unfoldable pub step_length : ℕ → List ℕ → Option ℕ
step_length depth [] = none
step_length depth (t ∷ ts) = cond (eqb (depth_after t depth) 0) (some 1) (later (step_length (depth_after t depth) ts))

-- the byte at which the part starts, and the token numbers that it holds; or the number of the refusal
pub data StepPart : Type 0 where
  part : ℕ → List ℕ → StepPart
  refused : ℕ → StepPart

-- "from that open's first byte through its close's last byte": in front of it stand the count and the tokens before the open
abbrev pub part_from : List ℕ → ℕ → Option ℕ → StepPart
part_from ts p none = refused 17
part_from ts p (some k) = part (length (written (length ts ∷ take p ts))) (take k (drop p ts))

-- 17: "when the position is not that of an open"
unfoldable pub step_in : List ℕ → ℕ → StepPart
step_in ts p = cond (ltb p (length ts) && eqb (kind (get_or ts p 0)) 1) (part_from ts p (step_length 0 (drop p ts))) (refused 17)

-- 17 is "found after the history has passed"
abbrev pub step_from : HistoryFile → ℕ → StepPart
step_from (HistoryFile.accepted ts) p = step_in ts p
step_from (HistoryFile.refused e) p = refused e

-- of the bytes of a file
abbrev pub step_of : List ℕ → ℕ → StepPart
step_of s p = step_from (history_of s) p

-- what the part holds; "when turned down .. the part is empty"
abbrev pub bytes_in : StepPart → List ℕ
bytes_in (part start ts) = written ts
bytes_in (refused e) = []

-- where it starts; an empty part stands at the file's first byte
abbrev pub start_in : StepPart → ℕ
start_in (part start ts) = start
start_in (refused e) = 0

-- "a second service gives the number, or says there is none"
abbrev pub number_in : StepPart → Option ℕ
number_in (part start ts) = none
number_in (refused e) = some e

-- the number for each case of the answer
abbrev pub number_said : Result Unit Refusal → Option ℕ
number_said (Ok x) = none
number_said (Err e) = some (number e)

-- the place k bytes behind another
abbrev pub within : ℕ × ℕ → ℕ → ℕ × ℕ
within p k = (p.0, k + p.1)
