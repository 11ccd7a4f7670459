-- Where a step's bytes stand, as the functions on the way to the two services answer it.
-- Inner: locate (step_bytes/src/lib.rt)
use Rattle.std.specs.Prelude.{ℕ, length, Option, Some, None, Result, Ok, Err}
use Rattle.std.proofs.Math.Option.{none, some}
use Rattle.std.proofs.Math.Option as count
use Rattle.numbers.specs.Written.{written}
use Rattle.step_bytes.specs.declared.Part.{Part}
use Rattle.step_bytes.specs.believed.StepBytes.{StepPart, part, refused}

abbrev pub ended : count.Option ℕ → Option ℕ
ended none = None
ended (some k) = Some k

-- the first byte, and how many there are; or the number of the refusal
abbrev pub placed : StepPart → Result Part ℕ
placed (part start ts) = Ok (record { start = start; length = length (written ts) })
placed (refused e) = Err e
