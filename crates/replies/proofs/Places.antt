-- The struct of a place is that of the part which stands there; and the number of an answer without a value is the same for either service.
use mathlib.Core.Path.{◌≡◌, refl}
use Rattle.std.specs.Prelude.{ℕ, Result, Ok, Err}
use Rattle.step_bytes.specs.believed.StepBytes.{StepPart, part, refused}
use Rattle.step_bytes.specs.Places.{placed}
use Rattle.replies.specs.Places.{place_wire}
use Rattle.replies.specs.Told.{told, number_told}
use Rattle.replies.specs.believed.Wire.{part_wire, outcome_code, step_code}

pub placed_wire : (x : StepPart) → place_wire (placed x) ≡ part_wire x
placed_wire (part start ts) = refl
placed_wire (refused k) = refl

pub same_code : (r : Result (Unit {0}) ℕ) → outcome_code (told r) ≡ step_code (number_told r)
same_code (Ok x) = refl
same_code (Err k) = refl
