-- An answer is told as what it says, any number as a refusal by it; so an answer with the number of its refusal is told as the answer itself.
use mathlib.Core.Path.{◌≡◌, refl}
use Rattle.std.specs.Prelude.{ℕ, Result, Ok, Err}
use Rattle.listing_model.specs.believed.Listing as model
use Rattle.first_run.specs.declared.Answer.{Answer}
use Rattle.refusal.specs.declared.Refusal.{Refusal}
use Rattle.refusal.specs.Numbered.{numbered}
use Rattle.readings.specs.believed.Answers.{said}
use Rattle.calls.specs.Told.{told}

pub answer_told : (a : Answer) → told (Ok a) ≡ said (Ok a)
answer_told Answer.Written = refl
answer_told Answer.NoReading = refl
answer_told Answer.NoFurther = refl

pub number_told : (k : ℕ) → told (Err k) ≡ model.refused k
number_told k = refl

pub told_said : (r : Result Answer Refusal) → told (numbered r) ≡ said r
told_said (Ok Answer.Written) = refl
told_said (Ok Answer.NoReading) = refl
told_said (Ok Answer.NoFurther) = refl
told_said (Err e) = refl
