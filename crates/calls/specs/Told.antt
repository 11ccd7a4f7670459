-- What first reading and next reading answer, with any number in the place of the refusal.
-- Law: answer_told, number_told (calls/proofs/Told.antt)
use Rattle.std.specs.Prelude.{ℕ, Result, Ok, Err}
use Rattle.listing_model.specs.believed.Listing.{written, no_reading, no_further}
use Rattle.listing_model.specs.believed.Listing as model
use Rattle.first_run.specs.declared.Answer.{Answer}

-- each case of the answer: a reading written, "none", "no further", or the number
abbrev pub told : Result Answer ℕ → model.Answer
told (Ok Answer.Written) = written
told (Ok Answer.NoReading) = no_reading
told (Ok Answer.NoFurther) = no_further
told (Err k) = model.refused k
