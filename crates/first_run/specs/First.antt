-- What first reading and next reading answer (document 01, "Services" and "The plain listing").
-- Law: first_is, none_is (first_run/proofs/Whole.antt)
use Rattle.listing_model.specs.believed.Listing.{written, no_reading, no_further}
use Rattle.listing_model.specs.believed.Listing as model
use Rattle.first_run.specs.declared.Answer.{Answer}

abbrev pub first_said : Answer → model.Answer
first_said Answer.Written = written
first_said Answer.NoReading = no_reading
first_said Answer.NoFurther = no_further
