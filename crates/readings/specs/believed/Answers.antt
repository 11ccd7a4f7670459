-- What first reading and next reading answer, and what a list of their calls is about.
-- Clauses: 7.4, 7.5, 8.5 (docs/SPECIFICATION.md)
use Rattle.std.specs.Prelude.{ℕ, List, Result, Ok, Err}
use Rattle.listing_model.specs.believed.Listing.{written, no_reading, no_further, Subject, due, over_entries}
use Rattle.listing_model.specs.believed.Listing as model
use Rattle.service.specs.believed.Opened.{files_in, opened, served}
use Rattle.refusal.specs.declared.Refusal.{Refusal}
use Rattle.refusal.specs.believed.Refusal.{number}
use Rattle.first_run.specs.declared.Answer.{Answer}

-- each case of the answer: a reading written, "none", "no further", or the number
abbrev pub said : Result Answer Refusal → model.Answer
said (Ok Answer.Written) = written
said (Ok Answer.NoReading) = no_reading
said (Ok Answer.NoFurther) = no_further
said (Err e) = model.refused (number e)

-- from the bytes of both files and the length of the buffer; a reading is n + 1 bytes
abbrev pub subject : List ℕ → List ℕ → ℕ → Subject
subject grammar history size = served due over_entries (opened 1 size (files_in grammar history))
