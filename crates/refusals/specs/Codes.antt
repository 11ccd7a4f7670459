-- An answer read back from its code, and the numbers that a refusal can have.
-- Law: codes_read_back, outcomes_read_back (refusals/proofs/Codes.antt)
-- Law: step_codes (refusals/proofs/Steps.antt)
-- Law: counts_read_back (refusals/proofs/Counts.antt)
-- Law: grammar_write_codes, history_write_codes (refusals/proofs/Writers.antt)
use Rattle.std.specs.Prelude.{ℕ, ◌≤◌, ◌≡◌, ◌⊎◌, cond, eqb}
use Rattle.std.proofs.Math.Option.{Option, none, some}
use Rattle.listing_model.specs.believed.Listing.{Answer, written, no_reading, no_further, refused}
use Rattle.service.specs.believed.Given.{Given}
use Rattle.service.specs.believed.Given as service
use Rattle.reading_counts.specs.believed.Numbered.{Told, exact, over}

-- the numbers of the services that take both files
abbrev pub Numbered : ℕ → Type 0
Numbered e = (1 ≤ e) × (e ≤ 16)

-- 0 says that a reading was written, 100 "none", 101 "no further"; any other code is the number of a refusal
abbrev pub answer_of : ℕ → Answer
answer_of k = cond (eqb k 0) written (cond (eqb k 100) no_reading (cond (eqb k 101) no_further (refused k)))

-- of a service that only writes
abbrev pub outcome_of : ℕ → Given Unit
outcome_of k = cond (eqb k 0) service.written (service.refused k)

-- the numbers for the bytes of one step: those of a history file, and 17
abbrev pub StepNumbered : ℕ → Type 0
StepNumbered e = ((1 ≤ e) × (e ≤ 2)) ⊎ (((9 ≤ e) × (e ≤ 14)) ⊎ (e ≡ 17))

-- 0 says that there is no number
abbrev pub number_of : ℕ → Option ℕ
number_of k = cond (eqb k 0) none (some k)

-- the numbers of the writers: those of their file but 2, and 15
abbrev pub GrammarWriteNumbered : ℕ → Type 0
GrammarWriteNumbered e = (e ≡ 1) ⊎ (((3 ≤ e) × (e ≤ 9)) ⊎ (e ≡ 15))

abbrev pub HistoryWriteNumbered : ℕ → Type 0
HistoryWriteNumbered e = (e ≡ 1) ⊎ ((9 ≤ e) × (e ≤ 15))

-- 0 says that the number beside it is the answer: the length of a file, or the count of choices
abbrev pub given_of : ℕ → ℕ → Given ℕ
given_of k n = cond (eqb k 0) (service.given n) (service.refused k)

-- the numbers of the services that count, and of reading k: those of the files, 15 and 18
abbrev pub CountNumbered : ℕ → Type 0
CountNumbered e = ((1 ≤ e) × (e ≤ 15)) ⊎ (e ≡ 18)

-- 0 says that the count is exact, 102 that it is over
abbrev pub told_of : ℕ → ℕ → Given Told
told_of k n = cond (eqb k 0) (service.given (exact n)) (cond (eqb k 102) (service.given over) (service.refused k))
