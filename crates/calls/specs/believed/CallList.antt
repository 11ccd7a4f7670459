-- A list of calls as the listing model goes through it (document 01, "The plain listing").
-- Clauses: 7.9, 8.8, 8.9 (docs/SPECIFICATION.md)
use Rattle.std.specs.Prelude.{ℕ, cond, List, [], ◌∷◌, ◌++◌, map, eqb, ltb, length, drop}
use Rattle.listing_model.specs.believed.Listing.{Call, first, next, Answer, written, no_reading, no_further, refused, Subject, start, model, shows, trace}
use Rattle.service.specs.believed.Given.{Given}
use Rattle.service.specs.believed.Given as service
use Rattle.service.specs.believed.Opened.{files_in, served}
use Rattle.files.specs.believed.Files.{Files}
use Rattle.readings.specs.believed.Answers.{subject}

-- an answer as a number; refusals are 1 to 16
abbrev pub code_of : Answer → ℕ
code_of written = 0
code_of no_reading = 100
code_of no_further = 101
code_of (refused k) = k

abbrev pub call_of : ℕ → Call
call_of kind = cond (eqb kind 0) first next

abbrev pub calls_of : List ℕ → List Call
calls_of kinds = map call_of kinds

-- a call's answer as a number, with the buffer that it leaves
abbrev pub coded : Answer × List ℕ → ℕ × List ℕ
coded p = (code_of p.0, p.1)

-- what is left after the last of them
abbrev pub final : {S : Type 0} → List (Answer × S) → S → S
final [] s = s
final (p ∷ l) s = final l p.1

-- the model's answers to a list of calls
abbrev pub model_answers : Subject → List Call → List ℕ → List ℕ
model_answers x cs buf = map (λ p. code_of p.0) (trace (model x) cs (start x buf))

-- the buffer in the model's last state
abbrev pub model_buffer : Subject → List Call → List ℕ → List ℕ
model_buffer x cs buf = shows x buf (final (trace (model x) cs (start x buf)) (start x buf))

-- all calls made, by the model
abbrev pub calls_made : Subject → List ℕ → List ℕ → List ℕ → Given Unit × List ℕ × List ℕ
calls_made x kinds answers buf = (service.written, model_answers x (calls_of kinds) buf ++ drop (length kinds) answers, model_buffer x (calls_of kinds) buf)

-- "grammar comes before history, both before 15": the number where the answers have no room
abbrev pub no_room : Files → ℕ
no_room files = served (λ e. e) (λ g w. 15) files

-- all calls made; or nothing done where the answers have no room
abbrev pub calls_due : List ℕ → List ℕ → List ℕ → List ℕ → List ℕ → Given Unit × List ℕ × List ℕ
calls_due grammar history kinds answers buf =
    cond (ltb (length answers) (length kinds)) (service.refused (no_room (files_in grammar history)), answers, buf)
    (calls_made (subject grammar history (length buf)) kinds answers buf)
