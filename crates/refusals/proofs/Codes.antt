-- Every refusal of a service with both files has a number from 1 to 16, so an answer can be read back from its code.
use Prim.Native.Nat.{ℕ, suc, ◌+◌, ◌*◌}
use native.Mathlib.Omega.{arith}
use mathlib.Core.Path.{◌≡◌, refl}
use mathlib.Core.List.{List, [], ◌∷◌, ◌++◌}
use mathlib.Core.Option.{none, some}
use lib.Dec.{ltb}
use lib.ListN.{length, take, drop}
use Rattle.vpg.specs.Runs.{entries}
use Rattle.sets_theory.specs.believed.Sets.{choice_count, set_words, stop_marks}
use Rattle.listing_model.specs.believed.Listing.{Call, first, next, Answer, written, no_reading, no_further, refused, due, over, over_entries, Shown, find}
use Rattle.listing_model.specs.Calls.{successor, next_on, call_on}
use Rattle.service.specs.believed.Given.{Given}
use Rattle.service.specs.believed.Given as service
use Rattle.service.specs.believed.Opened.{files_in, opened}
use Rattle.readings.specs.believed.Answers.{subject}
use Rattle.calls.specs.believed.CallList.{code_of, no_room, calls_made, calls_due}
use Rattle.sets.specs.believed.Sets.{sets_due, count_due}
use Rattle.stop_marks.specs.believed.StopMarks.{marks_due}
use Rattle.replies.specs.believed.Wire.{count_wire, outcome_code}
use Rattle.refusals.specs.Codes.{Numbered, answer_of, outcome_of, given_of}
use Rattle.refusals.proofs.Readers.{chosen}
use Rattle.refusals.proofs.Files.{OfFiles, OfGiven, files_of_lem, opened_of, served_of, outcome_back}

-- ── the files, and the room ──

files_numbers : (grammar history : List ℕ) → OfFiles Numbered (files_in grammar history)
files_numbers = files_of_lem Numbered (λ e h. omega arith)

opened_numbers : (grammar history : List ℕ) (each size : ℕ) → OfFiles Numbered (opened each size (files_in grammar history))
opened_numbers grammar history each size = opened_of Numbered (omega arith) each size (files_in grammar history) (files_numbers grammar history)

-- ── first and next reading ──

abbrev OfAnswer : Answer → Type 0
OfAnswer written = Unit
OfAnswer no_reading = Unit
OfAnswer no_further = Unit
OfAnswer (refused k) = Numbered k

over_numbers : (l : List (List ℕ)) (n : ℕ) (c : Call) (buf : List ℕ) → OfAnswer (call_on (over l n) c buf).0
over_numbers [] n first buf = tt
over_numbers (e ∷ l) n first buf = tt
over_numbers l n next buf = go (find (take n buf) l)
  where
    behind : (r : List (List ℕ)) → OfAnswer (successor r n buf).0
    behind [] = tt
    behind (e ∷ r) = tt

    go : (s : Shown) → OfAnswer (next_on s l n buf).0
    go none = omega arith
    go (some k) = behind (drop k l)

read_back : (a : Answer) → OfAnswer a → answer_of (code_of a) ≡ a
read_back written h = refl
read_back no_reading h = refl
read_back no_further h = refl
read_back (refused k) h = grind arith

pub codes_read_back : (grammar history : List ℕ) (size : ℕ) (c : Call) (buf : List ℕ) → let a = (call_on (subject grammar history size) c buf).0 in answer_of (code_of a) ≡ a
codes_read_back grammar history size c buf =
    read_back _ (served_of Numbered (λ x. OfAnswer (call_on x c buf).0) due over_entries (λ k h. h) (λ g w. over_numbers (entries g w) (suc (length w)) c buf) _
    (opened_numbers grammar history 1 size))

-- ── choices, with the sets and without them ──

count_back : (x : Given ℕ) → OfGiven Numbered x → given_of (count_wire x).answer (count_wire x).count ≡ x
count_back (service.given n) h = refl
count_back (service.refused k) h = grind arith

-- ── services that only write ──

written_back : (o : Given Unit) → OfGiven Numbered o → outcome_of (outcome_code o) ≡ o
written_back = outcome_back Numbered (λ k h q. omega arith)

-- the services whose answer is 0, alone or with a count, or the number of a refusal
pub record ReadBack (grammar history words marks kinds answers buf : List ℕ) : Type 0 where
  pub sets : given_of (count_wire (sets_due grammar history words).0).answer (count_wire (sets_due grammar history words).0).count ≡ (sets_due grammar history words).0
  pub choices : given_of (count_wire (count_due grammar history)).answer (count_wire (count_due grammar history)).count ≡ count_due grammar history
  pub stop_marks_lem : outcome_of (outcome_code (marks_due grammar history marks).0) ≡ (marks_due grammar history marks).0
  pub calls : outcome_of (outcome_code (calls_due grammar history kinds answers buf).0) ≡ (calls_due grammar history kinds answers buf).0

pub outcomes_read_back : (grammar history words marks kinds answers buf : List ℕ) → ReadBack grammar history words marks kinds answers buf
outcomes_read_back grammar history words marks kinds answers buf =
    let f = files_numbers grammar history in
    record {
      sets =
          count_back _
          (served_of Numbered (λ (x : Given ℕ × List ℕ). OfGiven Numbered x.0) (service.untouched words)
          (λ g w. (service.given (choice_count g w), set_words g w ++ drop (4 * (length w + 1)) words)) (λ k h. h) (λ g w. tt) _
          (opened_numbers grammar history 4 (length words)));
      choices = count_back _ (served_of Numbered (OfGiven Numbered) service.refused (λ g w. service.given (choice_count g w)) (λ k h. h) (λ g w. tt) _ f);
      stop_marks_lem =
          written_back _
          (served_of Numbered (λ (x : Given Unit × List ℕ). OfGiven Numbered x.0) (service.untouched marks)
          (λ g w. (service.written, stop_marks g w ++ drop (length w + 1) marks)) (λ k h. h) (λ g w. tt) _
          (opened_numbers grammar history 1 (length marks)));
      calls =
          written_back _
          (chosen (λ (x : Given Unit × List ℕ × List ℕ). OfGiven Numbered x.0) (ltb (length answers) (length kinds))
          {x = (service.refused (no_room (files_in grammar history)), answers, buf)} {y = calls_made (subject grammar history (length buf)) kinds answers buf}
          (served_of Numbered Numbered (λ e. e) (λ g w. 15) (λ k h. h) (λ g w. omega arith) _ f) tt);
    }
