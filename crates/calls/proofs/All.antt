-- A first reading and next readings, as a list of calls over the two files: they give all entries in order, and then "no further".
use Prim.Native.Nat.{ℕ, zero, suc, ◌+◌, ◌*◌, ◌<◌, ◌≤◌}
use native.Mathlib.Omega.{arith}
use mathlib.Core.Path.{◌≡◌, refl, ◌∙◌, ap}
use mathlib.Core.List.{List, [], ◌∷◌, ◌++◌, map}
use mathlib.Core.Option.{some}
use borrow.Author.Tests.{lt-ltb, le-ltb}
use lib.ListN.{length, drop, replicate, length-replicate}
use Rattle.vpg.specs.believed.Grammar.{Grammar}
use Rattle.vpg.specs.Runs.{entries}
use Rattle.listing_model.specs.believed.Listing.{Call, first, next, Answer, written, over, Shown, start, entry, model_first, model, shows, trace}
use Rattle.listing_model.proofs.Listing.{first_one}
use Rattle.history_file.specs.believed.HistoryFile.{tokens_of}
use Rattle.files.specs.believed.Files.{accepted}
use Rattle.service.specs.believed.Given as service
use Rattle.service.specs.believed.Opened.{files_in}
use Rattle.readings.specs.believed.Answers.{subject}
use Rattle.calls.specs.believed.CallList.{code_of, calls_of, final, model_answers, model_buffer, calls_due}

-- the list: one first reading, then k next readings
abbrev pub first_and_next : ℕ → List ℕ
first_and_next k = 0 ∷ replicate k 1

-- ── the model ──

calls_next : (k : ℕ) → calls_of (replicate k 1) ≡ replicate k next
calls_next zero = refl
calls_next (suc k) = ap (λ (l : List Call). next ∷ l) (calls_next k)

module _ (l : List (List ℕ)) (n : ℕ) where
  -- k next readings from entry i on, where so many follow it
  nexts_answers : (i k : ℕ) → i + k ≤ length l → map (λ (p : Answer × Shown). code_of p.0) (trace (model (over l n)) (replicate k next) (some i)) ≡ replicate k 0
  nexts_answers i zero h = refl
  nexts_answers i (suc k) h = rw (lt-ltb i (length l) (omega arith)) (ap (λ (r : List ℕ). 0 ∷ r) (nexts_answers (suc i) k (omega arith)))

  nexts_state : (i k : ℕ) → i + k ≤ length l → final (trace (model (over l n)) (replicate k next) (some i)) (some i) ≡ some (i + k)
  nexts_state i zero h = let e : i + 0 ≡ i = omega arith in rw e
  nexts_state i (suc k) h = let e : i + suc k ≡ suc i + k = omega arith in rw (lt-ltb i (length l) (omega arith), e) (nexts_state (suc i) k (omega arith))

  -- and one more behind the last
  last_answers : (i k : ℕ) → i + k ≡ length l → map (λ (p : Answer × Shown). code_of p.0) (trace (model (over l n)) (replicate (suc k) next) (some i)) ≡ replicate k 0 ++ (101 ∷ [])
  last_answers i zero h = rw (le-ltb i (length l) (omega arith))
  last_answers i (suc k) h = rw (lt-ltb i (length l) (omega arith)) (ap (λ (r : List ℕ). 0 ∷ r) (last_answers (suc i) k (omega arith)))

  last_state : (i k : ℕ) → i + k ≡ length l → final (trace (model (over l n)) (replicate (suc k) next) (some i)) (some i) ≡ some (length l)
  last_state i zero h = let e : i ≡ length l = omega arith in rw (le-ltb i (length l) (omega arith), e)
  last_state i (suc k) h = rw (lt-ltb i (length l) (omega arith)) (last_state (suc i) k (omega arith))

-- ── the two files as bytes ──

module _ (grammar history : List ℕ) (g : Grammar) (ts : List ℕ) (passed : files_in grammar history ≡ accepted g ts) (answers buf : List ℕ) (long : length ts < length buf)
    (j : ℕ) (found : length (entries g (tokens_of ts)) ≡ suc j) where
  abbrev Entries : List (List ℕ)
  Entries = entries g (tokens_of ts)

  abbrev n : ℕ
  n = suc (length (tokens_of ts))

  subject_is : subject grammar history (length buf) ≡ over Entries n
  subject_is = rw (passed, le-ltb (length buf) (1 * (length ts + 1)) (omega arith))

  -- what a list with room for its answers gives
  made : (kinds said : List ℕ) (k size : ℕ) → length kinds ≡ size → size ≤ length answers → model_answers (over Entries n) (calls_of kinds) buf ≡ said →
      model_buffer (over Entries n) (calls_of kinds) buf ≡ entry Entries k ++ drop n buf →
      calls_due grammar history kinds answers buf ≡ (service.written, said ++ drop size answers, entry Entries k ++ drop n buf)
  made kinds said k size e room a b = rw (e, le-ltb (length answers) size room, subject_is, a, b)

  begun : (s : Shown) → model_first (length Entries) s ≡ (written, some 1)
  begun s = first_one (length Entries) s (omega (arith, found))

  -- "a first reading and m − 1 next ones give all m entries": after k next readings the buffer has entry k + 1
  pub each_entry : (k : ℕ) → k ≤ j → suc k ≤ length answers →
      calls_due grammar history (first_and_next k) answers buf ≡ (service.written, replicate (suc k) 0 ++ drop (suc k) answers, entry Entries (suc k) ++ drop n buf)
  each_entry k h room =
      let size : length (first_and_next k) ≡ suc k = ap suc (length-replicate k 1) in
      let e : 1 + k ≡ suc k = omega arith in
      let a : model_answers (over Entries n) (calls_of (first_and_next k)) buf ≡ replicate (suc k) 0 =
      rw (calls_next k, begun (start (over Entries n) buf)) (ap (λ (r : List ℕ). 0 ∷ r) (nexts_answers Entries n 1 k (omega (arith, found)))) in
      let b : model_buffer (over Entries n) (calls_of (first_and_next k)) buf ≡ entry Entries (suc k) ++ drop n buf =
      rw (calls_next k, begun (start (over Entries n) buf), nexts_state Entries n 1 k (omega (arith, found)), e) in
      made (first_and_next k) (replicate (suc k) 0) (suc k) (suc k) size room a b

  -- "and the next one after them says no further"
  pub no_entry_more : suc (suc j) ≤ length answers →
      calls_due grammar history (first_and_next (suc j)) answers buf ≡ (service.written, (replicate (suc j) 0 ++ (101 ∷ [])) ++ drop (suc (suc j)) answers, entry Entries (suc j) ++ drop n buf)
  no_entry_more room =
      let size : length (first_and_next (suc j)) ≡ suc (suc j) = ap suc (length-replicate (suc j) 1) in
      let kinds : calls_of (first_and_next (suc j)) ≡ first ∷ replicate (suc j) next = ap (λ (l : List Call). first ∷ l) (calls_next (suc j)) in
      let s = start (over Entries n) buf in
      let a : model_answers (over Entries n) (first ∷ replicate (suc j) next) buf ≡ replicate (suc j) 0 ++ (101 ∷ []) =
      ap (λ (m : Answer × Shown). code_of m.0 ∷ map (λ (p : Answer × Shown). code_of p.0) (trace (model (over Entries n)) (replicate (suc j) next) m.1)) (begun s)
      ∙ ap (λ (r : List ℕ). 0 ∷ r) (last_answers Entries n 1 j (omega (arith, found))) in
      let b : model_buffer (over Entries n) (first ∷ replicate (suc j) next) buf ≡ entry Entries (suc j) ++ drop n buf =
      ap (λ (m : Answer × Shown). shows (over Entries n) buf (final (trace (model (over Entries n)) (replicate (suc j) next) m.1) m.1)) (begun s)
      ∙ ap (λ (z : Shown). shows (over Entries n) buf z) (last_state Entries n 1 j (omega (arith, found)))
      ∙ ap (λ (m : ℕ). entry Entries m ++ drop n buf) found in
      made (first_and_next (suc j)) (replicate (suc j) 0 ++ (101 ∷ [])) (suc j) (suc (suc j)) size room
      (ap (λ (cs : List Call). model_answers (over Entries n) cs buf) kinds ∙ a) (ap (λ (cs : List Call). model_buffer (over Entries n) cs buf) kinds ∙ b)
