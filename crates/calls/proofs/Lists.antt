-- A list of calls made one by one is the list that the model goes through.
use Prim.Native.Nat.{ℕ, zero, suc, ◌+◌, ◌<◌, ◌≤◌}
use native.Mathlib.Numerals.{add-one}
use native.Mathlib.Omega.{arith}
use mathlib.Core.Path.{◌≡◌, refl, sym, ◌∙◌, ap, ap₂}
use mathlib.Core.List.{List, [], ◌∷◌, ◌++◌, map, append_assoc, append-nil}
use borrow.Author.Tests.{lt-ltb, le-ltb}
use lib.ListN.{length, take, drop, get_or, set, length-set, length-map, take-append-drop, drop_of_length-le}
use lib.Seq.{take-suc-set, drop-set-lt}
use Rattle.listing_model.specs.believed.Listing.{Call, Answer, Subject, due, Shown, start, model, shows, trace, over_entries}
use Rattle.listing_model.specs.Calls.{call_on}
use Rattle.listing_model.proofs.Listing.{Proper, listing, start_agrees, entries_proper}
use Rattle.files.specs.believed.Files.{Files, accepted, refused}
use Rattle.service.specs.believed.Opened.{files_in, opened, served}
use Rattle.service.specs.believed.Given as service
use Rattle.history_file.specs.believed.HistoryFile.{tokens_of}
use Rattle.readings.specs.believed.Answers.{subject}
use Rattle.calls.specs.believed.CallList.{code_of, call_of, calls_of, coded, final, model_answers, model_buffer, no_room, calls_due}

-- the answers and the last buffer, call by call
abbrev pub answers_by : Subject → List Call → List ℕ → List ℕ
answers_by x cs buf = map (λ p. code_of p.0) (trace (call_on x) cs buf)

abbrev pub buffer_by : Subject → List Call → List ℕ → List ℕ
buffer_by x cs buf = final (trace (call_on x) cs buf) buf

-- ── the model ──

answers_seen : (f : Shown → List ℕ) (l : List (Answer × Shown)) → map (λ (p : Answer × List ℕ). code_of p.0) (map (λ m. (m.0, f m.1)) l) ≡ map (λ p. code_of p.0) l
answers_seen f [] = refl
answers_seen f (p ∷ l) = ap (λ (r : List ℕ). code_of p.0 ∷ r) (answers_seen f l)

final-seen : (f : Shown → List ℕ) (l : List (Answer × Shown)) (s : Shown) → final (map (λ m. (m.0, f m.1)) l) (f s) ≡ f (final l s)
final-seen f [] s = refl
final-seen f (p ∷ l) s = final-seen f l p.1

module _ (x : Subject) (p : Proper x) (cs : List Call) (buf : List ℕ) where
  pub answers_model : answers_by x cs buf ≡ model_answers x cs buf
  answers_model = rw (listing x p buf cs) (answers_seen (shows x buf) (trace (model x) cs (start x buf)))

  pub buffer_model : buffer_by x cs buf ≡ model_buffer x cs buf
  buffer_model =
      ap (λ (l : List (Answer × List ℕ)). final l buf) (listing x p buf cs)
      ∙ ap (λ (b : List ℕ). final (map (λ m. (m.0, shows x buf m.1)) (trace (model x) cs (start x buf))) b) (sym (start_agrees x buf).0)
      ∙ final-seen (shows x buf) (trace (model x) cs (start x buf)) (start x buf)

-- the files and the buffer's length give a list of entries, or a refusal
pub subject_proper : (grammar history : List ℕ) (size : ℕ) → Proper (subject grammar history size)
subject_proper grammar history size = go (opened 1 size (files_in grammar history))
  where
    go : (f : Files) → Proper (served due over_entries f)
    go (refused e) = tt
    go (accepted g ts) = entries_proper g (tokens_of ts)

-- the calls of first reading and next reading, one by one, give what the model gives
pub subject-listing : (grammar history buf : List ℕ) (cs : List Call) → let x = subject grammar history (length buf) in
    trace (call_on x) cs buf ≡ map (λ m. (m.0, shows x buf m.1)) (trace (model x) cs (start x buf))
subject-listing grammar history buf cs = listing (subject grammar history (length buf)) (subject_proper grammar history (length buf)) buf cs

-- ── the loop ──

pub record Calling (grammar history kinds answers₀ buf₀ answers buf : List ℕ) (i : ℕ) : Type 0 where
  pub most : i ≤ length kinds
  pub as_long : length answers ≡ length answers₀
  pub same_size : length buf ≡ length buf₀
  pub said : take i answers ++ answers_by (subject grammar history (length buf₀)) (drop i (calls_of kinds)) buf ≡ answers_by (subject grammar history (length buf₀)) (calls_of kinds) buf₀
  pub left : buffer_by (subject grammar history (length buf₀)) (drop i (calls_of kinds)) buf ≡ buffer_by (subject grammar history (length buf₀)) (calls_of kinds) buf₀
  pub kept : drop (length kinds) answers ≡ drop (length kinds) answers₀

calls_at : (kinds : List ℕ) (i : ℕ) → i < length kinds → drop i (calls_of kinds) ≡ call_of (get_or kinds i 0) ∷ drop (suc i) (calls_of kinds)
calls_at [] i h = absurd (omega arith)
calls_at (k ∷ kinds) zero h = refl
calls_at (k ∷ kinds) (suc i) h = calls_at kinds i (omega arith)

module _ (grammar history kinds answers₀ buf₀ : List ℕ) (room : length kinds ≤ length answers₀) where
  abbrev X : Subject
  X = subject grammar history (length buf₀)

  pub calling_start : Calling grammar history kinds answers₀ buf₀ answers₀ buf₀ 0
  calling_start = record { most = omega arith; as_long = refl; same_size = refl; said = refl; left = refl; kept = refl }

  pub calling_next : {answers buf : List ℕ} {i : ℕ} → Calling grammar history kinds answers₀ buf₀ answers buf i → i < length kinds → (r : ℕ) (new : List ℕ) → length new ≡ length buf →
      (r, new) ≡ coded (call_on (subject grammar history (length buf)) (call_of (get_or kinds i 0)) buf) → Calling grammar history kinds answers₀ buf₀ (set answers i r) new (i + 1)
  calling_next {answers} {buf} {i} k h r new size e =
      let q : (r, new) ≡ coded (call_on X (call_of (get_or kinds i 0)) buf) = rw k.same_size at e in
      let r-is : r ≡ code_of (call_on X (call_of (get_or kinds i 0)) buf).0 = ap (λ (p : ℕ × List ℕ). p.0) q in
      let new_is : new ≡ (call_on X (call_of (get_or kinds i 0)) buf).1 = ap (λ (p : ℕ × List ℕ). p.1) q in
      rw (add-one i)
      (record {
        most = h;
        as_long = length-set answers i r ∙ k.as_long;
        same_size = size ∙ k.same_size;
        said = ap (λ (l : List ℕ). l ++ answers_by X (drop (suc i) (calls_of kinds)) new) (take-suc-set answers i r (omega (arith, k.as_long))) ∙ append_assoc (take i answers) (r ∷ []) _ ∙ rw (r-is, new_is) (sym (ap (λ (l : List Call). take i answers ++ answers_by X l buf) (calls_at kinds i h)) ∙ k.said);
        left = rw new_is (sym (ap (λ (l : List Call). buffer_by X l buf) (calls_at kinds i h)) ∙ k.left);
        kept = drop-set-lt (length kinds) answers i r h ∙ k.kept;
      })

  pub calling_end : {answers buf : List ℕ} {i : ℕ} → Calling grammar history kinds answers₀ buf₀ answers buf i → i ≡ length kinds → (service.written, answers, buf) ≡ calls_due grammar history kinds answers₀ buf₀
  calling_end {answers} {buf} {i} k e =
      let none : drop i (calls_of kinds) ≡ [] = drop_of_length-le (calls_of kinds) {i = i} (rw (length-map kinds call_of) (omega arith)) in
      let a : take (length kinds) answers ≡ answers_by X (calls_of kinds) buf₀ = rw (← e) (sym (append-nil (take i answers)) ∙ rw none at k.said) in
      let b : buf ≡ buffer_by X (calls_of kinds) buf₀ = rw none at k.left in
      let p = subject_proper grammar history (length buf₀) in
      let c : answers ≡ model_answers X (calls_of kinds) buf₀ ++ drop (length kinds) answers₀ =
      sym (take-append-drop (length kinds) answers) ∙ ap₂ ◌++◌ (a ∙ answers_model X p (calls_of kinds) buf₀) k.kept in
      let d : buf ≡ model_buffer X (calls_of kinds) buf₀ = b ∙ buffer_model X p (calls_of kinds) buf₀ in
      rw (le-ltb (length answers₀) (length kinds) room, ← c, ← d)

pub calls_short : (grammar history kinds answers buf : List ℕ) (e : ℕ) → length answers < length kinds → e ≡ no_room (files_in grammar history) →
    (service.refused e, answers, buf) ≡ calls_due grammar history kinds answers buf
calls_short grammar history kinds answers buf e h q = rw (lt-ltb (length answers) (length kinds) h, q)
