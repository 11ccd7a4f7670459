-- A list of calls on a buffer goes as the listing model does (document 01, "The plain listing").
use Prim.Native.Nat.{ℕ, zero, suc, ◌+◌, ◌<◌, ◌≤◌}
use native.Mathlib.Nat.{not-suc-le-zero}
use native.Mathlib.Omega.{arith}
use mathlib.Core.Path.{◌≡◌, refl, sym, ◌∙◌, ap}
use mathlib.Core.Bool.{Bool, true, false}
use mathlib.Core.List.{List, [], ◌∷◌, ◌++◌, map, Memᴰ}
use mathlib.Core.Option.{none, some}
use borrow.Author.Tests.{ltb-true, ltb-false, lt-ltb, le-ltb}
use lib.Dec.{ltb}
use lib.ListN.{get_or, take, drop, length, take-append-drop, drop_of_length-le, replicate}
use lib.Seq.{drop-cons, take_at, drop_at, length_front, length-take-le}
use Rattle.laws.proofs.Lists.{at_member}
use Rattle.vpg.specs.declared.Token.{Token}
use Rattle.vpg.specs.believed.Grammar.{Grammar}
use Rattle.vpg.specs.believed.Order.{Ascending}
use Rattle.vpg.specs.Runs.{entries}
use Rattle.listing_model.specs.believed.Listing.{Call, first, next, Answer, written, no_further, Subject, due, over, Shown, find, entry, start, model_first, onward, model, shows, trace, over_entries}
use Rattle.listing_model.specs.Calls.{first_on, successor, next_on, call_on}
use Rattle.vpg.proofs.Ascends.{entries_ascending}
use Rattle.vpg.proofs.Entries.{entry_length}
use Rattle.listing_model.proofs.Find.{find_at, find-found}

-- entries stand in ascending order, and have n numbers each
abbrev pub Proper : Subject → Type 0
Proper (due k) = Unit
Proper (over l n) = Ascending l × ((e : List ℕ) → Memᴰ e l → length e ≡ n)

-- the states that occur, if the buffer was first lent as buf
abbrev pub Occurs : Subject → List ℕ → Shown → Type 0
Occurs (due k) buf none = Unit
Occurs (due k) buf (some i) = ⊥
Occurs (over l n) buf none = find (take n buf) l ≡ none
Occurs (over l n) buf (some zero) = ⊥
Occurs (over l n) buf (some (suc j)) = j < length l

-- what the caller sees at a step of the model
abbrev seen : Subject → List ℕ → Answer × Shown → Answer × List ℕ
seen x buf m = (m.0, shows x buf m.1)

-- what a call answers and leaves is what the model gives, and the model stays in a state that occurs
abbrev Agrees : Subject → List ℕ → Answer × List ℕ → Answer × Shown → Type 0
Agrees x buf a m = (a ≡ seen x buf m) × Occurs x buf m.1

first_agrees : (l : List (List ℕ)) (n : ℕ) (buf : List ℕ) (s : Shown) → Occurs (over l n) buf s → drop n (shows (over l n) buf s) ≡ drop n buf →
    Agrees (over l n) buf (first_on l n (shows (over l n) buf s)) (model_first (length l) s)
first_agrees [] n buf s h p = (refl, h)
first_agrees (e ∷ l) n buf s h p = (rw p, omega arith)

onward_agrees : (l : List (List ℕ)) (n : ℕ) (buf : List ℕ) (j : ℕ) → j < length l → drop n (get_or l j [] ++ drop n buf) ≡ drop n buf → (b : Bool) → ltb (suc j) (length l) ≡ b →
    Agrees (over l n) buf (successor (drop (suc j) l) n (get_or l j [] ++ drop n buf)) (onward b (suc j))
onward_agrees l n buf j h p true e =
    let h' = ltb-true (suc j) (length l) e in
    (rw (drop-cons l (suc j) [] h', p), h')
onward_agrees l n buf j h p false e = (rw (drop_of_length-le l (ltb-false (suc j) (length l) e)), h)

module _ (l : List (List ℕ)) (n : ℕ) (long : (e : List ℕ) → Memᴰ e l → length e ≡ n) where
  take-entry : (j : ℕ) (x : List ℕ) → j < length l → take n (get_or l j [] ++ x) ≡ get_or l j []
  take-entry j x h = take_at (get_or l j []) x n (long (get_or l j []) (at_member l j [] h))

  drop-entry : (j : ℕ) (x : List ℕ) → j < length l → drop n (get_or l j [] ++ x) ≡ x
  drop-entry j x h = drop_at (get_or l j []) x n (long (get_or l j []) (at_member l j [] h))

  -- the rest of the buffer stays as it was first lent
  rest-kept : (buf : List ℕ) (s : Shown) → Occurs (over l n) buf s → drop n (shows (over l n) buf s) ≡ drop n buf
  rest-kept buf none h = refl
  rest-kept buf (some zero) h = absurd h
  rest-kept buf (some (suc j)) h = drop-entry j (drop n buf) h

-- one call is one step of the model
call_agrees : (x : Subject) → Proper x → (buf : List ℕ) (c : Call) (s : Shown) → Occurs x buf s → Agrees x buf (call_on x c (shows x buf s)) (model x c s)
call_agrees (due k) p buf c none h = (refl, tt)
call_agrees (due k) p buf c (some i) h = absurd h
call_agrees (over l n) p buf first s h = first_agrees l n buf s h (rest-kept l n p.1 buf s h)
call_agrees (over l n) p buf next none h = (rw h, h)
call_agrees (over l n) p buf next (some zero) h = absurd h
call_agrees (over l n) p buf next (some (suc j)) h =
    rw (take-entry l n p.1 j (drop n buf) h, find_at l j p.0 h)
    (onward_agrees l n buf j h (drop-entry l n p.1 j (drop n buf) h) (ltb (suc j) (length l)) refl)

pub start_agrees : (x : Subject) (buf : List ℕ) → (shows x buf (start x buf) ≡ buf) × Occurs x buf (start x buf)
start_agrees (due k) buf = (refl, tt)
start_agrees (over l n) buf = go (find (take n buf) l) refl
  where
    go : (s : Shown) → find (take n buf) l ≡ s → (shows (over l n) buf s ≡ buf) × Occurs (over l n) buf s
    go none p = (refl, p)
    go (some k) p =
        let h = find-found (take n buf) l k p in
        rw h.number (rw (← h.is) (take-append-drop n buf), h.below)

-- ── the buffer's length ──

drop-mem : (k : ℕ) (l : List (List ℕ)) {e : List ℕ} → Memᴰ e (drop k l) → Memᴰ e l
drop-mem zero l m = m
drop-mem (suc k) [] m = m
drop-mem (suc k) (f ∷ l) m = Memᴰ.tail (drop-mem k l m)

module _ (n : ℕ) (buf : List ℕ) (fits : n ≤ length buf) where
  write-length : (e : List ℕ) → length e ≡ n → length (e ++ drop n buf) ≡ length buf
  write-length e p = length_front buf e n (p ∙ sym (length-take-le n buf fits))

  first-length : (l : List (List ℕ)) → ((e : List ℕ) → Memᴰ e l → length e ≡ n) → length (first_on l n buf).1 ≡ length buf
  first-length [] p = refl
  first-length (e ∷ l) p = write-length e (p e (Memᴰ.head refl))

  successor-length : (l : List (List ℕ)) → ((e : List ℕ) → Memᴰ e l → length e ≡ n) → length (successor l n buf).1 ≡ length buf
  successor-length [] p = refl
  successor-length (e ∷ l) p = write-length e (p e (Memᴰ.head refl))

  next-length : (s : Shown) (l : List (List ℕ)) → ((e : List ℕ) → Memᴰ e l → length e ≡ n) → length (next_on s l n buf).1 ≡ length buf
  next-length none l p = refl
  next-length (some k) l p = successor-length (drop k l) (λ e m. p e (drop-mem k l m))

  -- a call leaves the buffer as long as it was, so the test for 15 goes the same way at each call of a list
  pub call_length : (l : List (List ℕ)) → Proper (over l n) → (c : Call) → length (call_on (over l n) c buf).1 ≡ length buf
  call_length l p first = first-length l p.1
  call_length l p next = next-length (find (take n buf) l) l p.1

-- ── the listing ──

module _ (x : Subject) (p : Proper x) (buf : List ℕ) where
  traces : (cs : List Call) (s : Shown) → Occurs x buf s → trace (call_on x) cs (shows x buf s) ≡ map (seen x buf) (trace (model x) cs s)
  traces [] s h = refl
  traces (c ∷ cs) s h =
      let a = call_agrees x p buf c s h in
      rw a.0 (ap (λ (r : List (Answer × List ℕ)). seen x buf (model x c s) ∷ r) (traces cs (model x c s).1 a.1))

  -- after every such list each answer is the model's, and each buffer too
  pub listing : (cs : List Call) → trace (call_on x) cs buf ≡ map (λ m. (m.0, shows x buf m.1)) (trace (model x) cs (start x buf))
  listing cs =
      let h = start_agrees x buf in
      rw h.0 at (traces cs (start x buf) h.1)

-- ── a first call and then next calls ──

pub first_one : (m : ℕ) (s : Shown) → 0 < m → model_first m s ≡ (written, some 1)
first_one zero s h = absurd (not-suc-le-zero h)
first_one (suc m) s h = refl

module _ (l : List (List ℕ)) (n : ℕ) (p : Proper (over l n)) (buf : List ℕ) where
  abbrev gave : List ℕ → Answer × List ℕ
  gave e = (written, e ++ drop n buf)

  abbrev last_one : Answer × List ℕ
  last_one = (no_further, entry l (length l) ++ drop n buf)

  nexts : (i j : ℕ) → i + j ≡ length l → map (seen (over l n) buf) (trace (model (over l n)) (replicate (suc j) next) (some i)) ≡ map gave (drop i l) ++ (last_one ∷ [])
  nexts i zero q =
      let e : i ≡ length l = omega arith in
      rw (le-ltb i (length l) (omega arith), drop_of_length-le l {i = i} (omega arith), e)
  nexts i (suc j) q =
      rw (lt-ltb i (length l) (omega arith), drop-cons l i [] (omega arith))
      (ap (λ (r : List (Answer × List ℕ)). gave (get_or l i []) ∷ r) (nexts (suc i) j (omega arith)))

  -- "a first reading and m − 1 next ones give all m entries, and the next one after them says no further"
  pub list_all : (j : ℕ) → length l ≡ suc j →
      trace (call_on (over l n)) (first ∷ replicate (suc j) next) buf ≡ map (λ e. (written, e ++ drop n buf)) l ++ ((no_further, entry l (length l) ++ drop n buf) ∷ [])
  list_all j q =
      listing (over l n) p buf (first ∷ replicate (suc j) next)
      ∙ rw (first_one (length l) (start (over l n) buf) (omega arith)) (ap (λ (r : List (Answer × List ℕ)). gave (get_or l 0 []) ∷ r) (nexts 1 j (omega arith)))
      ∙ sym (ap (λ (z : List (List ℕ)). map gave z ++ (last_one ∷ [])) (drop-cons l 0 [] (omega arith)))

-- ── the entries of a grammar and a token list ──

pub entries_proper : (g : Grammar) (w : List Token) → Proper (over_entries g w)
entries_proper g w = (entries_ascending g w, entry_length g w)

pub entries-listing : (g : Grammar) (w : List Token) (buf : List ℕ) (cs : List Call) →
    trace (call_on (over_entries g w)) cs buf ≡ map (λ m. (m.0, shows (over_entries g w) buf m.1)) (trace (model (over_entries g w)) cs (start (over_entries g w) buf))
entries-listing g w buf cs = listing (over_entries g w) (entries_proper g w) buf cs

pub entries-list-all : (g : Grammar) (w : List Token) (buf : List ℕ) (j : ℕ) → length (entries g w) ≡ suc j →
    trace (call_on (over_entries g w)) (first ∷ replicate (suc j) next) buf
    ≡ map (λ e. (written, e ++ drop (suc (length w)) buf)) (entries g w) ++ ((no_further, entry (entries g w) (length (entries g w)) ++ drop (suc (length w)) buf) ∷ [])
entries-list-all g w buf j q = list_all (entries g w) (suc (length w)) (entries_proper g w) buf j q
