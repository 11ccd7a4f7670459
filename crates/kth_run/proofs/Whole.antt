-- Reading number k and how many there are.
use Prim.Native.Nat.{ℕ, zero, suc, ◌-◌, ◌<◌, ◌≤◌}
use native.Mathlib.Omega.{arith}
use mathlib.Core.Path.{◌≡◌, refl, ◌∙◌, ap}
use mathlib.Core.Bool.{true, false, ◌&&◌}
use mathlib.Core.List.{List, [], ◌++◌}
use borrow.Author.Tests.{lt-ltb, le-ltb, ltb-true, ltb-false}
use lib.Dec.{ltb}
use lib.ListN.{length, drop, get_or}
use Rattle.vpg.specs.Runs.{entries}
use Rattle.capped.specs.Capped.{limit, cap}
use Rattle.capped.proofs.Capped.{cap-lt}
use Rattle.tables.specs.declared.Head.{Head}
use Rattle.tables.specs.declared.Table.{Table}
use Rattle.tables.specs.Ready.{rules_of, grammar_in}
use Rattle.tables.proofs.Tables.{ready_general}
use Rattle.history_file.specs.believed.HistoryFile.{tokens_of}
use Rattle.levels.specs.Levels.{Setting, derives_all}
use Rattle.levels.proofs.Levels.{tokens_length}
use Rattle.count_theory.specs.Allowed.{anywhere, passes}
use Rattle.count_theory.proofs.Places.{with-any}
use Rattle.count_rows.specs.declared.rows.Rows.{Rows}
use Rattle.count_rows.specs.Rows.{value_at, Complete}
use Rattle.count_rows.proofs.Whole.{count-whole, count_none}
use Rattle.kth_run.specs.Kth.{kth_written}

-- the count at position 0 tells whether there are more than i readings
module _ {t : Table} {head : Head} {ts closes mask : List ℕ} {rows : Rows} (x : Setting t head ts closes mask) (derives : derives_all head.well (rules_of t head) (tokens_of ts) head.start ≡ true) (c : Complete anywhere head.well (rules_of t head) (tokens_of ts) rows) (i : ℕ) (small : i < limit) where
  abbrev All : List (List ℕ)
  All = entries (grammar_in t head) (tokens_of ts)

  abbrev total : ℕ
  total = value_at rows 0 head.start

  all : total ≡ cap (length All)
  all = count-whole (grammar_in t head) (ready_general t head x.indexed.ready) (tokens_of ts) derives x.indexed.ready.start_small c ∙ ap cap (with-any (grammar_in t head) (tokens_of ts) 1026 0 (omega (arith, x.tokens.few, tokens_length ts)))

  pub more_than : ltb i total ≡ true → i < length All
  more_than q = cap-lt (length All) i small (rw all at (ltb-true i total q))

  pub no_more : ltb i total ≡ false → length All ≤ i
  no_more q = omega (arith, all, ltb-false i total q)

-- where the start doesn't derive all tokens there is none
pub no_reading : {t : Table} {head : Head} {ts closes mask : List ℕ} → Setting t head ts closes mask → derives_all head.well (rules_of t head) (tokens_of ts) head.start ≡ false → length (entries (grammar_in t head) (tokens_of ts)) ≡ 0
no_reading {t} {head} {ts} x none =
    let n = count_none (grammar_in t head) (ready_general t head x.indexed.ready) (tokens_of ts) (passes anywhere 0) none in
    omega (arith, n, ap cap (with-any (grammar_in t head) (tokens_of ts) 1026 0 (omega (arith, x.tokens.few, tokens_length ts))))

-- ── what is due ──

pub kth_above : (l : List (List ℕ)) (k n : ℕ) (buf : List ℕ) → 0 < k → length l ≤ k - 1 → (false, buf) ≡ kth_written l k n buf
kth_above l zero n buf d h = absurd (omega arith)
kth_above l (suc i) n buf d h = rw (le-ltb i (length l) (omega arith))

pub kth_is : (l : List (List ℕ)) (k n : ℕ) (old new : List ℕ) → 0 < k → k - 1 < length l → new ≡ get_or l (k - 1) [] ++ drop n old → (true, new) ≡ kth_written l k n old
kth_is l zero n old new d h e = absurd (omega arith)
kth_is l (suc i) n old new d h e = let j : suc i - 1 ≡ i = omega arith in rw (lt-ltb i (length l) (rw j at h)) (ap (λ (b : List ℕ). (true, b)) (rw j at e))

-- readings are counted from 1, and there is none where the start doesn't derive all tokens
pub kth-none : {t : Table} {head : Head} {ts closes mask : List ℕ} → Setting t head ts closes mask → (k n : ℕ) (buf : List ℕ) → (ltb 0 k && derives_all head.well (rules_of t head) (tokens_of ts) head.start) ≡ false →
    (false, buf) ≡ kth_written (entries (grammar_in t head) (tokens_of ts)) k n buf
kth-none x zero n buf e = refl
kth-none {t} {head} {ts} x (suc i) n buf e =
    let l : 0 < suc i = omega arith in
    let none = no_reading x (rw (lt-ltb 0 (suc i) l) at e) in
    kth_above (entries (grammar_in t head) (tokens_of ts)) (suc i) n buf l (omega (arith, none))
