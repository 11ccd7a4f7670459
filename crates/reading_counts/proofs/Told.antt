-- What the services tell, from what the passes give.
use Prim.Native.Nat.{ℕ, zero, suc, ◌+◌, ◌<◌, ◌≤◌}
use native.Mathlib.Omega.{arith}
use mathlib.Core.Path.{◌≡◌, refl, ◌∙◌, ap}
use mathlib.Core.Bool.{Bool, true, false, cond}
use mathlib.Core.List.{List}
use borrow.Author.Tests.{ne_eqb, lt-ltb, le-ltb, ltb-true, ltb-false}
use lib.Dec.{ltb}
use lib.ListN.{length}
use Rattle.vpg.specs.believed.Grammar.{Grammar}
use Rattle.vpg.specs.Runs.{entries}
use Rattle.std.specs.Prelude.{Option, Some, None, IfSome, Ok}
use Rattle.capped.specs.Capped.{limit, cap, value}
use Rattle.capped.proofs.Capped.{cap_small, cap_big}
use Rattle.count_theory.specs.believed.CountAt.{tally, count_at}
use Rattle.count_theory.specs.Allowed.{passes, alone_at}
use Rattle.count_theory.proofs.Places.{with_rule, with-any}
use Rattle.history_file.specs.believed.HistoryFile.{tokens_of}
use Rattle.levels.proofs.Levels.{tokens_length}
use Rattle.files.specs.believed.Files.{accepted}
use Rattle.kth_run.specs.Kth.{kth_written}
use Rattle.service.specs.believed.Given.{Given, given, written, untouched}
use Rattle.service.specs.believed.Opened.{files_in, opened}
use Rattle.reading_counts.specs.believed.Numbered.{exact, over, told, readings_said, readings_due, readings_at_due, reading_due, numbered}

pub told_exact : (n : ℕ) → n < limit → exact n ≡ told n
told_exact n h = rw (lt-ltb n limit h)

pub told_over : (n : ℕ) → limit ≤ n → over ≡ told n
told_over n h = rw (le-ltb n limit h)

-- a count that is capped is told as the count itself
pub told-cap : (m : ℕ) → told (cap m) ≡ told m
told-cap m = go (ltb m limit) refl
  where
    go : (b : Bool) → ltb m limit ≡ b → told (cap m) ≡ told m
    go true e = ap told (cap_small m (ltb-true m limit e))
    go false e = rw (cap_big m (ltb-false m limit e)) (told_over m (ltb-false m limit e))

-- on two files that pass
module _ (grammar history : List ℕ) {g : Grammar} {ts : List ℕ} (passed : files_in grammar history ≡ accepted g ts) (p r : ℕ) {v : ℕ} (is : v ≡ cap (tally (passes (alone_at p r) 0) (entries g (tokens_of ts)))) where
  counted : (n : ℕ) → tally (passes (alone_at p r) 0) (entries g (tokens_of ts)) ≡ n → told v ≡ told n
  counted n e = ap told is ∙ told-cap (tally (passes (alone_at p r) 0) (entries g (tokens_of ts))) ∙ ap told e

  -- what the pass counts where its position is behind the last one: all readings
  pub all_due : length ts < p → given (told v) ≡ readings_due grammar history
  all_due h = rw passed (ap given (counted (length (entries g (tokens_of ts))) (with-any g (tokens_of ts) p r (rw tokens_length h))))

  -- elsewhere: those that have the rule there
  pub at_due : p ≤ length ts → given (told v) ≡ readings_at_due grammar history p r
  at_due h =
      let k : p ≤ length (tokens_of ts) = rw tokens_length h in
      rw (passed, le-ltb (length (tokens_of ts)) p k) (ap given (counted (count_at (entries g (tokens_of ts)) p r) (with_rule g (tokens_of ts) p r k)))

-- the k-th search's answer as the service has it
abbrev pub kth_said : Bool × List ℕ → Given Unit × List ℕ
kth_said p = cond p.0 (written, p.1) (untouched p.1 18)

pub kth_numbered : (l : List (List ℕ)) (k n : ℕ) (buf : List ℕ) → kth_said (kth_written l k n buf) ≡ numbered l k n buf
kth_numbered l zero n buf = refl
kth_numbered l (suc i) n buf = go (ltb i (length l)) refl
  where
    go : (b : Bool) → ltb i (length l) ≡ b → kth_said (kth_written l (suc i) n buf) ≡ numbered l (suc i) n buf
    go true e = rw (e, ne_eqb (suc i) 0 (λ d. omega (arith, d)), le-ltb (length l) (suc i) (ltb-true i (length l) e)) refl
    go false e = rw (e, ne_eqb (suc i) 0 (λ d. omega (arith, d)), lt-ltb (length l) (suc i) (let h = ltb-false i (length l) e in omega arith)) refl

-- reading k, by what the search answers
pub reading_told : (grammar history buf : List ℕ) (k : ℕ) {g : Grammar} {ts : List ℕ} → opened 1 (length buf) (files_in grammar history) ≡ accepted g ts →
    kth_said (kth_written (entries g (tokens_of ts)) k (length ts + 1) buf) ≡ reading_due grammar history k buf
reading_told grammar history buf k {g} {ts} is = rw (is, tokens_length) (kth_numbered (entries g (tokens_of ts)) k (length ts + 1) buf)

-- a count as the services answer it is told as it is
pub count_told : (n : Option ℕ) → IfSome n (λ x. x < limit) → readings_said (Ok n) ≡ given (told (value n))
count_told (Some x) h = ap given (told_exact x h)
count_told None h = ap given (told_over limit (omega arith))
