-- Reading k is what the stepwise listing has at k: one first reading and k - 1 next readings leave the same buffer.
use Prim.Native.Nat.{ℕ, suc, ◌+◌, ◌*◌, ◌-◌, ◌<◌, ◌≤◌}
use native.Mathlib.Omega.{arith}
use mathlib.Core.Path.{◌≡◌, refl}
use mathlib.Core.List.{List, ◌∷◌, ◌++◌}
use borrow.Author.Tests.{ne_eqb, le-ltb}
use lib.ListN.{length, drop, replicate}
use Rattle.vpg.specs.believed.Grammar.{Grammar}
use Rattle.vpg.specs.Runs.{entries}
use Rattle.history_file.specs.believed.HistoryFile.{tokens_of}
use Rattle.files.specs.believed.Files.{Files, accepted}
use Rattle.files.specs.believed.Files as files
use Rattle.listing_model.specs.believed.Listing.{entry}
use Rattle.calls.specs.believed.CallList.{calls_due}
use Rattle.calls.proofs.All.{each_entry}
use Rattle.service.specs.believed.Given.{Given, written, untouched}
use Rattle.service.specs.believed.Opened.{files_in, opened, served}
use Rattle.reading_counts.specs.believed.Numbered.{numbered, reading_due}

module _ (buf : List ℕ) (i : ℕ) where
  -- reading i + 1, from what both files say
  abbrev reading_from : Files → Given Unit × List ℕ
  reading_from f = served (untouched buf) (λ g w. numbered (entries g w) (suc i) (length w + 1) buf) (opened 1 (length buf) f)

  -- where it is given: both files pass, the buffer has room, and there are so many readings
  pub record Found (f : Files) : Type 0 where
    pub grammar : Grammar
    pub tokens : List ℕ
    pub passed : f ≡ accepted grammar tokens
    pub room : length tokens < length buf
    pub many : suc i ≤ length (entries grammar (tokens_of tokens))

  found : (f : Files) → (reading_from f).0 ≡ written → Found f
  found (files.refused e) q = cc
  found (accepted g ts) q = record { grammar = g; tokens = ts; passed = refl; room = grind arith; many = grind arith }

-- document 02, 2.6: "it is what the stepwise listing has at k"; k is i + 1
pub reading_stepwise : (grammar history answers buf : List ℕ) (i : ℕ) → suc i ≤ length answers → (reading_due grammar history (suc i) buf).0 ≡ written →
    calls_due grammar history (0 ∷ replicate i 1) answers buf ≡ (written, replicate (suc i) 0 ++ drop (suc i) answers, (reading_due grammar history (suc i) buf).1)
reading_stepwise grammar history answers buf i space given = go (found buf i (files_in grammar history) given)
  where
    go : Found buf i (files_in grammar history) → calls_due grammar history (0 ∷ replicate i 1) answers buf ≡ (written, replicate (suc i) 0 ++ drop (suc i) answers, (reading_due grammar history (suc i) buf).1)
    go x =
        let l = entries x.grammar (tokens_of x.tokens) in
        let n : length (tokens_of x.tokens) + 1 ≡ suc (length (tokens_of x.tokens)) = omega arith in
        let left : (reading_due grammar history (suc i) buf).1 ≡ entry l (suc i) ++ drop (suc (length (tokens_of x.tokens))) buf =
        rw (x.passed, le-ltb (length buf) (1 * (length x.tokens + 1)) (grind arith), ne_eqb (suc i) 0 (λ d. omega arith), le-ltb (length l) (suc i) x.many, n) in
        rw left (each_entry grammar history x.grammar x.tokens x.passed answers buf x.room (length l - 1) (grind arith) i (grind arith) space)
