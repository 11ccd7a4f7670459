-- The set that the service writes, of its bits: a rule's bit at a position is 1 exactly where some entry has the rule there.
use Prim.Native.Nat.{ℕ, ◌+◌, ◌*◌, ◌/◌, ◌%◌, ◌^◌, ◌<◌, ◌≤◌}
use native.Mathlib.Omega.{arith}
use mathlib.Core.Path.{◌≡◌, sym, ◌∙◌, ap}
use mathlib.Core.Logic.{◌↔◌}
use mathlib.Core.Bool.{true}
use mathlib.Core.List.{List, ◌++◌, Memᴰ}
use mathlib.Core.Option.{some}
use borrow.Author.Tests.{eqb-true, eq-eqb, le-ltb}
use lib.ListN.{length, get_or, drop, get_elem?, length-map, get_or-append}
use Rattle.vpg.specs.believed.Grammar.{Grammar}
use Rattle.vpg.specs.Runs.{entries}
use Rattle.sets_theory.specs.KeptTest.{kept}
use Rattle.sets_theory.specs.believed.Sets.{set_words}
use Rattle.sets_theory.proofs.Sets.{kept_entry}
use Rattle.sets_theory.proofs.Words.{set-bit, words_length}
use Rattle.history_file.specs.believed.HistoryFile.{token_of, tokens_of}
use Rattle.files.specs.believed.Files.{accepted}
use Rattle.service.specs.believed.Opened.{files_in}
use Rattle.sets.specs.believed.Sets.{sets_due}

module _ (grammar history words : List ℕ) (g : Grammar) (ts : List ℕ) (passed : files_in grammar history ≡ accepted g ts) (room : 4 * (length ts + 1) ≤ length words) where
  -- what the service leaves in the buffer
  left : (sets_due grammar history words).1 ≡ set_words g (tokens_of ts) ++ drop (4 * (length (tokens_of ts) + 1)) words
  left = rw (passed, le-ltb (length words) (4 * (length ts + 1)) room)

  module _ (p r : ℕ) (position : p ≤ length ts) (rule : r < 128) where
    bit_is : (get_or (sets_due grammar history words).1 (4 * p + r / 32) 0 / 2 ^ (r % 32) % 2 ≡ 1) ↔ (kept g (tokens_of ts) p r ≡ true)
    bit_is =
        let n : length (tokens_of ts) ≡ length ts = length-map ts token_of in
        let inside : 4 * p + r / 32 < length (set_words g (tokens_of ts)) = rw (words_length g (tokens_of ts), n) (omega arith) in
        let same : get_or (sets_due grammar history words).1 (4 * p + r / 32) 0 ≡ get_or (set_words g (tokens_of ts)) (4 * p + r / 32) 0 =
        ap (λ (l : List ℕ). get_or l (4 * p + r / 32) 0) left ∙ get_or-append (set_words g (tokens_of ts)) (drop (4 * (length (tokens_of ts) + 1)) words) 0 (4 * p + r / 32) inside in
        let said = set-bit g (tokens_of ts) p r (rw n position) rule in
        (λ h. sym said ∙ eq-eqb _ 1 (rw same at h), λ k. rw same (eqb-true _ 1 (said ∙ k)))

    -- "a rule is kept for a position when its bit there is 1, as the sets service writes it into a buffer of its own": exactly when some entry
    -- has the rule at that position
    pub kept-written :
        (get_or (sets_due grammar history words).1 (4 * p + r / 32) 0 / 2 ^ (r % 32) % 2 ≡ 1)
        ↔ ((e : List ℕ) × Memᴰ e (entries g (tokens_of ts)) × (get_elem? e p ≡ some r))
    kept-written = (λ h. (kept_entry g (tokens_of ts) p r).0 (bit_is.0 h), λ e. bit_is.1 ((kept_entry g (tokens_of ts) p r).1 e))
