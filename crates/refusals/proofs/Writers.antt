-- The number of a writer is one of its file's but 2, or 15, and its answer can be read back from number and length.
use Prim.Native.Nat.{ℕ}
use native.Mathlib.Omega.{arith}
use mathlib.Core.Path.{◌≡◌, refl}
use mathlib.Core.Logic.{◌≢◌, ◌⊎◌, inl, inr}
use mathlib.Core.List.{List, ◌∷◌}
use lib.Dec.{ltb}
use lib.ListN.{length}
use Rattle.numbers.specs.Written.{written}
use Rattle.elements.specs.believed.Elements.{element_at, elements}
use Rattle.grammar_file.specs.believed.GrammarFile.{GrammarFile, grammar_from}
use Rattle.grammar_file.specs.Wellformed.{numbers_of}
use Rattle.history_file.specs.believed.HistoryFile.{HistoryFile, history_from}
use Rattle.service.specs.believed.Given.{Given, given, refused}
use Rattle.writers.specs.believed.Writers.{filled, grammar_filled, history_filled, grammar_written, history_written}
use Rattle.replies.specs.believed.Wire.{length_wire}
use Rattle.refusals.specs.Codes.{GrammarWriteNumbered, HistoryWriteNumbered, given_of}
use Rattle.refusals.proofs.Files.{OfGiven}
use Rattle.refusals.proofs.Readers.{chosen, OfRead, OfGrammar, OfHistory, grammar_from_of, history_from_of}

-- ── the numbers ──

element_of : (P : ℕ → Type 0) → P 1 → (es : List ℕ) (at : ℕ) → OfRead P (element_at es at)
unfolding element_at
element_of P one es at = chosen (OfRead P) (ltb at (length es)) tt one

filled_of : (P : ℕ → Type 0) → P 15 → (file buffer : List ℕ) → OfGiven P (filled file buffer).0
filled_of P fifteen file buffer = chosen (λ (x : Given ℕ × List ℕ). OfGiven P x.0) (ltb (length buffer) (length file)) fifteen tt

grammar_write_numbers : (es buffer : List ℕ) → OfGiven GrammarWriteNumbered (grammar_written es buffer).0
grammar_write_numbers es buffer =
    go (grammar_from (elements es))
    (grammar_from_of GrammarWriteNumbered (elements es) (element_of GrammarWriteNumbered (inl refl) es) (λ e h. inr (inl h)))
  where
    go : (f : GrammarFile) → OfGrammar GrammarWriteNumbered f → OfGiven GrammarWriteNumbered (grammar_filled f buffer).0
    go (GrammarFile.refused e) h = h
    go (GrammarFile.accepted g) h = filled_of GrammarWriteNumbered (inr (inr refl)) (written (numbers_of g)) buffer

history_write_numbers : (es buffer : List ℕ) → OfGiven HistoryWriteNumbered (history_written es buffer).0
history_write_numbers es buffer =
    go (history_from (elements es))
    (history_from_of HistoryWriteNumbered (elements es) (element_of HistoryWriteNumbered (inl refl) es) (λ e h. inr (omega arith)))
  where
    go : (f : HistoryFile) → OfHistory HistoryWriteNumbered f → OfGiven HistoryWriteNumbered (history_filled f buffer).0
    go (HistoryFile.refused e) h = h
    go (HistoryFile.accepted ts) h = filled_of HistoryWriteNumbered (inr (omega arith)) (written (length ts ∷ ts)) buffer

-- ── the codes ──

-- the number is 0 or one of these, and number and length together say the answer
pub record WriteCode (P : ℕ → Type 0) (x : Given ℕ) : Type 0 where
  pub one_of : ((length_wire x).answer ≡ 0) ⊎ P (length_wire x).answer
  pub back : given_of (length_wire x).answer (length_wire x).length ≡ x

write_codes : (P : ℕ → Type 0) → ((k : ℕ) → P k → k ≢ 0) → (x : Given ℕ) → OfGiven P x → WriteCode P x
write_codes P above (given n) h = record { one_of = inl refl; back = refl }
write_codes P above (refused k) h = record { one_of = inr h; back = grind (arith, above) }

pub grammar_write_codes : (es buffer : List ℕ) → WriteCode GrammarWriteNumbered (grammar_written es buffer).0
grammar_write_codes es buffer = write_codes GrammarWriteNumbered (λ k h q. grind arith) (grammar_written es buffer).0 (grammar_write_numbers es buffer)

pub history_write_codes : (es buffer : List ℕ) → WriteCode HistoryWriteNumbered (history_written es buffer).0
history_write_codes es buffer = write_codes HistoryWriteNumbered (λ k h q. grind arith) (history_written es buffer).0 (history_write_numbers es buffer)
