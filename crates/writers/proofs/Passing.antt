-- A file that the reader lets through is the writing of what it says, so its own bytes are what is due, for a grammar in the longer form.
use Prim.Native.Nat.{ℕ}
use mathlib.Core.Path.{◌≡◌, refl, sym, ap, ◌∙◌}
use mathlib.Core.List.{List}
use native.Mathlib.Omega.{arith}
use lib.ListN.{get_or}
use Rattle.std.proofs.Common.{Fits, w8}
use Rattle.numbers.proofs.Written.{below_all}
use Rattle.std.specs.Prelude.{Result, Ok}
use Rattle.refusal.specs.declared.Refusal.{Refusal}
use Rattle.numbers.specs.Written.{AllBelow}
use Rattle.grammar_file.specs.believed.GrammarFile.{GrammarFile, grammar_of}
use Rattle.grammar_file.proofs.BothWays.{grammar_both_ways}
use Rattle.history_file.specs.believed.HistoryFile.{HistoryFile, history_of}
use Rattle.history_file.proofs.BothWays.{history_both_ways}
use Rattle.files.specs.declared.GrammarCounts.{GrammarCounts}
use Rattle.files.specs.believed.Checks.{grammar_said, grammar_due, history_said, history_due}
use Rattle.service.specs.believed.Given.{Given}
use Rattle.writers.specs.Longer.{longer_form}
use Rattle.writers.specs.believed.Writers.{filled, grammar_filled, history_filled}
use Rattle.writers.proofs.Longer.{longer_bytes}

module _ (s buffer : List ℕ) where
  small : ((i : ℕ) → Fits w8 (get_or s i 0)) → AllBelow 256 s
  small each = below_all 256 s (λ i. omega (arith, each i))

  module _ {r : Result GrammarCounts Refusal} (says : grammar_said r ≡ grammar_due (grammar_of s)) where
    pub grammar_passes : ((i : ℕ) → Fits w8 (get_or s i 0)) → {counts : GrammarCounts} → r ≡ Ok counts → {x : Given ℕ × List ℕ} → x ≡ filled (longer_form s) buffer → x ≡ grammar_filled (grammar_of s) buffer
    grammar_passes b {counts = counts} is said = said ∙ sym (go (grammar_of s) refl (sym (ap grammar_said is) ∙ says))
      where
        go : (f : GrammarFile) → grammar_of s ≡ f → grammar_said (Ok counts) ≡ grammar_due f → grammar_filled f buffer ≡ filled (longer_form s) buffer
        go (GrammarFile.accepted g) e q = let (f, w) = (grammar_both_ways s (small b) g).0 e in ap (λ l. filled l buffer) (sym (longer_bytes g w s f))
        go (GrammarFile.refused d) e q = absurd (let z : ◌≡◌ {A = ℕ} 0 1 = cc in omega arith)

  module _ {r : Result ℕ Refusal} (says : history_said r ≡ history_due (history_of s)) where
    pub history_passes : ((i : ℕ) → Fits w8 (get_or s i 0)) → {tokens : ℕ} → r ≡ Ok tokens → {x : Given ℕ × List ℕ} → x ≡ filled s buffer → x ≡ history_filled (history_of s) buffer
    history_passes b {tokens = tokens} is said = said ∙ sym (go (history_of s) refl (sym (ap history_said is) ∙ says))
      where
        go : (f : HistoryFile) → history_of s ≡ f → history_said (Ok tokens) ≡ history_due f → history_filled f buffer ≡ filled s buffer
        go (HistoryFile.accepted ts) e q = ap (λ l. filled l buffer) (sym ((history_both_ways s (small b) ts).0 e).0)
        go (HistoryFile.refused d) e q = absurd (let z : ◌≡◌ {A = ℕ} 0 1 = cc in omega arith)
