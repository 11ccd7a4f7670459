-- What every refusal of a service with both files has in common: a property of the files' numbers, and of 15, holds of each of its refusals.
use Prim.Native.Nat.{ℕ, ◌+◌, ◌*◌, ◌≤◌}
use native.Mathlib.Omega.{arith}
use mathlib.Core.Path.{◌≡◌, refl}
use mathlib.Core.Logic.{◌≢◌}
use mathlib.Core.List.{List}
use lib.Dec.{ltb}
use lib.ListN.{length}
use Rattle.vpg.specs.declared.Token.{Token}
use Rattle.vpg.specs.believed.Grammar.{Grammar}
use Rattle.grammar_file.specs.believed.GrammarFile.{GrammarFile, grammar_of}
use Rattle.grammar_file.specs.believed.GrammarFile as grammar-file
use Rattle.history_file.specs.believed.HistoryFile.{HistoryFile, history_of, tokens_of}
use Rattle.history_file.specs.believed.HistoryFile as history-file
use Rattle.files.specs.believed.Files.{Files, accepted, refused, files_of}
use Rattle.service.specs.believed.Given.{Given, given}
use Rattle.service.specs.believed.Given as service
use Rattle.service.specs.believed.Opened.{files_in, opened, served}
use Rattle.replies.specs.believed.Wire.{outcome_code}
use Rattle.refusals.specs.Codes.{outcome_of}
use Rattle.refusals.proofs.Readers.{chosen, OfGrammar, OfHistory, grammar_of_lem, history_of_lem}

module _ (P : ℕ → Type 0) where
  abbrev pub OfFiles : Files → Type 0
  OfFiles (accepted g ts) = Unit
  OfFiles (refused e) = P e

  -- of a service's answer
  abbrev pub OfGiven : {A : Type 0} → Given A → Type 0
  OfGiven (given x) = Unit
  OfGiven (service.refused k) = P k

  pub files_of_lem : ((e : ℕ) → (1 ≤ e) × (e ≤ 14) → P e) → (grammar history : List ℕ) → OfFiles (files_in grammar history)
  files_of_lem own grammar history =
      go (grammar_of grammar) (grammar_of_lem P (λ e h. own e (omega arith)) grammar) (history_of history)
      (history_of_lem P (own 1 (omega arith)) (own 2 (omega arith)) (λ e h. own e (omega arith)) history)
    where
      go : (a : GrammarFile) → OfGrammar P a → (b : HistoryFile) → OfHistory P b → OfFiles (files_of a b)
      go (grammar-file.refused e) p b q = p
      go (grammar-file.accepted g) p (history-file.refused e) q = q
      go (grammar-file.accepted g) p (history-file.accepted ts) q = tt

  pub opened_of : P 15 → (each size : ℕ) (f : Files) → OfFiles f → OfFiles (opened each size f)
  opened_of p each size (refused e) h = h
  opened_of p each size (accepted g ts) h = chosen OfFiles (ltb size (each * (length ts + 1))) p tt

  -- of what a service gives: what holds of each refusal by one of these numbers, and of whatever is served
  pub served_of :
      {A : Type 0} (Q : A → Type 0) (refuse : ℕ → A) (serve : Grammar → List Token → A) →
      ((k : ℕ) → P k → Q (refuse k)) → ((g : Grammar) (w : List Token) → Q (serve g w)) → (f : Files) → OfFiles f → Q (served refuse serve f)
  served_of Q refuse serve turned serves (refused e) h = turned e h
  served_of Q refuse serve turned serves (accepted g ts) h = serves g (tokens_of ts)

  -- an answer of a service that only writes, from its code
  pub outcome_back : ((k : ℕ) → P k → k ≢ 0) → (o : Given Unit) → OfGiven o → outcome_of (outcome_code o) ≡ o
  outcome_back nonzero (given x) h = refl
  outcome_back nonzero (service.refused k) h = grind (arith, nonzero)
