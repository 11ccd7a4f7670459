-- The choice count that the service gives, of its readings: it isn't 0 exactly where the history has more than one.
use Prim.Native.Nat.{ℕ, ◌<◌}
use mathlib.Core.Path.{◌≡◌}
use mathlib.Core.Logic.{◌↔◌}
use mathlib.Core.List.{List}
use Rattle.vpg.specs.believed.Grammar.{Grammar, Reading}
use Rattle.choice_theory.specs.Several.{Several}
use Rattle.choice_theory.proofs.Choices.{several-count, none-count}
use Rattle.sets_theory.specs.believed.Sets.{choice_count}
use Rattle.history_file.specs.believed.HistoryFile.{tokens_of}
use Rattle.files.specs.believed.Files.{accepted}
use Rattle.service.specs.believed.Given.{given}
use Rattle.service.specs.believed.Opened.{files_in}
use Rattle.sets.specs.believed.Sets.{count_due}

-- what the service gives on two files that pass
pub record Told (grammar history : List ℕ) (g : Grammar) (ts : List ℕ) : Type 0 where
  pub count : ℕ
  pub said : count_due grammar history ≡ given count
  -- document 02, 2.5: "a history has more than one reading exactly when it has a choice"
  pub several : Several g (tokens_of ts) ↔ (0 < count)
  -- and with no reading there is none
  pub none : ((e : List ℕ) → Reading g (tokens_of ts) e → ⊥) → count ≡ 0

pub choices-told : (grammar history : List ℕ) (g : Grammar) (ts : List ℕ) → files_in grammar history ≡ accepted g ts → Told grammar history g ts
choices-told grammar history g ts passed = record {
  count = choice_count g (tokens_of ts);
  said = rw passed;
  several = several-count g (tokens_of ts);
  none = none-count g (tokens_of ts);
}
