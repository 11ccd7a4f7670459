-- Document 02, 2.5, on single files: which positions are choices, and how many. `choices` in proofs/ has them all.
-- Law: choices (examples/proofs/Choices.antt)
use Rattle.std.specs.Prelude.{ℕ, suc, ◌≡◌, Bool, true, false, List, [], ◌∷◌, length}
use Rattle.sets_theory.specs.ChoiceTest.{choice}
use Rattle.sets_theory.specs.believed.Sets.{listed}
use Rattle.history_file.specs.believed.HistoryFile.{tokens_of}
use Rattle.files.specs.believed.Files.{Files}
use Rattle.service.specs.believed.Opened.{files_in}
use Rattle.examples.specs.Examples.{G, readings_of, choices_of}

-- of two files that pass: is it a choice, position by position
abbrev pub places_of : Files → List Bool
places_of (Files.accepted g ts) = listed (suc (length (tokens_of ts))) (choice g (tokens_of ts))
places_of (Files.refused e) = []

-- 3 4 / 1 0 0 1 / 1 0 0 2 / 0 1 / 0 2: the second position has two rules, of two stages
abbrev pub ends : List ℕ
ends = 3 ∷ 4 ∷ 1 ∷ 0 ∷ 0 ∷ 1 ∷ 1 ∷ 0 ∷ 0 ∷ 2 ∷ 0 ∷ 1 ∷ 0 ∷ 2 ∷ []

-- 4 8 / 2 0 0 1 0 3 / 2 0 0 2 0 3 / 1 1 0 3 / 1 1 0 1 / 0 1 / 1 2 0 3 / 0 3 / 0 2: the mark inside has rules 2 and 3 of one stage, and 5 of another
abbrev pub insides : List ℕ
insides = 4 ∷ 8 ∷ 2 ∷ 0 ∷ 0 ∷ 1 ∷ 0 ∷ 3 ∷ 2 ∷ 0 ∷ 0 ∷ 2 ∷ 0 ∷ 3 ∷ 1 ∷ 1 ∷ 0 ∷ 3 ∷ 1 ∷ 1 ∷ 0 ∷ 1 ∷ 0 ∷ 1 ∷ 1 ∷ 2 ∷ 0 ∷ 3 ∷ 0 ∷ 3 ∷ 0 ∷ 2 ∷ []

pub record Choices : Type 0 where
  -- "G with 3 1 0 2 has one choice, position 0"
  pub step : places_of (files_in G (3 ∷ 1 ∷ 0 ∷ 2 ∷ [])) ≡ true ∷ false ∷ false ∷ false ∷ []
  pub two_steps : places_of (files_in G (4 ∷ 1 ∷ 2 ∷ 1 ∷ 2 ∷ [])) ≡ true ∷ false ∷ true ∷ false ∷ false ∷ []
  pub two_steps_count : choices_of (files_in G (4 ∷ 1 ∷ 2 ∷ 1 ∷ 2 ∷ [])) ≡ 2 ∷ []
  -- no reading
  pub no_reading : readings_of (files_in G (1 ∷ 0 ∷ [])) ≡ []
  pub no_reading_count : choices_of (files_in G (1 ∷ 0 ∷ [])) ≡ 0 ∷ []
  pub two_ends : readings_of (files_in ends (1 ∷ 0 ∷ [])) ≡ (0 ∷ 2 ∷ []) ∷ (1 ∷ 3 ∷ []) ∷ []
  pub two-ends_places : places_of (files_in ends (1 ∷ 0 ∷ [])) ≡ true ∷ false ∷ []
  pub two-insides : readings_of (files_in insides (3 ∷ 1 ∷ 0 ∷ 2 ∷ [])) ≡ (0 ∷ 2 ∷ 6 ∷ 6 ∷ []) ∷ (0 ∷ 3 ∷ 4 ∷ 6 ∷ []) ∷ (1 ∷ 5 ∷ 6 ∷ 6 ∷ []) ∷ []
  pub two-insides_places : places_of (files_in insides (3 ∷ 1 ∷ 0 ∷ 2 ∷ [])) ≡ true ∷ true ∷ false ∷ false ∷ []
  pub two-insides-count : choices_of (files_in insides (3 ∷ 1 ∷ 0 ∷ 2 ∷ [])) ≡ 2 ∷ []
