-- Document 01's checked examples, those marked there with a star: `examples` in proofs/ has them all.
-- Law: examples (examples/proofs/Examples.antt)
use Rattle.std.specs.Prelude.{ℕ, ◌≡◌, List, [], ◌∷◌}
use Rattle.vpg.specs.declared.Rule.{Rule}
use Rattle.vpg.specs.declared.Token.{Token}
use Rattle.vpg.specs.believed.Grammar.{Grammar}
use Rattle.listing_model.specs.believed.Listing.{first, next, no_reading, no_further, refused}
use Rattle.listing_model.specs.Calls.{call_on}
use Rattle.vpg.specs.Runs.{entries}
use Rattle.sets_theory.specs.believed.Sets.{choice_count, stop_marks}
use Rattle.files.specs.believed.Files.{Files}
use Rattle.service.specs.believed.Opened.{files_in}
use Rattle.readings.specs.believed.Answers.{subject}
use Rattle.grammar_file.specs.believed.GrammarFile.{GrammarFile, grammar_of}
use Rattle.history_file.specs.believed.HistoryFile.{HistoryFile, history_of, tokens_of}

-- "G below is the 28 bytes 3 7 / 0 0 / 2 0 0 1 0 0 / 2 0 0 2 0 0 / 1 1 0 1 / 0 1 / 1 2 0 2 / 0 2 (decimal)"
abbrev pub G : List ℕ
G = 3 ∷ 7 ∷ 0 ∷ 0 ∷ 2 ∷ 0 ∷ 0 ∷ 1 ∷ 0 ∷ 0 ∷ 2 ∷ 0 ∷ 0 ∷ 2 ∷ 0 ∷ 0 ∷ 1 ∷ 1 ∷ 0 ∷ 1 ∷ 0 ∷ 1 ∷ 1 ∷ 2 ∷ 0 ∷ 2 ∷ 0 ∷ 2 ∷ []

-- the grammar that G describes
abbrev pub grammar_g : Grammar
grammar_g = record {
  nonterminals = 3;
  well = 3;
  start = 0;
  rules =
      Rule.Empty 0
      ∷ Rule.Step 0 (record { 0 = 0 }) 1 (record { 0 = 0 }) 0
      ∷ Rule.Step 0 (record { 0 = 0 }) 2 (record { 0 = 0 }) 0
      ∷ Rule.Next 1 (Token.Mark (record { 0 = 0 })) 1
      ∷ Rule.Empty 1
      ∷ Rule.Next 2 (Token.Mark (record { 0 = 0 })) 2
      ∷ Rule.Empty 2
      ∷ [];
}

-- of two files that pass: every reading in order, the choice count, the stop marks
abbrev pub readings_of : Files → List (List ℕ)
readings_of (Files.accepted g ts) = entries g (tokens_of ts)
readings_of (Files.refused e) = []

abbrev pub choices_of : Files → List ℕ
choices_of (Files.accepted g ts) = choice_count g (tokens_of ts) ∷ []
choices_of (Files.refused e) = []

abbrev pub marks_of : Files → List ℕ
marks_of (Files.accepted g ts) = stop_marks g (tokens_of ts)
marks_of (Files.refused e) = []

pub record Examples : Type 0 where
  pub G-is : grammar_of G ≡ GrammarFile.accepted grammar_g
  pub history_3_1_0_2 : history_of (3 ∷ 1 ∷ 0 ∷ 2 ∷ []) ≡ HistoryFile.accepted (1 ∷ 0 ∷ 2 ∷ [])
  pub history_1_2 : history_of (1 ∷ 2 ∷ []) ≡ HistoryFile.refused 12
  pub history_1_1 : history_of (1 ∷ 1 ∷ []) ≡ HistoryFile.refused 13
  pub history_1_3 : history_of (1 ∷ 3 ∷ []) ≡ HistoryFile.refused 11
  pub history_128 : history_of (128 ∷ []) ≡ HistoryFile.refused 1
  pub history_128_0 : history_of (128 ∷ 0 ∷ []) ≡ HistoryFile.refused 2
  pub grammar_1_2_0_0_0_0 : grammar_of (1 ∷ 2 ∷ 0 ∷ 0 ∷ 0 ∷ 0 ∷ []) ≡ GrammarFile.refused 8
  pub grammar_1_0 : grammar_of (1 ∷ 0 ∷ []) ≡ GrammarFile.refused 4
  -- "G, history 0: reading 0; marks 1"
  pub history_0 : readings_of (files_in G (0 ∷ [])) ≡ (0 ∷ []) ∷ []
  pub history_0_marks : marks_of (files_in G (0 ∷ [])) ≡ 1 ∷ []
  -- "G, 3 1 0 2: as above; marks 1 0 0 1"
  pub step : readings_of (files_in G (3 ∷ 1 ∷ 0 ∷ 2 ∷ [])) ≡ (1 ∷ 3 ∷ 4 ∷ 0 ∷ []) ∷ (2 ∷ 5 ∷ 6 ∷ 0 ∷ []) ∷ []
  pub step-choices : choices_of (files_in G (3 ∷ 1 ∷ 0 ∷ 2 ∷ [])) ≡ 1 ∷ []
  pub step-marks : marks_of (files_in G (3 ∷ 1 ∷ 0 ∷ 2 ∷ [])) ≡ 1 ∷ 0 ∷ 0 ∷ 1 ∷ []
  -- "G, 2 1 2: 1 4 0, then 2 6 0"
  pub empty_step : readings_of (files_in G (2 ∷ 1 ∷ 2 ∷ [])) ≡ (1 ∷ 4 ∷ 0 ∷ []) ∷ (2 ∷ 6 ∷ 0 ∷ []) ∷ []
  -- "G, 4 1 2 1 2: 1 4 1 4 0; 1 4 2 6 0; 2 6 1 4 0; 2 6 2 6 0"
  pub two_steps :
      readings_of (files_in G (4 ∷ 1 ∷ 2 ∷ 1 ∷ 2 ∷ []))
      ≡ (1 ∷ 4 ∷ 1 ∷ 4 ∷ 0 ∷ []) ∷ (1 ∷ 4 ∷ 2 ∷ 6 ∷ 0 ∷ []) ∷ (2 ∷ 6 ∷ 1 ∷ 4 ∷ 0 ∷ []) ∷ (2 ∷ 6 ∷ 2 ∷ 6 ∷ 0 ∷ []) ∷ []
  -- "Next after 2 6 2 6 0: no further", "Next after 1 4 1 4 1: 16"
  pub after_last :
      call_on (subject G (4 ∷ 1 ∷ 2 ∷ 1 ∷ 2 ∷ []) 5) next (2 ∷ 6 ∷ 2 ∷ 6 ∷ 0 ∷ []) ≡ (no_further, 2 ∷ 6 ∷ 2 ∷ 6 ∷ 0 ∷ [])
  pub after_none :
      call_on (subject G (4 ∷ 1 ∷ 2 ∷ 1 ∷ 2 ∷ []) 5) next (1 ∷ 4 ∷ 1 ∷ 4 ∷ 1 ∷ []) ≡ (refused 16, 1 ∷ 4 ∷ 1 ∷ 4 ∷ 1 ∷ [])
  -- "G, 1 0: none; marks 1 0"
  pub mark : call_on (subject G (1 ∷ 0 ∷ []) 2) first (9 ∷ 9 ∷ []) ≡ (no_reading, 9 ∷ 9 ∷ [])
  pub mark-marks : marks_of (files_in G (1 ∷ 0 ∷ [])) ≡ 1 ∷ 0 ∷ []
  -- "Grammar 1 1 1 0 0 0, history 0: none"
  pub no_end : call_on (subject (1 ∷ 1 ∷ 1 ∷ 0 ∷ 0 ∷ 0 ∷ []) (0 ∷ []) 1) first (9 ∷ []) ≡ (no_reading, 9 ∷ [])
