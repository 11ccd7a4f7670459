-- Document 02, 2.4, on single files: numbers of three bytes, and names that differ only in high bits. `wide-names` in proofs/ has them all.
-- Law: wide-names (examples/proofs/WideNames.antt)
use Rattle.std.specs.Prelude.{ℕ, ◌≡◌, List, [], ◌∷◌}
use Rattle.service.specs.believed.Opened.{files_in}
use Rattle.grammar_file.specs.believed.GrammarFile.{GrammarFile, grammar_of}
use Rattle.history_file.specs.believed.HistoryFile.{HistoryFile, history_of}
use Rattle.vpg.specs.declared.Rule.{Rule}
use Rattle.vpg.specs.declared.Token.{Token}
use Rattle.examples.specs.Examples.{readings_of}

-- one stage, with the marks 1 and 257: 1 3 / 0 0 / 1 0 1 0 / 1 0 129 2 0
abbrev pub marks : List ℕ
marks = 1 ∷ 3 ∷ 0 ∷ 0 ∷ 1 ∷ 0 ∷ 1 ∷ 0 ∷ 1 ∷ 0 ∷ 129 ∷ 2 ∷ 0 ∷ []

-- one stage, with steps that open by 40,000 and close by 65,535 or 32,767: 1 3 / 0 0 / 2 0 192 184 2 0 255 255 3 0 / 2 0 192 184 2 0 255 255 1 0
abbrev pub closes : List ℕ
closes = 1 ∷ 3 ∷ 0 ∷ 0 ∷ 2 ∷ 0 ∷ 192 ∷ 184 ∷ 2 ∷ 0 ∷ 255 ∷ 255 ∷ 3 ∷ 0 ∷ 2 ∷ 0 ∷ 192 ∷ 184 ∷ 2 ∷ 0 ∷ 255 ∷ 255 ∷ 1 ∷ 0 ∷ []

pub record WideNames : Type 0 where
  -- 2: "a last byte of 0 after another byte, or a third byte with its top bit set"
  pub two_bytes-zero : history_of (128 ∷ 0 ∷ []) ≡ HistoryFile.refused 2
  pub three_bytes-zero : history_of (128 ∷ 128 ∷ 0 ∷ []) ≡ HistoryFile.refused 2
  pub third_top_bit : history_of (128 ∷ 128 ∷ 128 ∷ []) ≡ HistoryFile.refused 2
  pub two_bytes_cut : history_of (128 ∷ 128 ∷ []) ≡ HistoryFile.refused 1
  pub token_count : history_of (128 ∷ 128 ∷ 1 ∷ []) ≡ HistoryFile.refused 10
  -- 11 "moves to names above 65,535, with kind 3 refused as before"
  pub token_16384 : history_of (1 ∷ 128 ∷ 128 ∷ 1 ∷ []) ≡ HistoryFile.accepted (16384 ∷ [])
  pub largest_names : history_of (2 ∷ 253 ∷ 255 ∷ 15 ∷ 254 ∷ 255 ∷ 15 ∷ []) ≡ HistoryFile.accepted (262141 ∷ 262142 ∷ [])
  pub token_262143 : history_of (1 ∷ 255 ∷ 255 ∷ 15 ∷ []) ≡ HistoryFile.refused 11
  pub token_262144 : history_of (1 ∷ 128 ∷ 128 ∷ 16 ∷ []) ≡ HistoryFile.refused 11
  -- so does 7
  pub name_65535 :
      grammar_of (1 ∷ 1 ∷ 1 ∷ 0 ∷ 255 ∷ 255 ∷ 3 ∷ 0 ∷ [])
      ≡ GrammarFile.accepted (record { nonterminals = 1; well = 1; start = 0; rules = Rule.Next 0 (Token.Mark (record { 0 = 65535 })) 0 ∷ [] })
  pub name_65536 : grammar_of (1 ∷ 1 ∷ 1 ∷ 0 ∷ 128 ∷ 128 ∷ 4 ∷ 0 ∷ []) ≡ GrammarFile.refused 7
  -- "no name loses a bit": marks 1, 257, 16,385 and 65,281
  pub mark_1 : readings_of (files_in marks (1 ∷ 4 ∷ [])) ≡ (1 ∷ 0 ∷ []) ∷ []
  pub mark_257 : readings_of (files_in marks (1 ∷ 132 ∷ 8 ∷ [])) ≡ (2 ∷ 0 ∷ []) ∷ []
  pub mark_16385 : readings_of (files_in marks (1 ∷ 132 ∷ 128 ∷ 4 ∷ [])) ≡ []
  pub mark_65281 : readings_of (files_in marks (1 ∷ 132 ∷ 248 ∷ 15 ∷ [])) ≡ []
  -- closes 65,535, 32,767 and 65,279
  pub close_65535 : readings_of (files_in closes (2 ∷ 129 ∷ 226 ∷ 9 ∷ 254 ∷ 255 ∷ 15 ∷ [])) ≡ (1 ∷ 0 ∷ 0 ∷ []) ∷ []
  pub close_32767 : readings_of (files_in closes (2 ∷ 129 ∷ 226 ∷ 9 ∷ 254 ∷ 255 ∷ 7 ∷ [])) ≡ (2 ∷ 0 ∷ 0 ∷ []) ∷ []
  pub close_65279 : readings_of (files_in closes (2 ∷ 129 ∷ 226 ∷ 9 ∷ 254 ∷ 247 ∷ 15 ∷ [])) ≡ []
