-- The whole listing of two files (document 01, "The listing program").
-- Clauses: 9.3 to 9.6 (docs/SPECIFICATION.md)
use Rattle.std.specs.Prelude.{ℕ, zero, suc, List, [], ◌∷◌, ◌++◌, length}
use Rattle.vpg.specs.Runs.{entries}
use Rattle.sets_theory.specs.believed.Sets.{choice_count}
use Rattle.grammar_file.specs.believed.GrammarFile.{GrammarFile, grammar_of}
use Rattle.history_file.specs.believed.HistoryFile.{HistoryFile, history_of, tokens_of}
use Rattle.lines.specs.believed.Text.{tokens_line, choices_line, none_line, reading_line, end_line, more_line, refused_grammar_line, refused_history_line}

-- the readings behind the first k, of which `left` may still be listed: "each reading's place in the order and its rule numbers, and how many
-- were printed"; "after 1,000 readings with another to follow, the last line is more 1000"
unfoldable pub listed_from : ℕ → ℕ → List (List ℕ) → List ℕ
listed_from left k [] = end_line k
listed_from zero k (e ∷ l) = more_line k
listed_from (suc left) k (e ∷ l) = reading_line (suc k) e ++ listed_from left (suc k) l

abbrev pub most_listed : ℕ
most_listed = 1000

-- k: the choice count. "With no reading: tokens n, none"
abbrev pub readings_listed : ℕ → List (List ℕ) → List ℕ
readings_listed k [] = none_line
readings_listed k (e ∷ l) = choices_line k ++ listed_from most_listed 0 (e ∷ l)

-- "refused grammar K or refused history K alone, K the number"; "grammar comes before history"
abbrev pub files_listed : GrammarFile → HistoryFile → List ℕ
files_listed (GrammarFile.refused k) h = refused_grammar_line k
files_listed (GrammarFile.accepted g) (HistoryFile.refused k) = refused_history_line k
files_listed (GrammarFile.accepted g) (HistoryFile.accepted ts) =
    tokens_line (length ts) ++ readings_listed (choice_count g (tokens_of ts)) (entries g (tokens_of ts))

-- from the bytes of both files
abbrev pub listing : List ℕ → List ℕ → List ℕ
listing grammar history = files_listed (grammar_of grammar) (history_of history)
