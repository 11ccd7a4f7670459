-- The two files together: "Grammar comes before history" (document 01, "Who can be turned down, and by which number").
-- Clauses: 6.6 (docs/SPECIFICATION.md)
use Rattle.std.specs.Prelude.{ℕ, List}
use Rattle.grammar_file.specs.believed.GrammarFile.{GrammarFile}
use Rattle.history_file.specs.believed.HistoryFile.{HistoryFile}
use Rattle.vpg.specs.believed.Grammar.{Grammar}

-- the grammar and the token numbers, or the first refusal
pub data Files : Type 0 where
  accepted : Grammar → List ℕ → Files
  refused : ℕ → Files

abbrev pub files_of : GrammarFile → HistoryFile → Files
files_of (GrammarFile.refused e) h = refused e
files_of (GrammarFile.accepted g) (HistoryFile.refused e) = refused e
files_of (GrammarFile.accepted g) (HistoryFile.accepted ts) = accepted g ts
