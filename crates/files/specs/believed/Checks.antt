-- What the two checks answer (document 01, "Services": "accepted, with the counts, or a number").
-- Clauses: 7.2, 7.3 (docs/SPECIFICATION.md)
use Rattle.std.specs.Prelude.{ℕ, List, [], ◌∷◌, length, Result, Ok, Err}
use Rattle.refusal.specs.declared.Refusal.{Refusal}
use Rattle.refusal.specs.believed.Refusal.{number}
use Rattle.grammar_file.specs.believed.GrammarFile.{GrammarFile}
use Rattle.history_file.specs.believed.HistoryFile.{HistoryFile}
use Rattle.files.specs.declared.GrammarCounts.{GrammarCounts}

-- "accepted, with the counts, or a number"
pub data Verdict : Type 0 where
  accepted : List ℕ → Verdict
  refused : ℕ → Verdict

-- this paper's number and values for each case of the answer: the stage count and the rule count
abbrev pub grammar_said : Result GrammarCounts Refusal → Verdict
grammar_said (Ok c) = accepted (c.stages ∷ c.rules ∷ [])
grammar_said (Err e) = refused (number e)

-- what is due for a grammar file
abbrev pub grammar_due : GrammarFile → Verdict
grammar_due (GrammarFile.accepted g) = accepted (g.nonterminals ∷ length g.rules ∷ [])
grammar_due (GrammarFile.refused e) = refused e

-- the token count
abbrev pub history_said : Result ℕ Refusal → Verdict
history_said (Ok tokens) = accepted (tokens ∷ [])
history_said (Err e) = refused (number e)

-- what is due for a history file
abbrev pub history_due : HistoryFile → Verdict
history_due (HistoryFile.accepted ts) = accepted (length ts ∷ [])
history_due (HistoryFile.refused e) = refused e
