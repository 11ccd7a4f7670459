-- What the writers of the two files answer, and what they leave in the lent buffer (document 02, 2.2).
-- Clauses: 11.2 to 11.4 (docs/SPECIFICATION.md)
use Rattle.std.specs.Prelude.{ℕ, cond, List, ◌∷◌, ◌++◌, ltb, length, drop, Result}
use Rattle.numbers.specs.Written.{written}
use Rattle.refusal.specs.declared.Refusal.{Refusal}
use Rattle.elements.specs.believed.Elements.{elements}
use Rattle.grammar_file.specs.believed.GrammarFile.{GrammarFile, grammar_from}
use Rattle.grammar_file.specs.Wellformed.{numbers_of}
use Rattle.history_file.specs.believed.HistoryFile.{HistoryFile, history_from}
use Rattle.service.specs.believed.Given.{Given, given, said, untouched}

-- the length, or document 01's number, for each case of the answer
abbrev pub write_said : Result ℕ Refusal → Given ℕ
write_said r = said r

-- "the writer fills a lent buffer and tells its length .. and then gives 15 for a short buffer. Bytes past the written length stay"
abbrev pub filled : List ℕ → List ℕ → Given ℕ × List ℕ
filled file buffer = cond (ltb (length buffer) (length file)) (untouched buffer 15) (given (length file), file ++ drop (length file) buffer)

-- the file of a grammar; "it turns down what the reader would, by the same numbers"
abbrev pub grammar_filled : GrammarFile → List ℕ → Given ℕ × List ℕ
grammar_filled (GrammarFile.accepted g) buffer = filled (written (numbers_of g)) buffer
grammar_filled (GrammarFile.refused e) buffer = untouched buffer e

-- the file of token numbers
abbrev pub history_filled : HistoryFile → List ℕ → Given ℕ × List ℕ
history_filled (HistoryFile.accepted ts) buffer = filled (written (length ts ∷ ts)) buffer
history_filled (HistoryFile.refused e) buffer = untouched buffer e

-- "from the numbers of a file in their order, one element each"
abbrev pub grammar_written : List ℕ → List ℕ → Given ℕ × List ℕ
grammar_written numbers buffer = grammar_filled (grammar_from (elements numbers)) buffer

abbrev pub history_written : List ℕ → List ℕ → Given ℕ × List ℕ
history_written numbers buffer = history_filled (history_from (elements numbers)) buffer
