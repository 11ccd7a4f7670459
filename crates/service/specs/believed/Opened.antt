-- The opening of every service: "Grammar comes before history, both before 15" (document 01), and what a service gives from there on.
-- Clauses: 6.6, 6.7 (docs/SPECIFICATION.md)
use Rattle.std.specs.Prelude.{ℕ, ◌+◌, ◌*◌, cond, List, ltb, length}
use Rattle.vpg.specs.declared.Token.{Token}
use Rattle.vpg.specs.believed.Grammar.{Grammar}
use Rattle.grammar_file.specs.believed.GrammarFile.{grammar_of}
use Rattle.history_file.specs.believed.HistoryFile.{history_of, tokens_of}
use Rattle.files.specs.believed.Files.{Files, accepted, refused, files_of}

-- what both files say
abbrev pub files_in : List ℕ → List ℕ → Files
files_in grammar history = files_of (grammar_of grammar) (history_of history)

-- 15: "a lent buffer shorter than its service writes or reads, measured as if a reading existed": `each` elements for each of the n + 1
-- positions of n tokens; `size` is the buffer's length
abbrev pub opened : ℕ → ℕ → Files → Files
opened each size (refused e) = refused e
opened each size (accepted g ts) = cond (ltb size (each * (length ts + 1))) (refused 15) (accepted g ts)

-- what a service gives: `refuse` at the number due, else `serve` at the grammar and the tokens
abbrev pub served : {A : Type 0} → (ℕ → A) → (Grammar → List Token → A) → Files → A
served refuse serve (refused e) = refuse e
served refuse serve (accepted g ts) = serve g (tokens_of ts)
