-- What `read_grammar` hands to the layers above: the head and the table of a grammar file.
-- Law: grammar_accepted, grammar_refused (grammar_file/proofs/Answers.antt)
use Rattle.std.specs.Prelude.{ℕ, ◌≤◌, ◌≡◌, [], Result, Ok, Err}
use Rattle.numbers.specs.believed.Number.{Source}
use Rattle.grammar_file.specs.believed.GrammarFile.{GrammarFile, accepted, refused, rules_from}
use Rattle.tables.specs.declared.Head.{Head}
use Rattle.tables.specs.declared.Table.{Table}
use Rattle.tables.specs.Table.{no_table, table_of}
use Rattle.tables.specs.Ready.{head_of}

-- the answer, with the number of a refusal, and what it leaves of the table: zeros where the file is refused
abbrev pub grammar_read : GrammarFile → Result Head ℕ × Table
grammar_read (accepted g) = (Ok (head_of g), table_of g.rules)
grammar_read (refused e) = (Err e, no_table)

-- what is known of a head before its rules are read
abbrev pub IsHead : Head → Type 0
IsHead head = (head.rules ≤ 128) × (head.well ≡ head.nonterminals)

-- what the rules behind a head make of the file
abbrev pub rules_of : Source → Head → ℕ → GrammarFile
rules_of x head at = rules_from x head.nonterminals head.start head.rules at []
