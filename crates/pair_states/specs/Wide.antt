-- The grammar of a table as pair states have it: every number that a word has a digit for is a nonterminal, whatever the grammar's own count.
-- Law: proper (pair_states/proofs/Grammars.antt)
use Rattle.vpg.specs.believed.Grammar.{Grammar}
use Rattle.tables.specs.declared.Head.{Head}
use Rattle.tables.specs.declared.Table.{Table}
use Rattle.tables.specs.Ready.{rules_of}

abbrev pub wide_grammar : Table → Head → Grammar
wide_grammar table head = record { nonterminals = 32; well = head.well; start = head.start; rules = rules_of table head }
