-- `ends_words`: on the way through the nonterminals that have an empty rule, the words have the rules of those that are passed.
use lib.Bits.{bit_and}
use Rattle.rule_set.proofs.Ends.{Gathered}
use Rattle.rule_set.proofs.ends_words.Given as goal

abbrev pub invariant-loop-due : goal.invariant-loop-due
invariant-loop-due l = Gathered l.grammar.table.now (bit_and l.here l.ends) l.due l.words

abbrev pub decreases-loop-due : goal.decreases-loop-due
decreases-loop-due l = l.due
