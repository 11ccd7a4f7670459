-- `rule_index::ends_of` meets its contract.
use Rattle.rule_index.specs.Building.{EndsBelow}
use Rattle.rule_index.proofs.ends_of.Given as goal

abbrev pub invariant-loop-nonterminal : goal.invariant-loop-nonterminal
invariant-loop-nonterminal l = EndsBelow l.table l.rules l.nonterminal l.word
