-- `rule_index::add_rules` meets its contract.
use Rattle.rule_index.specs.Building.{SameRules, IndexedFrom}
use Rattle.rule_index.proofs.add_rules.Given as goal

abbrev pub invariant-loop-r : goal.invariant-loop-r
invariant-loop-r l = SameRules l.initial.table l.table × IndexedFrom l.table l.fn.head.rules l.r
