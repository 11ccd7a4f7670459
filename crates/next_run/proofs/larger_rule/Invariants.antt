-- `next_run::larger_rule` meets its contract.
use lib.ListN.{get_or}
use Rattle.tables.specs.Table.{rule_in}
use Rattle.rule_index.specs.Classes.{class_of}
use Rattle.rule_index.proofs.Walk.{Along}
use Rattle.next_run.proofs.Positions.{Walked}
use Rattle.next_run.proofs.larger_rule.Given as goal

abbrev pub invariant-loop-r : goal.invariant-loop-r
invariant-loop-r l =
    Along l.input.grammar.table.now l.input.grammar.head.rules (class_of (rule_in l.input.grammar.table.now (get_or l.reading l.p 0)))
    (Walked l.input.grammar.table.now l.input.grammar.head l.at l.reading l.p l.context) l.r-iterator
