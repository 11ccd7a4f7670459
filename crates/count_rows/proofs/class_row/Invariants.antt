-- `class_row`: before rule r those of the class below it are added.
use Rattle.rule_index.specs.Classes.{class_at}
use Rattle.rule_index.proofs.Walk.{Along}
use Rattle.contexts.specs.Context.{token_here}
use Rattle.count_rows.specs.Rows.{allowed_by, InRow}
use Rattle.count_rows.proofs.Row.{Row}
use Rattle.count_rows.proofs.class_row.Given as goal

abbrev pub invariant-loop-r : goal.invariant-loop-r
invariant-loop-r l =
    Along l.grammar.table.now l.grammar.head.rules (class_at (token_here l.context))
    (λ n. InRow l.initial.rows l.context.position (Row l.grammar.head.well l.grammar.table.now (allowed_by l.alone l.context.position) l.context l.initial.rows l.context.position l.context.closing n) l.rows) l.r-iterator
