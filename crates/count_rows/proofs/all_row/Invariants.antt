-- `all_row`: before rule r those below it are added.
use Rattle.count_rows.specs.Rows.{allowed_by, InRow}
use Rattle.count_rows.proofs.Row.{Row}
use Rattle.count_rows.proofs.all_row.Given as goal

abbrev pub invariant-loop-r : goal.invariant-loop-r
invariant-loop-r l = InRow l.initial.rows l.context.position (Row l.grammar.head.well l.grammar.table.now (allowed_by l.alone l.context.position) l.context l.initial.rows l.context.position l.context.closing l.r) l.rows
