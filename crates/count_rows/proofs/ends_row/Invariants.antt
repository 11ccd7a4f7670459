-- `ends_row`: before nonterminal l the empty rules of those below it are added.
use Rattle.count_rows.specs.Rows.{allowed_by, InRow}
use Rattle.count_rows.proofs.Ends.{ends_below}
use Rattle.count_rows.proofs.ends_row.Given as goal

abbrev pub invariant-loop-l : goal.invariant-loop-l
invariant-loop-l l = InRow l.initial.rows l.context.position (ends_below l.grammar.table.now l.grammar.head.rules (allowed_by l.alone l.context.position) l.l) l.rows
