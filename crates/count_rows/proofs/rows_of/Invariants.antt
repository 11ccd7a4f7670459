-- `rows_of`: before position i the pass stands where `Passing` says.
use Rattle.tables.specs.Ready.{rules_of}
use Rattle.history_file.specs.believed.HistoryFile.{tokens_of}
use Rattle.count_rows.specs.Rows.{allowed_by}
use Rattle.count_rows.proofs.Pass.{Passing}
use Rattle.count_rows.proofs.rows_of.Given as goal

abbrev pub invariant-loop-i : goal.invariant-loop-i
invariant-loop-i l = Passing (allowed_by l.alone) l.input.grammar.head.well (rules_of l.input.grammar.table.now l.input.grammar.head) (tokens_of l.input.tokens.now) l.rows l.i
