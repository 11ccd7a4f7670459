-- `next_run::last_position` meets its contract.
use Rattle.history_file.specs.believed.HistoryFile.{tokens_of}
use Rattle.next_run.specs.Next.{NoneFrom}
use Rattle.next_run.proofs.last_position.Given as goal

abbrev pub invariant-loop-p : goal.invariant-loop-p
invariant-loop-p l = NoneFrom l.input.grammar.table.now l.input.grammar.head (tokens_of l.input.tokens.now) l.at l.reading l.p
