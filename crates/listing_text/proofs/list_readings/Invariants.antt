use Rattle.std.proofs.Common.{length}
use Rattle.vpg.specs.Runs.{entries}
use Rattle.tables.specs.Ready.{grammar_in}
use Rattle.history_file.specs.believed.HistoryFile.{tokens_of}
use Rattle.listing_text.proofs.Turns.{Turns}
use Rattle.listing_text.proofs.list_readings.Given as goal

abbrev pub invariant-loop-k : goal.invariant-loop-k
invariant-loop-k g l = Turns g.W.Write.contents (entries (grammar_in l.input.grammar.table.now l.input.grammar.head) (tokens_of l.input.tokens.now)) (length l.input.tokens.now) l.initial.text l.reading l.text l.k
