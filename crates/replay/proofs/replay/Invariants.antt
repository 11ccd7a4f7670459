-- `replay::replay` meets its contract.
use Prim.Native.Nat.{suc}
use lib.ListN.{length, take}
use Rattle.replay.proofs.Replaying.{Replaying}
use Rattle.replay.proofs.replay.Given as goal

abbrev pub invariant-loop-p : goal.invariant-loop-p
invariant-loop-p l = Replaying l.input.grammar.table.now l.input.grammar.head l.input.tokens.now (take (suc (length l.input.tokens.now)) l.reading) l.replayed.at l.replayed.behind l.p
