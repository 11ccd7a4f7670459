use Rattle.std.proofs.Common.{take}
use Rattle.lines.specs.Lays.{Lays}
use Rattle.lines.proofs.Text.put_bytes.Given as goal

abbrev pub invariant-loop-b : goal.invariant-loop-b
invariant-loop-b g l = Lays g.W.Write.contents l.initial.self l.self (take l.b-index l.bytes)
