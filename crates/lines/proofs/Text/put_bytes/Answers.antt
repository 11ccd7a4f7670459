use Rattle.std.proofs.Common.{arith}
use Rattle.lines.proofs.Laying.{lays_none, lays_byte}
use Rattle.lines.proofs.Text.put_bytes.Goals as goal

pub loop-b-init : goal.loop-b-init
loop-b-init g c = lays_none

pub loop-b-preserved : goal.loop-b-preserved
loop-b-preserved g c = lays_byte c.args.bytes.now c.loop-b.b-index (omega arith) c.loop-b.invariant c.put_byte.ensures
