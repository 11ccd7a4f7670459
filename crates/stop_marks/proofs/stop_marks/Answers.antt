-- `stop_marks::stop_marks` meets its contract.
use Rattle.stop_marks_core.proofs.Depths.{wellformed_shallow}
use Rattle.stop_marks.proofs.stop_marks.Goals as goal

pub marks-requires-clause-shallow : goal.marks-requires-clause-shallow
marks-requires-clause-shallow c = wellformed_shallow _ c.in_ok-opened.opened.passed.wellformed
