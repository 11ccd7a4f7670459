-- `step_bytes::part_at` meets its contract.
use Prim.Native.Nat.{◌+◌, ◌-◌}
use mathlib.Core.Path.{◌≡◌}
use native.Mathlib.Omega.{arith}
use lib.ListN.{length}
use Rattle.numbers.proofs.Written.{shortest_most}
use Rattle.step_bytes.proofs.Steps.{part-start}
use Rattle.step_bytes.proofs.part_at.Goals as goal

pub overflow_add-result : goal.overflow_add-result
overflow_add-result c =
    omega (arith, c.size_of-first.ensures, shortest_most (length c.args.tokens.now), c.bytes_of-before.ensures.1)

pub returns : goal.returns
returns c =
    let e : c.args.position + c.args.count - c.args.position ≡ c.args.count = omega arith in
    simp (c.size_of-first.ensures, c.bytes_of-before.ensures.0, c.bytes_of.ensures.0, e, part-start c.args.tokens.now c.args.position)
