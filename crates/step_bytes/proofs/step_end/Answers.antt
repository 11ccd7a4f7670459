-- `step_bytes::step_end` meets its contract.
use native.Mathlib.Omega.{arith}
use mathlib.Core.Path.{sym, ap, ◌∙◌}
use lib.ListN.{get_or}
use Rattle.step_bytes.proofs.Loops.{depth_most, search_goes, search_finds, search-ends}
use Rattle.step_bytes.specs.Places.{ended}
use Rattle.step_bytes.proofs.step_end.Goals as goal

pub returns-then-depth-eq0 : goal.returns-then-depth-eq0
returns-then-depth-eq0 c =
    let zero_left = sym c.steps_open-depth.ensures ∙ c.if-depth-eq0.true in
    ap ended (sym (search_finds c.args.tokens.now c.loop-i.depth c.loop-i.i c.loop-i-test.true c.loop-i.invariant.1 zero_left))

pub loop-i-preserved : goal.loop-i-preserved
loop-i-preserved c =
    let t = get_or c.args.tokens.now c.loop-i.i 0 in (
      omega (arith, c.loop-i.invariant.0, c.steps_open-depth.ensures, depth_most t c.loop-i.depth),
      rw c.steps_open-depth.ensures (search_goes c.args.tokens.now c.loop-i.depth c.loop-i.i c.loop-i-test.true c.loop-i.invariant.1 (λ z. c.if-depth-eq0.false (c.steps_open-depth.ensures ∙ z))),
    )

pub returns : goal.returns
returns c =
    ap ended (sym (search-ends c.args.tokens.now c.loop-i.depth c.loop-i.i c.loop-i-test.false c.loop-i.invariant.1))
