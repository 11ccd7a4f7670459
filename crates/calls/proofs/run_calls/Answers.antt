-- `calls::run_calls` meets its contract.
use native.Mathlib.Omega.{arith}
use Rattle.calls.proofs.Lists.{calling_next, calling_end}
use Rattle.calls.proofs.run_calls.Goals as goal

pub loop-i-preserved : goal.loop-i-preserved
loop-i-preserved c =
    calling_next c.args.grammar.now c.args.history.now c.args.calls.now c.args.answers.now c.args.buffer.now c.if-answers-calls.false c.loop-i.invariant c.loop-i-test.true c.call.result _ c.buffer-1.given c.call.ensures

pub returns : goal.returns
returns c =
    calling_end c.args.grammar.now c.args.history.now c.args.calls.now c.args.answers.now c.args.buffer.now c.if-answers-calls.false c.loop-i.invariant (omega arith)
