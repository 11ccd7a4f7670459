-- `marks`. The invariant: the words are those of a configuration, and the marks written, with those that it gives for the tokens left, are all.
use native.Mathlib.Omega.{arith}
use mathlib.Core.Path.{◌≡◌, refl}
use lib.ListN.{length}
use Rattle.stop_marks_core.proofs.Turns.{depth-next, first-turn, next-turn, last_turn}
use Rattle.stop_marks_core.proofs.marks.Goals as goal

pub loop-i-init : goal.loop-i-init
loop-i-init c = first-turn _ _ _ _ c.args.grammar.now.indexed _ c.new-stack.result c.begin-first.ensures c.requires.shallow c.new-stack.ensures

pub step-requires : goal.step-requires
step-requires c = rw c.token_of-token.ensures (depth-next c.loop-i.invariant c.loop-i-test.true)

pub loop-i-preserved : goal.loop-i-preserved
loop-i-preserved c =
    rw c.swap.ensures.x_after
    (next-turn _ _ _ _ _ _ _ _ _ c.requires.tokens_in_bounds c.loop-i.invariant c.args.grammar.now.indexed (rw c.ends-empties.ensures at c.mark_of.ensures) _ _ c.loop-i-test.true (rw c.token_of-token.ensures at c.step.ensures))

pub returns : goal.returns
returns c =
    let end : c.loop-i.i ≡ length c.args.tokens.now = omega arith in
    last_turn _ _ _ _ _ _ _ _ _ c.requires.tokens_in_bounds (rw end at c.loop-i.invariant) c.args.grammar.now.indexed (rw c.ends-empties.ensures at c.mark_of-2.ensures) refl
