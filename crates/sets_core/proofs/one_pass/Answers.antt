-- `one_pass`: before position p the pass stands where `Passed` says.
use native.Mathlib.Omega.{arith}
use Rattle.sets_core.proofs.Pass.{onward_room}
use Rattle.sets_core.proofs.Passed.{passed_none, passed_few, passed_next, passed_all}
use Rattle.sets_core.proofs.one_pass.Goals as goal

pub loop-p-init : goal.loop-p-init
loop-p-init g c =
    rw c.start_set-here.ensures (passed_none c.args.input.now.setting (c.derives_all.ensures _ c.args.input.now.tokens.now c.args.input.now.setting.leveled))

pub counted-count-requires : goal.counted-count-requires
counted-count-requires g c =
    passed_few c.args.input.now.setting c.loop-p.invariant (omega arith)

pub onward-here-requires : goal.onward-here-requires
onward-here-requires g c =
    rw c.close_at.ensures (onward_room c.args.input.now.setting c.loop-p.invariant.going (omega arith))

pub loop-p-preserved : goal.loop-p-preserved
loop-p-preserved g c =
    passed_next c.args.input.now.setting c.loop-p.invariant (omega arith) c.requires.tokens_in_bounds c.context_at-context.result (c.context_at-context.ensures c.args.input.now.grammar.head.well)
    c.row-ways.ensures.0 c.row-ways.ensures.1
    (rw c.close_at.ensures at c.onward-here.ensures)
    (rw c.low_half.ensures at c.counted-count.ensures)

pub returns : goal.returns
returns g c = passed_all c.args.input.now.setting c.loop-p.invariant (omega arith)
