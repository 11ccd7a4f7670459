-- `next_run::larger_rule` meets its contract.
use Prim.Native.Nat.{◌+◌}
use native.Mathlib.Omega.{arith}
use mathlib.Core.Path.{sym, ◌∙◌}
use lib.ListN.{get_or}
use Rattle.rule_index.proofs.Walk.{along}
use Rattle.next_run.proofs.Positions.{old_rule, walk_start, walk_over, walk_next, walk_end, walk_found}
use Rattle.next_run.proofs.larger_rule.Goals as goal

pub chain_behind-r-items-requires : goal.chain_behind-r-items-requires
chain_behind-r-items-requires c = old_rule c.args.input.now.setting c.args.at.now c.args.reading.now c.requires.each_fits c.requires.position_in_bounds.0 c.context_at-context.ensures

pub loop-r-init : goal.loop-r-init
loop-r-init c =
    along (walk_over c.args.input.now.setting c.args.at.now c.args.reading.now c.requires.each_fits c.requires.position_in_bounds.0 c.context_at-context.ensures) (get_or c.args.reading.now c.args.p 0 + 1) (omega (arith, old_rule c.args.input.now.setting c.args.at.now c.args.reading.now c.requires.each_fits c.requires.position_in_bounds.0 c.context_at-context.ensures))
    (c.into_iter-r-iterator.ensures.into_iter_gives ∙ c.chain_behind-r-items.ensures) (walk_start c.args.input.now.setting c.args.at.now c.args.reading.now c.requires.each_fits c.requires.position_in_bounds.0 c.context_at-context.ensures)

pub fits-requires : goal.fits-requires
fits-requires c =
    let w = c.loop-r.invariant.turn _ _ c.in-Some.ensures.steps in
    w.below

pub returns-then-fits : goal.returns-then-fits
returns-then-fits c =
    let w = c.loop-r.invariant.turn _ _ c.in-Some.ensures.steps in
    walk_found c.args.input.now.setting c.args.at.now c.args.reading.now c.requires.each_fits c.requires.position_in_bounds.0 c.context_at-context.ensures w.held w.below (sym c.fits.ensures ∙ c.if-fits.true)

pub loop-r-preserved : goal.loop-r-preserved
loop-r-preserved c =
    let w = c.loop-r.invariant.turn _ _ c.in-Some.ensures.steps in
    along (walk_over c.args.input.now.setting c.args.at.now c.args.reading.now c.requires.each_fits c.requires.position_in_bounds.0 c.context_at-context.ensures) _ w.below w.rest (walk_next c.args.input.now.setting c.args.at.now c.args.reading.now c.requires.each_fits c.requires.position_in_bounds.0 c.context_at-context.ensures w.held (sym c.fits.ensures ∙ c.if-fits.false))

pub returns : goal.returns
returns c = walk_end c.args.input.now.setting c.args.at.now c.args.reading.now c.requires.each_fits c.requires.position_in_bounds.0 c.context_at-context.ensures (c.loop-r.invariant.ended c.in-None.ensures.steps.0)
