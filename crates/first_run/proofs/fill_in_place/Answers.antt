-- `first_run::fill_in_place` meets its contract.
use native.Mathlib.Omega.{arith}
use Rattle.tables.specs.Table.{rule_in}
use Rattle.levels.proofs.Setting.{close_room}
use Rattle.first_run.proofs.Sofar.{found_rule, going_next, ended}
use Rattle.first_run.proofs.fill_in_place.Goals as goal

pub six_in-rule-requires : goal.six_in-rule-requires
six_in-rule-requires c =
    omega (arith, c.args.input.now.setting.indexed.ready.few, found_rule c.args.input.now.setting c.args.from.now c.args.out.now c.requires.position_in_bounds.2 c.loop-p.invariant c.context_at-context.result (c.context_at-context.ensures c.args.input.now.grammar.head.well) c.smallest-r.result c.smallest-r.ensures)

pub store_later-requires : goal.store_later-requires
store_later-requires c =
    (c.loop-p.invariant.room, rw c.close_at-j.ensures (close_room c.args.input.now.setting c.loop-p.p (omega arith)))

pub loop-p-preserved : goal.loop-p-preserved
unfolding rule_in
loop-p-preserved c =
    rw (c.store_later.ensures, c.inner_of-nonterminal.ensures, c.close_at-j.ensures, c.six_in-rule.ensures)
    (going_next c.args.input.now.setting c.args.from.now c.args.out.now c.requires.position_in_bounds.2 c.loop-p.invariant c.context_at-context.result (c.context_at-context.ensures c.args.input.now.grammar.head.well) c.smallest-r.result c.smallest-r.ensures c.loop-p-test.true)

pub returns : goal.returns
returns c =
    ended c.args.input.now.setting c.args.from.now c.args.out.now c.requires.position_in_bounds.2 c.loop-p.invariant (omega (arith, c.loop-p.auto.p-end c.requires.position_in_bounds.0, c.loop-p-test.false)) c.empty_rule-last.result c.empty_rule-last.ensures
