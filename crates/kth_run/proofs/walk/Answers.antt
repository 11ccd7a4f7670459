-- `walk`: before position p the walk stands where `Walking` says.
use native.Mathlib.Omega.{arith}
use mathlib.Core.Path.{◌≡◌, refl, ap}
use lib.ListN.{length, get_or-replicate}
use Rattle.std.specs.Prelude.{Some, Some}
use Rattle.capped.specs.Capped.{value}
use Rattle.tables.specs.Table.{rule_in}
use Rattle.kth_run.proofs.Chosen.{has_room}
use Rattle.kth_run.proofs.Walking.{same_inside, walking_start, rule_room, rule_small, turned, done}
use Rattle.kth_run.proofs.walk.Goals as goal

pub loop-p-init : goal.loop-p-init
loop-p-init c =
    walking_start c.args.input.now.setting c.requires.complete c.args.number c.args.out.now c.requires.room _ _ refl refl (λ j l. ap value (get_or-replicate 1025 j (Some 1) (Some 0) l)) (omega (arith, c.ranges.number)) c.requires.more

pub search-found-requires : goal.search-found-requires
search-found-requires c =
    has_room c.args.input.now.setting c.loop-p.p c.context_at-context.result (c.context_at-context.ensures c.args.input.now.grammar.head.well) c.loop-p.invariant.most

pub six_in-rule-requires : goal.six_in-rule-requires
six_in-rule-requires c =
    rule_room c.args.input.now.setting c.requires.complete c.args.number c.args.out.now c.requires.room c.loop-p.invariant c.context_at-context.result c.context_at-context.ensures c.search-found.result c.search-found.ensures

pub overflow_cast-out : goal.overflow_cast-out
overflow_cast-out c =
    omega (arith, rule_room c.args.input.now.setting c.requires.complete c.args.number c.args.out.now c.requires.room c.loop-p.invariant c.context_at-context.result c.context_at-context.ensures c.search-found.result c.search-found.ensures)

pub offset_bounds-dues-close : goal.offset_bounds-dues-close
offset_bounds-dues-close c =
    omega (arith, (has_room c.args.input.now.setting c.loop-p.p c.context_at-context.result (c.context_at-context.ensures c.args.input.now.grammar.head.well) c.loop-p.invariant.most).1)

pub bounds-dues-close : goal.bounds-dues-close
bounds-dues-close c =
    (has_room c.args.input.now.setting c.loop-p.p c.context_at-context.result (c.context_at-context.ensures c.args.input.now.grammar.head.well) c.loop-p.invariant.most).1

pub due_behind-due-requires : goal.due_behind-due-requires
unfolding rule_in
due_behind-due-requires c =
    (rw c.six_in-rule.ensures (rule_small c.args.input.now.setting c.requires.complete c.args.number c.args.out.now c.requires.room c.loop-p.invariant c.context_at-context.result c.context_at-context.ensures c.search-found.result c.search-found.ensures), (has_room c.args.input.now.setting c.loop-p.p c.context_at-context.result (c.context_at-context.ensures c.args.input.now.grammar.head.well) c.loop-p.invariant.most).1)

pub offset_bounds-dues-close-in-loop-p : goal.offset_bounds-dues-close-in-loop-p
offset_bounds-dues-close-in-loop-p c =
    omega (arith, (has_room c.args.input.now.setting c.loop-p.p c.context_at-context.result (c.context_at-context.ensures c.args.input.now.grammar.head.well) c.loop-p.invariant.most).1)

pub bounds-dues-close-in-loop-p : goal.bounds-dues-close-in-loop-p
bounds-dues-close-in-loop-p c =
    (has_room c.args.input.now.setting c.loop-p.p c.context_at-context.result (c.context_at-context.ensures c.args.input.now.grammar.head.well) c.loop-p.invariant.most).1

pub store_later-requires : goal.store_later-requires
store_later-requires c =
    (c.loop-p.invariant.room, (has_room c.args.input.now.setting c.loop-p.p c.context_at-context.result (c.context_at-context.ensures c.args.input.now.grammar.head.well) c.loop-p.invariant.most).1)

pub loop-p-preserved : goal.loop-p-preserved
unfolding rule_in
loop-p-preserved c =
    rw (c.store_later.ensures, c.inner_of.ensures, c.six_in-rule.ensures)
    (turned c.args.input.now.setting c.requires.complete c.args.number c.args.out.now c.requires.room c.loop-p.invariant c.context_at-context.result c.context_at-context.ensures c.search-found.result c.search-found.ensures c.loop-p-test.true c.due_behind-due.result (rw (c.six_in-rule.ensures, same_inside c.loop-p.dues c.context_at-context.result.closing (rw c.loop-p.invariant.due_room (has_room c.args.input.now.setting c.loop-p.p c.context_at-context.result (c.context_at-context.ensures c.args.input.now.grammar.head.well) c.loop-p.invariant.most).1)) at c.due_behind-due.ensures))

pub search-requires : goal.search-requires
search-requires c =
    has_room c.args.input.now.setting (length c.args.input.now.tokens.now) c.context_at-end.result (c.context_at-end.ensures c.args.input.now.grammar.head.well) (omega arith)

pub overflow_cast-out-2 : goal.overflow_cast-out-2
overflow_cast-out-2 c =
    let e : c.loop-p.p ≡ length c.args.input.now.tokens.now = omega (arith, c.loop-p.invariant.most, c.loop-p-test.false) in
    omega (arith, rule_room c.args.input.now.setting c.requires.complete c.args.number c.args.out.now c.requires.room (rw e at c.loop-p.invariant) c.context_at-end.result c.context_at-end.ensures c.search.result c.search.ensures)

pub returns : goal.returns
returns c =
    let e : c.loop-p.p ≡ length c.args.input.now.tokens.now = omega (arith, c.loop-p.invariant.most, c.loop-p-test.false) in
    done c.args.input.now.setting c.requires.complete c.args.number c.args.out.now c.requires.room (rw e at c.loop-p.invariant) c.context_at-end.result c.context_at-end.ensures c.search.result c.search.ensures refl
