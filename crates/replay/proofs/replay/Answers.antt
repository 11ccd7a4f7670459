-- `replay::replay` meets its contract.
use mathlib.Core.Path.{◌≡◌, refl, sym, ◌∙◌}
use native.Mathlib.Omega.{arith}
use lib.ListN.{length}
use Rattle.tables.specs.Table.{rule_in}
use Rattle.levels.proofs.Setting.{close_room}
use Rattle.replay.proofs.Replaying.{replaying_start, replaying_refused, replaying_next, replaying_end, none_derives}
use Rattle.replay.proofs.replay.Goals as goal

pub returns-then-not-derives_all : goal.returns-then-not-derives_all
returns-then-not-derives_all c =
    none_derives c.args.input.now.setting (sym (c.derives_all.ensures _ c.args.input.now.tokens.now c.args.input.now.setting.leveled) ∙ c.if-not-derives_all.true) _

pub loop-p-init : goal.loop-p-init
loop-p-init c =
    replaying_start c.args.input.now.setting c.args.reading.now c.requires.tokens_in_bounds (sym (c.derives_all.ensures _ c.args.input.now.tokens.now c.args.input.now.setting.leveled) ∙ c.if-not-derives_all.false)

pub store_later-requires : goal.store_later-requires
store_later-requires c =
    (c.loop-p.invariant.room_behind, rw c.close_at-j.ensures (close_room c.args.input.now.setting c.loop-p.p (omega arith)))

pub loop-p-preserved : goal.loop-p-preserved
unfolding rule_in
loop-p-preserved c =
    rw (c.store_later.ensures, c.inner_of.ensures, c.close_at-j.ensures, c.six_in-rule.ensures)
    (replaying_next c.args.input.now.setting c.args.reading.now c.requires.tokens_in_bounds c.loop-p.invariant c.loop-p.auto.p-end c.context_at-context.result (c.context_at-context.ensures c.args.input.now.grammar.head.well) (sym c.stands.ensures ∙ c.if-not-stands.false) c.loop-p-test.true)

pub returns-then-not-stands : goal.returns-then-not-stands
returns-then-not-stands c =
    replaying_refused c.args.input.now.setting c.args.reading.now c.requires.tokens_in_bounds c.loop-p.invariant c.loop-p.auto.p-end c.context_at-context.result (c.context_at-context.ensures c.args.input.now.grammar.head.well) (sym c.stands.ensures ∙ c.if-not-stands.true)

pub returns-then-not-stands-2 : goal.returns-then-not-stands-2
returns-then-not-stands-2 c =
    let e : c.loop-p.p ≡ length c.args.input.now.tokens.now = omega (arith, c.loop-p.auto.p-end, c.loop-p-test.false) in
    replaying_refused c.args.input.now.setting c.args.reading.now c.requires.tokens_in_bounds (rw e at c.loop-p.invariant) (omega arith) c.context_at-end.result (c.context_at-end.ensures c.args.input.now.grammar.head.well) (sym c.stands-2.ensures ∙ c.if-not-stands-2.true)

pub returns : goal.returns
returns c =
    let e : c.loop-p.p ≡ length c.args.input.now.tokens.now = omega (arith, c.loop-p.auto.p-end, c.loop-p-test.false) in
    replaying_end c.args.input.now.setting c.args.reading.now c.requires.tokens_in_bounds (rw e at c.loop-p.invariant) (omega arith) c.context_at-end.result (c.context_at-end.ensures c.args.input.now.grammar.head.well) (sym c.stands-2.ensures ∙ c.if-not-stands-2.false) refl
