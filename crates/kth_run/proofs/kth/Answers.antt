-- `kth`: by the count of all readings.
use Prim.Native.Nat.{◌+◌}
use native.Mathlib.Omega.{arith}
use mathlib.Core.Path.{sym}
use mathlib.Core.Bool.{and-false}
use lib.Dec.{ltb}
use lib.ListN.{length}
use Rattle.vpg.specs.Runs.{entries}
use Rattle.levels.specs.Prepared.{prepared_grammar, prepared_rules, prepared_tokens}
use Rattle.count_rows.proofs.Whole.{new_sized, new_clear}
use Rattle.kth_run.proofs.Whole.{more_than, no_more, kth-none, kth_above, kth_is}
use Rattle.kth_run.proofs.kth.Goals as goal

pub returns-then-not-derives_all : goal.returns-then-not-derives_all
returns-then-not-derives_all c =
    kth-none c.args.input.now.setting c.args.k (length c.args.input.now.tokens.now + 1) c.args.out.now
    (rw (← c.if-not-derives_all.ensures (prepared_rules c.args.input.now) c.args.input.now.tokens.now c.args.input.now.setting.leveled) (and-false (ltb 0 c.args.k)))

pub rows_of-requires : goal.rows_of-requires
rows_of-requires c = new_clear

pub invariant_of-rows : goal.invariant_of-rows
invariant_of-rows c = record { sized = new_sized }

pub walk-requires-clause-more : goal.walk-requires-clause-more
walk-requires-clause-more c =
    more_than c.args.input.now.setting (sym (c.if-not-derives_all.ensures (prepared_rules c.args.input.now) c.args.input.now.tokens.now c.args.input.now.setting.leveled)) c.rows_of.ensures c.in_ok-number.number (omega arith) (rw (← c.count_at-total.ensures) (sym c.if-not-is_below.ensures))

pub returns-then-not-is_below : goal.returns-then-not-is_below
returns-then-not-is_below c =
    let from_1 = rw c.in_ok-number.ensures.ok_part at c.checked_sub.ensures in
    let none = no_more c.args.input.now.setting (sym (c.if-not-derives_all.ensures (prepared_rules c.args.input.now) c.args.input.now.tokens.now c.args.input.now.setting.leveled)) c.rows_of.ensures c.in_ok-number.number (omega (arith, c.ranges.k, from_1.1)) (rw (← c.count_at-total.ensures) (sym c.if-not-is_below.ensures)) in
    kth_above (entries (prepared_grammar c.args.input.now) (prepared_tokens c.args.input.now)) c.args.k (length c.args.input.now.tokens.now + 1) c.args.out.now from_1.0 (rw (← from_1.1) none)

pub returns : goal.returns
returns c =
    let from_1 = rw c.in_ok-number.ensures.ok_part at c.checked_sub.ensures in
    let more = more_than c.args.input.now.setting (sym (c.if-not-derives_all.ensures (prepared_rules c.args.input.now) c.args.input.now.tokens.now c.args.input.now.setting.leveled)) c.rows_of.ensures c.in_ok-number.number (omega (arith, c.ranges.k, from_1.1)) (rw (← c.count_at-total.ensures) (sym c.if-not-is_below.ensures)) in
    kth_is (entries (prepared_grammar c.args.input.now) (prepared_tokens c.args.input.now)) c.args.k (length c.args.input.now.tokens.now + 1) c.args.out.now _ from_1.0 (rw (← from_1.1) more) (rw (← from_1.1) c.walk.ensures)
