-- `tables::seen_among` meets its contract.
use mathlib.Core.Path.{◌≡◌}
use native.Mathlib.Omega.{arith}
use mathlib.Core.Bool.{or-true, or-false}
use Rattle.tables.specs.Table.{earlier, rules_in}
use Rattle.tables.proofs.Earlier.{earlier-at}
use Rattle.tables.proofs.seen_among.Goals as goal

pub returns-then-same_at : goal.returns-then-same_at
returns-then-same_at c =
    rw (
      c.loop-j.invariant,
      earlier-at c.args.rule c.args.table.now c.loop-j.j (omega arith),
      ← c.same_at.ensures c.args.rule c.six_of-six.ensures,
      c.if-same_at.true,
      or-true,
    )

pub loop-j-preserved : goal.loop-j-preserved
loop-j-preserved c =
    rw (
      c.loop-j.invariant,
      earlier-at c.args.rule c.args.table.now c.loop-j.j (omega arith),
      ← c.same_at.ensures c.args.rule c.six_of-six.ensures,
      c.if-same_at.false,
      or-false,
    )

pub returns : goal.returns
unfolding earlier rules_in
returns c =
    let e : c.loop-j.j ≡ 0 = omega arith in
    rw (c.loop-j.invariant, e)
