-- `numbers::second_at` meets its contract.
use Prim.Native.Nat.{ℕ, ◌+◌, ◌-◌, ◌*◌, ◌/◌, ◌%◌, ◌<◌, ◌≤◌}
use mathlib.Core.Path.{◌≡◌, ap, ◌∙◌}
use mathlib.Core.Logic.{◌≢◌}
use borrow.Author.Tests.{le-ltb, lt-ltb, ne_eqb}
use native.Mathlib.Omega.{arith}
use Rattle.std.specs.Prelude.{Ok}
use Rattle.numbers.specs.believed.Number.{Read, with_group, number_within}
use Rattle.numbers.proofs.second_at.Goals as goal

-- a group in front of a byte that is the last, and of one that isn't
one_more : (low middle next : ℕ) → middle ≢ 0 → middle < 128 → Ok (low + middle % 128 * 128, next) ≡ with_group low (Ok (middle, next))
one_more low middle next some h = rw (ne_eqb middle 0 some) (ap (λ n. Ok (n, next)) (omega arith))

two-more : (low middle : ℕ) (r : Read ℕ) → low < 128 → 128 ≤ middle → middle < 256
    → with_group ((low + middle % 128 * 128) % 128) (with_group ((low + middle % 128 * 128) / 128) r) ≡ with_group low (with_group (middle - 128) r)
two-more low middle r h l m =
    let group : middle % 128 ≡ middle - 128 = omega arith in
    let first : (low + (middle - 128) * 128) % 128 ≡ low = omega arith in
    let second : (low + (middle - 128) * 128) / 128 ≡ middle - 128 = omega arith in
    rw (group, first, second)

pub returns-then-middle-lt128 : goal.returns-then-middle-lt128
unfolding number_within
returns-then-middle-lt128 c =
    one_more _ _ _ c.if-middle-eq0.false c.if-middle-lt128.true ∙ simp (lt-ltb _ _ c.if-s-next.false, lt-ltb _ _ c.if-middle-lt128.true)

pub returns : goal.returns
unfolding number_within
returns c =
    c.third_at.ensures
    ∙ (two-more _ _ (number_within 1 c.args.s.now (c.args.next + 1)) c.requires c.if-middle-lt128.false (omega arith)
    ∙ simp (lt-ltb _ _ c.if-s-next.false, le-ltb _ _ c.if-middle-lt128.false))
