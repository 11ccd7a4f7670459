-- `levels::word_of` meets its contract.
use native.Mathlib.Omega.{arith}
use borrow.Author.Tests.{lt-ltb, le-ltb, le-leb}
use Rattle.levels.proofs.Levels.{word-joined}
use Rattle.levels.proofs.word_of.Goals as goal

pub returns-then-k-n : goal.returns-then-k-n
returns-then-k-n c =
    λ L l low. rw (c.joined.ensures, lt-ltb _ _ c.if-k-n.true) (word-joined c.args.set c.from.result c.args.well (omega (arith, c.ranges.set)) c.from.ensures L l low)

pub returns : goal.returns
returns c =
    λ L l low. rw (c.joined-2.ensures, le-ltb _ _ c.if-k-n.false) (word-joined c.args.set c.args.set 0 (omega (arith, c.ranges.set)) (λ M. rw (le-leb 0 M (omega arith))) L l low)
