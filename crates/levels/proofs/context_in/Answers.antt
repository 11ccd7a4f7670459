-- `levels::context_in` meets its contract.
use Prim.Native.Nat.{ℕ, ◌<◌, ◌≤◌}
use native.Mathlib.Numerals.{add-one}
use native.Mathlib.Omega.{arith}
use lib.ListN.{get_or}
use Rattle.levels.proofs.Levels.{tokens_length, kind_near, stands-closed, stands_open}
use Rattle.levels.proofs.context_in.Goals as goal

lt-le : {a b : ℕ} → a < b → a ≤ b
lt-le h = omega arith

pub returns-then-closing-tokens : goal.returns-then-closing-tokens
returns-then-closing-tokens c =
    let j = c.requires.matched c.args.p (omega arith) (rw tokens_length (lt-le c.requires.tokens.1)) in
    rw (c.from-kind.ensures, c.name_of-name.ensures, add-one c.args.p, c.close_at-closing.ensures, j, add-one)
    ((λ W. stands-closed W c.args.tokens.now c.args.masks.now c.args.p c.requires.tokens.1 c.close_name-close.result (rw (c.close_at-closing.ensures, j) at c.if-closing-tokens.true) (rw (c.close_at-closing.ensures, j) at c.close_name-close.ensures)), kind_near (get_or c.args.tokens.now c.args.p 0))

pub returns : goal.returns
returns c =
    let j = c.requires.matched c.args.p (omega arith) (rw tokens_length (lt-le c.requires.tokens.1)) in
    rw (c.from-kind.ensures, c.name_of-name.ensures, add-one c.args.p, c.close_at-closing.ensures, j)
    ((λ W. stands_open W c.args.tokens.now c.args.masks.now c.args.p c.requires.tokens.1 (record { 0 = 0 }) (rw (c.close_at-closing.ensures, j) at c.if-closing-tokens.false)), kind_near (get_or c.args.tokens.now c.args.p 0))
