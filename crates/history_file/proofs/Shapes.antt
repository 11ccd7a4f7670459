-- The token of a number, by its kind.
use Prim.Native.Nat.{ℕ, ◌+◌, ◌-◌, ◌/◌, ◌<◌}
use native.Mathlib.Omega.{arith}
use mathlib.Core.Path.{◌≡◌, refl}
use mathlib.Core.Bool.{Bool, true, false, cond}
use borrow.Author.Tests.{eqb-true, eqb-false}
use lib.Dec.{eqb}
use Rattle.vpg.specs.declared.MarkName.{MarkName}
use Rattle.vpg.specs.declared.OpenName.{OpenName}
use Rattle.vpg.specs.declared.CloseName.{CloseName}
use Rattle.vpg.specs.declared.Token.{Token}
use Rattle.history_file.specs.believed.HistoryFile.{kind, token_with, token_of, depth_after}

pub data Shape (t : ℕ) : Token → Type 0 where
  is_mark : {c : MarkName} → kind t ≡ 0 → Shape t (Token.Mark c)
  is_open : {a : OpenName} → kind t ≡ 1 → Shape t (Token.Open a)
  is_close : {b : CloseName} → kind t ≡ 2 → Shape t (Token.Close b)

pub shape : (t : ℕ) → kind t < 3 → Shape t (token_of t)
unfolding token_of token_with
shape t h = go (eqb (kind t) 0) refl (eqb (kind t) 1) refl
  where
    go : (x : Bool) → eqb (kind t) 0 ≡ x → (y : Bool) → eqb (kind t) 1 ≡ y →
        Shape t (cond x (Token.Mark (record { 0 = t / 4 })) (cond y (Token.Open (record { 0 = t / 4 })) (Token.Close (record { 0 = t / 4 }))))
    go true p y q = is_mark (eqb-true _ _ p)
    go false p true q = is_open (eqb-true _ _ q)
    go false p false q = let a = eqb-false (kind t) 0 p in let b = eqb-false (kind t) 1 q in is_close (omega arith)

-- how many steps are open after a token of each kind
pub depth_mark : (t depth : ℕ) → kind t ≡ 0 → depth_after t depth ≡ depth
unfolding depth_after
depth_mark t depth e = rw e

pub depth_open : (t depth : ℕ) → kind t ≡ 1 → depth_after t depth ≡ depth + 1
unfolding depth_after
depth_open t depth e = rw e

pub depth_close : (t depth : ℕ) → kind t ≡ 2 → depth_after t depth ≡ depth - 1
unfolding depth_after
depth_close t depth e = rw e
