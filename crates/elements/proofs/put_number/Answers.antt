-- `elements::put_number` meets its contract.
use Prim.Native.Nat.{ℕ, ◌+◌, ◌-◌}
use native.Mathlib.Omega.{arith}
use mathlib.Core.Path.{◌≡◌, refl}
use mathlib.Core.List.{List, [], ◌∷◌, append_assoc}
use borrow.Rule.Slice.PartMut.{post_of}
use lib.ListN.{drop}
use lib.Seq.{sets-eq, drop-drop}
use Rattle.elements.specs.Encoded.{writable}
use Rattle.elements.proofs.Encoding.{one-byte_of, two_bytes_of, three_bytes_of}
use Rattle.elements.proofs.put_number.Goals as goal

behind : (at k : ℕ) (s : List ℕ) → post_of at (at + k - at) s ≡ drop (at + k) s
behind at k s = let e : at + k - at ≡ k = omega arith in rw e (drop-drop k at s)

pub returns-then-n-lt128 : goal.returns-then-n-lt128
returns-then-n-lt128 c =
    rw (one-byte_of c.args.n c.if-n-lt128.true) (refl, sets-eq (c.args.n ∷ []) c.args.file.now c.args.at (omega (arith, c.requires.0, c.requires.1)))

pub returns-then-n-lt16384 : goal.returns-then-n-lt16384
returns-then-n-lt16384 c =
    rw (two_bytes_of c.args.n c.if-n-lt128.false c.if-n-lt16384.true, c.copy_from_slice.ensures.after, behind _ 2 _) (refl, rw append_assoc)

pub returns : goal.returns
unfolding writable
returns c =
    rw (three_bytes_of c.args.n c.if-n-lt16384.false, c.copy_from_slice-2.ensures.after, behind _ 3 _, c.min-number.ensures) (refl, rw append_assoc)
