-- `elements::encode` meets its contract.
use Prim.Native.Nat.{min}
use mathlib.Core.Path.{◌≡◌}
use native.Mathlib.Omega.{arith}
use lib.ListN.{length}
use Rattle.std.proofs.lemmas.List.{take_min}
use Rattle.elements.proofs.Encoding.{encoding_starts, encoding_goes, encoding_ends}
use Rattle.elements.proofs.encode.Goals as goal

pub loop-n-init : goal.loop-n-init
loop-n-init c = encoding_starts _ _

pub loop-n-preserved : goal.loop-n-preserved
loop-n-preserved c =
    rw c.put_number-at.ensures.1 (encoding_goes _ _ _ _ _ _ c.loop-n-test.true c.loop-n.invariant c.put_number-at.ensures.0)

pub returns : goal.returns
returns c =
    let count : c.min.result ≡ min 1026 (length c.args.elements.now) = omega arith in
    encoding_ends _ _ _ _ _ _ (rw count (take_min 1026 _)) c.loop-n-test.false c.loop-n.invariant
