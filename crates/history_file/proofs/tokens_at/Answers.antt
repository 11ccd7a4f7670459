-- `history_file::tokens_at` meets its contract.
use Prim.Native.Nat.{◌<◌}
use mathlib.Core.Path.{sym, ◌∙◌}
use native.Mathlib.Omega.{arith}
use lib.ListN.{length, length-set}
use Rattle.history_file.proofs.Padded.{cleared_next, front_next}
use Rattle.laws.proofs.Lists.{one_due}
use Rattle.history_file.specs.believed.HistoryFile.{tokens_from}
use Rattle.history_file.proofs.Tokens.{token_read, depth_most}
use Rattle.history_file.proofs.tokens_at.Goals as goal

pub depth_after-depth-requires : goal.depth_after-depth-requires
depth_after-depth-requires c =
    let j = token_read _ _ _ _ _ (sym c.token_at.ensures ∙ c.in_ok-t.was) in
    (c.loop-k.invariant.0, j.kinds, j.closes)

pub loop-k-preserved : goal.loop-k-preserved
unfolding tokens_from
loop-k-preserved c =
    let is = sym c.token_at.ensures ∙ c.in_ok-t.was in
    let room : c.loop-k.k < length c.loop-k.tokens = omega arith in (
      rw c.depth_after-depth.ensures (depth_most _ _ _ _ (token_read _ _ _ _ _ is) c.loop-k.invariant.0),
      length-set c.loop-k.tokens c.loop-k.k c.in_ok-t.t ∙ c.loop-k.invariant.1,
      cleared_next 1024 c.loop-k.tokens c.loop-k.k c.in_ok-t.t room (omega arith) c.loop-k.invariant.2,
      rw (c.depth_after-depth.ensures, front_next c.loop-k.tokens c.loop-k.k c.in_ok-t.t room)
          (rw (one_due _ _ c.loop-k-test.true, is) at c.loop-k.invariant.3),
    )
