-- Both ways to count open steps, by token numbers and by tokens.
use Prim.Native.Nat.{ℕ, zero, suc, ◌<◌, ◌≤◌}
use native.Mathlib.Omega.{arith}
use mathlib.Core.Path.{◌≡◌, refl}
use Rattle.pair_theory.specs.Depth.{open_after}
use Rattle.history_file.specs.believed.HistoryFile.{kind, token_with, token_of, depth_after}

-- both ways to count the open steps agree
pub record Counts (t d : ℕ) : Type 0 where
  pub same : depth_after t d ≡ open_after (token_of t) d
  pub most : (kind t ≡ 1 → d < 128) → d ≤ 128 → depth_after t d ≤ 128

pub counts : (t d : ℕ) → kind t < 3 → Counts t d
unfolding depth_after token_of token_with
counts t d h = go (kind t) refl h
  where
    go : (k : ℕ) → kind t ≡ k → k < 3 → Counts t d
    go zero e l = record { same = rw e; most = λ o m. rw e m }
    go (suc zero) e l = record { same = rw e; most = λ o m. let l = o e in rw e (omega arith) }
    go (suc (suc zero)) e l = record { same = rw e; most = λ o m. rw e (omega arith) }
    go (suc (suc (suc k))) e l = absurd (omega arith)
