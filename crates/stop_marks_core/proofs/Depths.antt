-- In the tokens of a well-formed history at most 128 steps are open together.
use Prim.Native.Nat.{ℕ, ◌≤◌}
use native.Mathlib.Omega.{arith}
use mathlib.Core.Path.{refl}
use mathlib.Core.List.{List, [], ◌∷◌, Memᴰ}
use Rattle.pair_theory.specs.Depth.{Shallow}
use Rattle.history_file.specs.believed.HistoryFile.{tokens_of, depth_after}
use Rattle.history_file.specs.Wellformed.{TokenNumber, Nested, Wellformed}
use Rattle.configurations.proofs.Depths.{counts}

shallow : (ts : List ℕ) (d : ℕ) → ((t : ℕ) → Memᴰ t ts → TokenNumber t) → Nested d ts → d ≤ 128 → Shallow 128 (tokens_of ts) d
shallow [] d k h m = m
shallow (t ∷ ts) d k h m =
    let c = counts t d (k t (Memᴰ.head refl)).kinds in
    (m, rw (← c.same) (shallow ts (depth_after t d) (λ x i. k x (Memᴰ.tail i)) h.2 (c.most h.1 m)))

pub wellformed_shallow : (ts : List ℕ) → Wellformed ts → Shallow 128 (tokens_of ts) 0
wellformed_shallow ts h = shallow ts 0 h.tokens h.nested (omega arith)
