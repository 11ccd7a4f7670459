-- The token numbers that a history file can say (document 01, "The two files" and refusals 10 to 14).
-- Law: history_both_ways (history_file/proofs/BothWays.antt)
use Rattle.std.specs.Prelude.{ℕ, ◌<◌, ◌≤◌, ◌≡◌, length}
use mathlib.Core.List.{List, [], ◌∷◌, Memᴰ}
use Rattle.history_file.specs.believed.HistoryFile.{kind, depth_after}

-- no "names above 65,535" (document 02, 2.4), so no number from 4 × 65,536 on, and none "that leaves 3 when divided by 4"
pub record TokenNumber (t : ℕ) : Type 0 where
  pub small : t < 262144
  pub kinds : kind t < 3

-- with so many steps open before the tokens: no "close with no step open", no "open while 128 steps are open", no
-- "step still open after the last token"
abbrev pub Nested : ℕ → List ℕ → Type 0
Nested depth [] = depth ≡ 0
Nested depth (t ∷ ts) = (kind t ≡ 2 → 0 < depth) × (kind t ≡ 1 → depth < 128) × Nested (depth_after t depth) ts

-- "token count (0 to 1,024), then each token"
pub record Wellformed (ts : List ℕ) : Type 0 where
  pub few : length ts ≤ 1024
  pub tokens : (t : ℕ) → Memᴰ t ts → TokenNumber t
  pub nested : Nested 0 ts
