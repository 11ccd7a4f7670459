-- A grammar's numbers, and so its bytes, with the start written out (document 02, 2.3: "an old file comes back in the longer form").
-- Law: longer_numbers, longer_bytes (writers/proofs/Longer.antt)
use Rattle.std.specs.Prelude.{ℕ, cond, List, [], ◌∷◌, eqb}

-- "a 0; then come stage count, start stage, rule count and rules": of stage count, rule count and rules, whose start is 0
abbrev pub start_inserted : List ℕ → List ℕ
start_inserted [] = []
start_inserted (stages ∷ rest) = 0 ∷ stages ∷ 0 ∷ rest

-- where the 0 doesn't lead
abbrev pub longer_form : List ℕ → List ℕ
longer_form [] = []
longer_form (n ∷ rest) = cond (eqb n 0) (n ∷ rest) (start_inserted (n ∷ rest))
