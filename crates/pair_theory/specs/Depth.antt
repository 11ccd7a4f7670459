-- How many steps are open at each position of a token list.
-- Law: wellformed_shallow (stop_marks_core/proofs/Depths.antt)
use Rattle.std.specs.Prelude.{ℕ, ◌+◌, ◌-◌, ◌≤◌, List, [], ◌∷◌}
use Rattle.vpg.specs.declared.Token.{Token}

-- after a token, of d before it; a close with no step open leaves 0
abbrev pub open_after : Token → ℕ → ℕ
open_after (Token.Mark c) d = d
open_after (Token.Open a) d = d + 1
open_after (Token.Close b) d = d - 1

-- d steps are open before the tokens, and never more than k
abbrev pub Shallow : ℕ → List Token → ℕ → Type 0
Shallow k [] d = d ≤ k
Shallow k (t ∷ w) d = (d ≤ k) × Shallow k w (open_after t d)
