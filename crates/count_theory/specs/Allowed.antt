-- Tests of lists of rule numbers, position by position.
-- Law: with_rule, with-any (count_theory/proofs/Places.antt)
use Rattle.std.specs.Prelude.{ℕ, suc, Bool, true, ◌&&◌, ◌||◌, not, List, [], ◌∷◌, eqb}

-- may rule number r stand at position p
abbrev pub Allowed : Type 0
Allowed = ℕ → ℕ → Bool

-- does each number pass at its position; the first one's is p
abbrev pub passes : Allowed → ℕ → List ℕ → Bool
passes ok p [] = true
passes ok p (r ∷ e) = ok p r && passes ok (suc p) e

-- at position p rule r alone, elsewhere any
abbrev pub alone_at : ℕ → ℕ → Allowed
alone_at p r q n = not (eqb q p) || eqb n r

-- no history has position 1,026: any rule is allowed everywhere
abbrev pub anywhere : Allowed
anywhere = alone_at 1026 0
