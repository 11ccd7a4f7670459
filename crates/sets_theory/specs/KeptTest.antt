-- Whether a rule is in the set at a position, as a test over the entries.
-- Law: stands_at_lem, kept_is (sets_theory/proofs/Sets.antt)
use Rattle.std.specs.Prelude.{ℕ, zero, suc, Bool, false, ◌||◌, List, [], ◌∷◌, eqb}
use Rattle.vpg.specs.declared.Token.{Token}
use Rattle.vpg.specs.believed.Grammar.{Grammar}
use Rattle.vpg.specs.Runs.{entries}

-- rule r stands at position p of an entry
abbrev pub stands_at : List ℕ → ℕ → ℕ → Bool
stands_at [] p r = false
stands_at (x ∷ e) zero r = eqb x r
stands_at (x ∷ e) (suc p) r = stands_at e p r

-- of some entry
abbrev pub stands_in : List (List ℕ) → ℕ → ℕ → Bool
stands_in [] p r = false
stands_in (e ∷ l) p r = stands_at e p r || stands_in l p r

-- of some reading
unfoldable pub kept : Grammar → List Token → ℕ → ℕ → Bool
kept g w p r = stands_in (entries g w) p r
