-- Walking over the tokens by an array: which rules can stand at a position, and where they lead.
-- Law: level_test, placed (level_theory/proofs/Walk.antt)
use Rattle.std.specs.Prelude.{ℕ, Bool}
use Rattle.std.proofs.Math.Option.{get_or}
use mathlib.Core.List.{List, [], ◌∷◌, Memᴰ}
use Rattle.vpg.specs.declared.Rule.{Rule}
use Rattle.vpg.specs.declared.Token.{Token}
use Rattle.vpg.specs.believed.Grammar.{Rules}
use Rattle.vpg.specs.Parts.{onward, beyond}
use Rattle.vpg.specs.Runs.{State, runs}
use Rattle.level_theory.specs.Masks.{applies, finishes, masks}

-- e is a run from a nonterminal with a stack due
abbrev pub Run : Rules → State → List Token → List ℕ → Type 0
Run g s w e = Memᴰ e (runs g s w)

-- can R stand before these tokens
unfoldable pub test_at : ℕ → Rules → List Token → Rule → Bool
test_at W g [] R = finishes R
test_at W g (t ∷ v) R = applies W (masks W g v) t R

-- the nonterminal at the next position; d: the one behind the close, where the token is a close
abbrev pub inner : Rule → ℕ → ℕ
inner R d = get_or (onward R) d

-- the nonterminal behind the close of a step; d: what stands there already
abbrev pub later : Rule → ℕ → ℕ
later R d = get_or (beyond R) d
