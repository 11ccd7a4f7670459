-- The example of the paper's section 4, L₀ → c L₁ and L₁ → ⟨a L₂ b⟩ L₃, with L₂ → ε: after c the state has (L₀, L₁), not (L₀, L₃) as is written there at its end.
use Prim.Native.Nat.{ℕ}
use mathlib.Core.Path.{◌≡◌, refl}
use mathlib.Core.Bool.{Bool, true, false}
use mathlib.Core.List.{List, [], ◌∷◌}
use Rattle.vpg.specs.declared.Rule.{Rule}
use Rattle.vpg.specs.declared.Token.{Token}
use Rattle.vpg.specs.believed.Grammar.{Grammar}
use Rattle.pair_theory.specs.Pairs.{begin, after}

abbrev example : Grammar
example = record {
  nonterminals = 4;
  well = 4;
  start = 0;
  rules = Rule.Next 0 (Token.Mark (record { 0 = 0 })) 1 ∷ Rule.Step 1 (record { 0 = 0 }) 2 (record { 0 = 0 }) 3 ∷ Rule.Empty 2 ∷ [];
}

-- is (L, L') in the state after the tokens
abbrev has : List Token → ℕ → ℕ → Bool
has w L L' = (after example (begin example) w).0 L L'

abbrev c : Token
c = Token.Mark (record { 0 = 0 })

abbrev a : Token
a = Token.Open (record { 0 = 0 })

abbrev b : Token
b = Token.Close (record { 0 = 0 })

-- {(L₀, L₁)}, then {(L₂, L₂)}, then {(L₀, L₃)}
pub example_states : (has (c ∷ []) 0 1 ≡ true) × (has (c ∷ []) 0 3 ≡ false) × (has (c ∷ a ∷ []) 2 2 ≡ true) × (has (c ∷ a ∷ []) 0 2 ≡ false) × (has (c ∷ a ∷ b ∷ []) 0 3 ≡ true)
unfolding after
example_states = (refl, refl, refl, refl, refl)
