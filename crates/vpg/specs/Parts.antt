-- With which nonterminals a rule goes on. The passes tell the forms of rule apart by these and `left` (believed/Grammar.antt), not by cases of their own.
-- Law: placed (level_theory/proofs/Walk.antt)
use Rattle.std.specs.Prelude.{ℕ, Bool, false, eqb}
use Rattle.std.proofs.Math.Option.{Option, none, some}
use Rattle.vpg.specs.declared.Rule.{Rule}

-- the nonterminal behind the rule's first token; an empty rule has none
abbrev pub onward : Rule → Option ℕ
onward (Rule.Empty L) = none
onward (Rule.Next L i L₁) = some L₁
onward (Rule.Step L a L₁ b L₂) = some L₁

-- the nonterminal behind the close of a step
abbrev pub beyond : Rule → Option ℕ
beyond (Rule.Empty L) = none
beyond (Rule.Next L i L₁) = none
beyond (Rule.Step L a L₁ b L₂) = some L₂

-- is it this nonterminal
abbrev pub is_it : Option ℕ → ℕ → Bool
is_it none K = false
is_it (some L) K = eqb L K
