-- The digits by which a rule asks the words of two positions, that behind its token and that behind the close of its step: whether what it goes on
-- with derives what has to follow. Of a position's word of 64 digits, digit L says that L derives what is ahead in its level, digit 32 + L that it
-- derives all that is left.
-- Law: goal_small (rule_index/proofs/Goals.antt)
use Rattle.std.specs.Prelude.{ℕ, ◌+◌, Bool, true, false, ltb}
use Rattle.vpg.specs.declared.Rule.{Rule}

-- the digit of L; low: the rest of the level is enough
abbrev pub goal : Bool → ℕ → ℕ
goal true L = L
goal false L = 32 + L

-- behind the token: a rule for a well-matched nonterminal, one below W, goes on in its level, and the inside of a step is a level; 0 where nothing is
-- asked for
abbrev pub inside_goal : ℕ → Rule → ℕ
inside_goal W (Rule.Empty L) = 0
inside_goal W (Rule.Next L i L₁) = goal (ltb L W) L₁
inside_goal W (Rule.Step L a L₁ b L₂) = goal true L₁

-- behind the close
abbrev pub after_goal : ℕ → Rule → ℕ
after_goal W (Rule.Empty L) = 0
after_goal W (Rule.Next L i L₁) = 0
after_goal W (Rule.Step L a L₁ b L₂) = goal (ltb L W) L₂
