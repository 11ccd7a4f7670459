-- Classes of tokens and of rules: only rules of a token's class can stand at it, and at a close the empty rules besides, a class for each
-- nonterminal.
-- Law: stands_class, class_apart, one_class, empty_class_lem (rule_index/proofs/Classes.antt)
use Rattle.std.specs.Prelude.{ℕ, ◌+◌, ◌*◌, ◌/◌, ◌%◌, cond, leb}
use Rattle.vpg.specs.declared.Rule.{Rule}
use Rattle.vpg.specs.declared.Token.{Token}

-- a name's digits to the base 64, added up modulo 64: names in a row, and names in steps of any power of two, are spread
abbrev pub spread : ℕ → ℕ
spread name = (name + name / 64 + name / 4096) % 64

-- of a token: 4 × what its name is spread to, and its kind, 3 for a close
abbrev pub class_at : Token → ℕ
class_at (Token.Mark c) = 4 * spread c.0
class_at (Token.Open a) = 4 * spread a.0 + 1
class_at (Token.Close b) = 4 * spread b.0 + 3

-- the same from the kind and the name
abbrev pub class_by : ℕ → ℕ → ℕ
class_by kind name = cond (leb 2 kind) (4 * spread name + 3) (4 * spread name + kind)

-- the class of the empty rules of L
abbrev pub empty_class : ℕ → ℕ
empty_class L = 4 * L + 2

-- the class of a rule: that of the tokens at which it can stand, or of the empty rules of its nonterminal
abbrev pub class_of : Rule → ℕ
class_of (Rule.Empty L) = empty_class L
class_of (Rule.Next L i L₁) = class_at i
class_of (Rule.Step L a L₁ b L₂) = 4 * spread a.0 + 1
