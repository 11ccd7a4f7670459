-- The form of a rule that takes a token alone, and the token's name: the numbers by which a grammar file and the table of rules know it.
-- Law: grammar_both_ways (grammar_file/proofs/BothWays.antt)
use Rattle.std.specs.Prelude.{ℕ}
use Rattle.vpg.specs.declared.Token.{Token}

abbrev pub form_of : Token → ℕ
form_of (Token.Mark c) = 1
form_of (Token.Open a) = 3
form_of (Token.Close b) = 4

abbrev pub name_of : Token → ℕ
name_of (Token.Mark c) = c.0
name_of (Token.Open a) = a.0
name_of (Token.Close b) = b.0
