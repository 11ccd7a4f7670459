-- The rules that give pairs behind a token, or behind the close of a step, are of one class.
-- Law: at_class, behind_class (pair_words/specs/OneClass.antt)
use Rattle.std.specs.Prelude.{ℕ, ◌+◌, ◌*◌, ◌≡◌, List, true}
use Rattle.std.proofs.Common.{ap}
use Rattle.std.proofs.lemmas.Bool.{false≢true}
use borrow.Author.Tests.{eqb-true}
use Rattle.laws.proofs.Bools.{and_left}
use Rattle.vpg.specs.declared.OpenName.{OpenName}
use Rattle.vpg.specs.declared.CloseName.{CloseName}
use Rattle.vpg.specs.declared.Rule.{Rule}
use Rattle.vpg.specs.declared.Token.{Token}
use Rattle.vpg.proofs.Tests.{open_is, same_is}
use Rattle.rule_index.specs.Classes.{spread, class_at, class_of}
use Rattle.pair_words.specs.Words.{gives_at, gives_behind}

pub at_class : (t : Token) (from : List ℕ) (R : Rule) → (gives_at t from).matches R ≡ true → class_of R ≡ class_at t
at_class t from (Rule.Empty L) e = absurd (false≢true e)
at_class t from (Rule.Next L i L₁) e = ap class_at (same_is i t e)
at_class t from (Rule.Step L a L₁ b L₂) e = ap class_at (open_is a t e)

pub behind_class : (a : OpenName) (b : CloseName) (done : ℕ) (from : List ℕ) (R : Rule) → (gives_behind a b done from).matches R ≡ true → class_of R ≡ class_at (Token.Open a)
behind_class a b done from (Rule.Empty L) e = absurd (false≢true e)
behind_class a b done from (Rule.Next L i L₁) e = absurd (false≢true e)
behind_class a b done from (Rule.Step L a' L₁ b' L₂) e = ap (λ (n : ℕ). 4 * spread n + 1) (eqb-true a'.0 a.0 (and_left _ _ e))
