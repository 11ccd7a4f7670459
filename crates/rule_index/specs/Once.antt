-- That a table is indexed has one proof alone, which a fact that stands in a struct has to show: the parts of it that go by cases.
-- Inner: index_rules (rule_index/src/lib.rt)
use Rattle.std.specs.Prelude.{ℕ}
use Rattle.std.specs.Coded.{×_prop, →_prop, Unit-prop, le_prop}
use Rattle.std.proofs.Math.Option.{Option, none, some}
use Rattle.vpg.specs.declared.Rule.{Rule}
use Rattle.vpg.specs.declared.Token.{Token}
use Rattle.vpg.specs.believed.Grammar.{InForm, Plain}
use Rattle.tables.specs.Ready.{Small}

pub small_once : (n : ℕ) (o : Option ℕ) → IsProp (Small n o)
small_once n none = Unit-prop
small_once n (some L) = le_prop

pub plain_once : (i : Token) → IsProp (Plain i)
plain_once (Token.Mark c) = Unit-prop
plain_once (Token.Open a) = λ x y. absurd x
plain_once (Token.Close b) = λ x y. absurd x

pub form_once : (W : ℕ) (R : Rule) → IsProp (InForm W R)
form_once W (Rule.Empty L) = Unit-prop
form_once W (Rule.Next L i L₁) = →_prop (×_prop (plain_once i) le_prop)
form_once W (Rule.Step L a L₁ b L₂) = ×_prop le_prop (→_prop le_prop)
