-- Which rules a token or the close of a step allows, and the words of a state behind it: word L is the set of the contexts in which L is current.
-- Law: bit_words (pair_words/proofs/Digits.antt)
use Rattle.std.specs.Prelude.{ℕ, zero, suc, Bool, false, cond, ◌&&◌, List, eqb, get_or, set}
use Rattle.std.proofs.Math.Option.{Option, none, some}
use Rattle.std.specs.Int.Bits.{bit_or}
use Rattle.bits.specs.Bit.{bit, add_bit}
use Rattle.laws.specs.Any.{any_below}
use Rattle.vpg.specs.declared.OpenName.{OpenName}
use Rattle.vpg.specs.declared.CloseName.{CloseName}
use Rattle.vpg.specs.declared.Rule.{Rule}
use Rattle.vpg.specs.declared.Token.{Token}
use Rattle.vpg.specs.believed.Grammar.{left}
use Rattle.vpg.specs.Tests.{is_open, same_token, if_step}
use Rattle.vpg.specs.Parts.{onward, beyond}
use Rattle.tables.specs.declared.Table.{Table}
use Rattle.tables.specs.Table.{rule_in}

-- ── one rule ──

-- which rules are looked for, and what each of them gives: the nonterminal that is current next, and the contexts in which it is
pub record Gives : Type 0 where
  pub matches : Rule → Bool
  pub follows : Rule → ℕ
  pub contexts : Rule → ℕ

-- L where there is no other
abbrev pub or_else : ℕ → Option ℕ → ℕ
or_else L none = L
or_else L (some M) = M

-- is the token the first one of what the rule becomes
abbrev pub begins : Token → Rule → Bool
begins t (Rule.Empty L) = false
begins t (Rule.Next L i L₁) = same_token i t
begins t (Rule.Step L a L₁ b L₂) = is_open a t

-- itself alone as context, where own, the contexts of the rule's own nonterminal, has any
abbrev pub itself_of : ℕ → ℕ → ℕ
itself_of own next = cond (any_below 32 (bit own)) (add_bit 0 next) 0

-- the contexts of the nonterminal behind the first token: those of the rule's own; inside a step itself alone
abbrev pub contexts_in : ℕ → Rule → ℕ
contexts_in own (Rule.Empty L) = own
contexts_in own (Rule.Next L i L₁) = own
contexts_in own (Rule.Step L a L₁ b L₂) = itself_of own L₁

-- the same by the form of the rule
abbrev pub contexts_by : ℕ → ℕ → ℕ → ℕ
contexts_by form own next = cond (eqb form 2) (itself_of own next) own

-- behind a token that a rule takes alone, or that opens its step; from: the words before the token
abbrev pub gives_at : Token → List ℕ → Gives
gives_at t from = record { matches = begins t; follows = λ R. or_else (left R) (onward R); contexts = λ R. contexts_in (get_or from (left R) 0) R }

-- behind the close of a step; from: the words before its open; done: the nonterminals with which its inside may begin
abbrev pub gives_behind : OpenName → CloseName → ℕ → List ℕ → Gives
gives_behind a b done from = record {
  matches = if_step (λ L a' L₁ b' L₂. eqb a'.0 a.0 && (eqb b'.0 b.0 && bit done L₁));
  follows = λ R. or_else (left R) (beyond R);
  contexts = λ R. get_or from (left R) 0;
}

-- ── all rules ──

-- word L with the members of a set besides
abbrev pub joined : List ℕ → ℕ → ℕ → List ℕ
joined words L m = set words L (bit_or (get_or words L 0) m)

-- what one rule adds
abbrev pub gained : Gives → List ℕ → Rule → List ℕ
gained p out R = cond (p.matches R) (joined out (p.follows R) (p.contexts R)) out

-- what the first n rules of a table give; base: what there is besides
unfoldable pub words_by : Gives → List ℕ → Table → ℕ → List ℕ
words_by p base t zero = base
words_by p base t (suc n) = gained p (words_by p base t n) (rule_in t n)
