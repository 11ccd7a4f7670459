-- What stands at a position, in words and names, and which rules can stand there. The nonterminals below W are the well-matched ones.
-- Law: level-bit (contexts/proofs/Contexts.antt)
-- Law: taken (contexts/proofs/Forms.antt)
-- Law: numbered_token, numbered_close, numbered_end, numbered_fits, numbered_near, numbered_rule (contexts/proofs/NumberedKinds.antt)
use Rattle.std.specs.Prelude.{ℕ, zero, suc, ◌/◌, ◌<◌, ◌≤◌, ◌≡◌, Bool, true, cond, ◌&&◌, ◌||◌, eqb, ltb, leb}
use Rattle.bits.specs.Bit.{bit, add_bit}
use Rattle.vpg.specs.declared.CloseName.{CloseName}
use Rattle.vpg.specs.declared.Rule.{Rule}
use Rattle.vpg.specs.declared.Token.{Token}
use Rattle.vpg.specs.believed.Grammar.{left}
use Rattle.level_theory.specs.Masks.{Nonterminals, stands}
use Rattle.vpg.specs.Forms.{name_of}
use Rattle.tables.specs.declared.Table.{Table}
use Rattle.tables.specs.Table.{rule_in}
use Rattle.rule_index.specs.Goals.{goal, inside_goal, after_goal}
use Rattle.rule_index.specs.Index.{low_ends_in}
use Rattle.history_file.specs.believed.HistoryFile.{token_with}
use Rattle.contexts.specs.declared.Kind.{Kind}
use Rattle.contexts.specs.declared.Context.{Context}

-- the number of a kind; that of the end is 4, none of a token's
abbrev pub code : Kind → ℕ
code Kind.Mark = 0
code Kind.Open = 1
code Kind.Close = 2
code Kind.End = 4

-- the kind that any number stands for: a pass asks the same of both
abbrev pub kind_with : ℕ → Kind
kind_with k = cond (eqb k 0) Kind.Mark (cond (eqb k 1) Kind.Open (cond (ltb k 4) Kind.Close Kind.End))

abbrev pub token_here : Context → Token
token_here p = token_with (code p.kind) p.name

-- is L a well-matched nonterminal; at the end every one may end as these do before a close
abbrev pub low_here : ℕ → Context → Nonterminals
low_here W p L = leb 4 (code p.kind) || ltb L W

-- can L only end here: at a close a well-matched one, at the end every one
abbrev pub may_end : ℕ → Context → Nonterminals
may_end W p L = leb 2 (code p.kind) && low_here W p L

-- may a rule go on with L behind the token; low: is the rest of the level enough
abbrev pub inside_here : Context → Bool → Nonterminals
inside_here p low L = bit p.inside (goal low L)

-- may a rule go on with L behind the close of its step, and the close is b
abbrev pub after_close : Context → Bool → CloseName → Nonterminals
after_close p low b L = eqb b.0 p.close.0 && bit p.after (goal low L)

-- can the rule stand here
abbrev pub applies_to : ℕ → Rule → Context → Bool
applies_to W R p = stands (low_here W p (left R)) (inside_here p) (after_close p) (token_here p) R

-- ── rules that stand only at tokens of one kind ──

-- is the kind that of the token; every kind but those of marks and opens is that of closes, and the end has kind 4
abbrev pub KindOf : Token → ℕ → Type 0
KindOf (Token.Mark c) k = k ≡ 0
KindOf (Token.Open a) k = k ≡ 1
KindOf (Token.Close b) k = (2 ≤ k) × (k < 4)

-- is it that of the tokens at which the rule stands
abbrev pub AtKind : Rule → ℕ → Type 0
AtKind (Rule.Empty L) k = ⊥
AtKind (Rule.Next L i L₁) k = KindOf i k
AtKind (Rule.Step L a L₁ b L₂) k = k ≡ 1

-- the same test by the form of a rule
abbrev pub kind_fits : ℕ → ℕ → Bool
kind_fits form kind = cond (eqb form 4) (eqb (kind / 2) 1) (cond (eqb form 3) (eqb kind 1) (cond (eqb form 2) (eqb kind 1) (eqb kind 0)))

-- the name of a rule's first token; of an empty rule there is none
abbrev pub first_name : Rule → ℕ
first_name (Rule.Empty L) = 0
first_name (Rule.Next L i L₁) = name_of i
first_name (Rule.Step L a L₁ b L₂) = a.0

-- of a step: its close stands behind the inside, and what follows that can be derived
abbrev pub closes_by : ℕ → Rule → Context → Bool
closes_by W (Rule.Empty L) p = true
closes_by W (Rule.Next L i L₁) p = true
closes_by W (Rule.Step L a L₁ b L₂) p = eqb b.0 p.close.0 && bit p.after (after_goal W (Rule.Step L a L₁ b L₂))

-- can a rule that stands at tokens of this kind stand here: by its names and by two digits
abbrev pub takes_by : ℕ → Rule → Context → Bool
takes_by W R p = eqb (first_name R) p.name && (bit p.inside (inside_goal W R) && closes_by W R p)

-- ── levels ──

-- what stands at the end, behind n tokens: as before a close, with nothing behind it
abbrev pub end_context : ℕ → Context
end_context n = record { position = n; closing = n; kind = Kind.End; name = 0; inside = 0; close = record { 0 = 0 }; after = 0 }

-- the nonterminals that an empty rule lets stand here, whatever the other rules
abbrev pub base_of : Table → Context → ℕ
base_of t p = cond (leb 2 (code p.kind)) (low_ends_in t) 0

abbrev pub with_left : ℕ → ℕ → Rule → Context → ℕ
with_left W set rule p = cond (applies_to W rule p) (add_bit set (left rule)) set

-- the nonterminals of the first n rules of a table that can stand here
unfoldable pub level_in : ℕ → Table → Context → ℕ → ℕ
level_in W t p zero = 0
level_in W t p (suc n) = with_left W (level_in W t p n) (rule_in t n) p
