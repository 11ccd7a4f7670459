-- Tests of tokens and rules, by which the definitions that follow tell them apart: is it this mark, this open, this close; is the rule of this
-- form, and do its fields pass.
-- Law: mark_is, open_is, close_is, same_is, if_next_lem, if_step_lem (vpg/proofs/Tests.antt)
use Rattle.std.specs.Prelude.{ℕ, Bool, true, false, eqb}
use Rattle.vpg.specs.declared.MarkName.{MarkName}
use Rattle.vpg.specs.declared.OpenName.{OpenName}
use Rattle.vpg.specs.declared.CloseName.{CloseName}
use Rattle.vpg.specs.declared.Rule.{Rule}
use Rattle.vpg.specs.declared.Token.{Token}

-- ── tokens ──

abbrev pub is_mark : MarkName → Token → Bool
is_mark c (Token.Mark c') = eqb c.0 c'.0
is_mark c (Token.Open a) = false
is_mark c (Token.Close b) = false

abbrev pub is_open : OpenName → Token → Bool
is_open a (Token.Mark c) = false
is_open a (Token.Open a') = eqb a.0 a'.0
is_open a (Token.Close b) = false

abbrev pub is_close : CloseName → Token → Bool
is_close b (Token.Mark c) = false
is_close b (Token.Open a) = false
is_close b (Token.Close b') = eqb b.0 b'.0

-- is it this token
abbrev pub same_token : Token → Token → Bool
same_token (Token.Mark c) t = is_mark c t
same_token (Token.Open a) t = is_open a t
same_token (Token.Close b) t = is_close b t

abbrev pub any_close : Token → Bool
any_close (Token.Mark c) = false
any_close (Token.Open a) = false
any_close (Token.Close b) = true

-- ── rules ──

abbrev pub if_empty : (ℕ → Bool) → Rule → Bool
if_empty test (Rule.Empty L) = test L
if_empty test (Rule.Next L i L₁) = false
if_empty test (Rule.Step L a L₁ b L₂) = false

abbrev pub if_next : (ℕ → Token → ℕ → Bool) → Rule → Bool
if_next test (Rule.Empty L) = false
if_next test (Rule.Next L i L₁) = test L i L₁
if_next test (Rule.Step L a L₁ b L₂) = false

abbrev pub if_step : (ℕ → OpenName → ℕ → CloseName → ℕ → Bool) → Rule → Bool
if_step test (Rule.Empty L) = false
if_step test (Rule.Next L i L₁) = false
if_step test (Rule.Step L a L₁ b L₂) = test L a L₁ b L₂
