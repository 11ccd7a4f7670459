-- What a token or a rule that passes a test is.
use Prim.Native.Nat.{ℕ}
use mathlib.Core.Path.{◌≡◌, refl, ◌∙◌, ap}
use mathlib.Core.Bool.{Bool, true, false≢true}
use borrow.Author.Tests.{eqb-true, eq-eqb}
use lib.Dec.{eqb}
use Rattle.vpg.specs.declared.MarkName.{MarkName}
use Rattle.vpg.specs.declared.OpenName.{OpenName}
use Rattle.vpg.specs.declared.CloseName.{CloseName}
use Rattle.vpg.specs.declared.Rule.{Rule}
use Rattle.vpg.specs.declared.Token.{Token}
use Rattle.vpg.specs.believed.Grammar.{left}
use Rattle.vpg.specs.Tests.{is_mark, is_open, is_close, same_token, any_close, if_empty, if_next, if_step}

-- ── names ──

pub name_mark : {x y : MarkName} → x.0 ≡ y.0 → x ≡ y
name_mark p = λ i. record { 0 = p i }

pub name_open : {x y : OpenName} → x.0 ≡ y.0 → x ≡ y
name_open p = λ i. record { 0 = p i }

pub name_close : {x y : CloseName} → x.0 ≡ y.0 → x ≡ y
name_close p = λ i. record { 0 = p i }

-- ── tokens ──

pub mark_is : (c : MarkName) (t : Token) → is_mark c t ≡ true → Token.Mark c ≡ t
mark_is c (Token.Mark c') q = ap Token.Mark (name_mark (eqb-true _ _ q))
mark_is c (Token.Open a) q = absurd (false≢true q)
mark_is c (Token.Close b) q = absurd (false≢true q)

pub open_is : (a : OpenName) (t : Token) → is_open a t ≡ true → Token.Open a ≡ t
open_is a (Token.Mark c) q = absurd (false≢true q)
open_is a (Token.Open a') q = ap Token.Open (name_open (eqb-true _ _ q))
open_is a (Token.Close b) q = absurd (false≢true q)

pub close_is : (b : CloseName) (t : Token) → is_close b t ≡ true → Token.Close b ≡ t
close_is b (Token.Mark c) q = absurd (false≢true q)
close_is b (Token.Open a) q = absurd (false≢true q)
close_is b (Token.Close b') q = ap Token.Close (name_close (eqb-true _ _ q))

pub same_is : (i t : Token) → same_token i t ≡ true → i ≡ t
same_is (Token.Mark c) t q = mark_is c t q
same_is (Token.Open a) t q = open_is a t q
same_is (Token.Close b) t q = close_is b t q

pub same_refl : (t : Token) → same_token t t ≡ true
same_refl (Token.Mark c) = eq-eqb c.0 c.0 refl
same_refl (Token.Open a) = eq-eqb a.0 a.0 refl
same_refl (Token.Close b) = eq-eqb b.0 b.0 refl

pub any_close_is : (t : Token) → any_close t ≡ true → (b : CloseName) × (Token.Close b ≡ t)
any_close_is (Token.Mark c) q = absurd (false≢true q)
any_close_is (Token.Open a) q = absurd (false≢true q)
any_close_is (Token.Close b) q = (b, refl)

-- ── rules ──

pub if_empty_lem : (test : ℕ → Bool) (R : Rule) → if_empty test R ≡ true → (R ≡ Rule.Empty (left R)) × (test (left R) ≡ true)
if_empty_lem test (Rule.Empty L) q = (refl, q)
if_empty_lem test (Rule.Next L i L₁) q = absurd (false≢true q)
if_empty_lem test (Rule.Step L a L₁ b L₂) q = absurd (false≢true q)

pub empty_is : (L : ℕ) (R : Rule) → if_empty (λ M. eqb M L) R ≡ true → R ≡ Rule.Empty L
empty_is L R q = let r = if_empty_lem (λ M. eqb M L) R q in r.0 ∙ ap Rule.Empty (eqb-true _ _ r.1)

pub record NextRule (test : ℕ → Token → ℕ → Bool) (R : Rule) : Type 0 where
  pub token : Token
  pub next : ℕ
  pub is : R ≡ Rule.Next (left R) token next
  pub passes : test (left R) token next ≡ true

pub if_next_lem : (test : ℕ → Token → ℕ → Bool) (R : Rule) → if_next test R ≡ true → NextRule test R
if_next_lem test (Rule.Empty L) q = absurd (false≢true q)
if_next_lem test (Rule.Next L i L₁) q = record { token = i; next = L₁; is = refl; passes = q }
if_next_lem test (Rule.Step L a L₁ b L₂) q = absurd (false≢true q)

pub record StepRule (test : ℕ → OpenName → ℕ → CloseName → ℕ → Bool) (R : Rule) : Type 0 where
  pub name : OpenName
  pub inside : ℕ
  pub close : CloseName
  pub next : ℕ
  pub is : R ≡ Rule.Step (left R) name inside close next
  pub passes : test (left R) name inside close next ≡ true

pub if_step_lem : (test : ℕ → OpenName → ℕ → CloseName → ℕ → Bool) (R : Rule) → if_step test R ≡ true → StepRule test R
if_step_lem test (Rule.Empty L) q = absurd (false≢true q)
if_step_lem test (Rule.Next L i L₁) q = absurd (false≢true q)
if_step_lem test (Rule.Step L a L₁ b L₂) q = record { name = a; inside = L₁; close = b; next = L₂; is = refl; passes = q }
