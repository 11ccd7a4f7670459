-- A rule stands only at tokens of its class, and at a close if it is empty.
use Prim.Native.Nat.{ℕ, ◌+◌, ◌/◌, ◌<◌}
use native.Mathlib.Nat.{mod-lt}
use native.Mathlib.Omega.{arith}
use mathlib.Core.Path.{◌≡◌, refl, sym, ◌∙◌, ap}
use mathlib.Core.Logic.{◌≢◌, ◌⊎◌, inl, inr, ⊎_elim}
use mathlib.Core.Bool.{Bool, true, false, not, false≢true}
use Rattle.laws.proofs.Bools.{and_left, and_right}
use Rattle.vpg.specs.declared.CloseName.{CloseName}
use Rattle.vpg.specs.declared.Rule.{Rule}
use Rattle.vpg.specs.declared.Token.{Token}
use Rattle.vpg.specs.believed.Grammar.{left}
use Rattle.vpg.specs.Tests.{is_open, any_close, same_token}
use Rattle.vpg.proofs.Tests.{open_is, same_is}
use Rattle.level_theory.specs.Masks.{Nonterminals, alone, stands}
use Rattle.rule_index.specs.Classes.{spread, class_at, empty_class, class_of}

spread_small : (name : ℕ) → spread name < 64
spread_small name = mod-lt (name + name / 64 + name / 4096) {m = 64} (omega arith)

pub class_small : (t : Token) → class_at t < 256
class_small (Token.Mark c) = omega (arith, spread_small c.0)
class_small (Token.Open a) = omega (arith, spread_small a.0)
class_small (Token.Close b) = omega (arith, spread_small b.0)

pub rule_class_small : (R : Rule) → left R < 32 → class_of R < 256
rule_class_small (Rule.Empty L) l = omega arith
rule_class_small (Rule.Next L i L₁) l = class_small i
rule_class_small (Rule.Step L a L₁ b L₂) l = omega (arith, spread_small a.0)

token_class : (t : Token) (L : ℕ) → class_at t ≢ empty_class L
token_class (Token.Mark c) L e = omega arith
token_class (Token.Open a) L e = omega arith
token_class (Token.Close b) L e = omega arith

-- no other rule is of the class of the empty rules of L
pub empty_class_lem : (R : Rule) (L : ℕ) → class_of R ≡ empty_class L → R ≡ Rule.Empty L
empty_class_lem (Rule.Empty M) L e = let s : M ≡ L = omega arith in ap Rule.Empty s
empty_class_lem (Rule.Next M i M₁) L e = absurd (token_class i L e)
empty_class_lem (Rule.Step M a M₁ b M₂) L e = absurd (omega arith)

module _ (low : Bool) (inside : Bool → Nonterminals) (after : Bool → CloseName → Nonterminals) where
  -- a rule that can stand at a token is of its class, and at a close not for a well-matched nonterminal; or it is empty, at a close and for such one
  pub record InClass (t : Token) (R : Rule) : Type 0 where
    pub class : class_of R ≡ class_at t
    pub high : any_close t ≡ true → low ≡ false

  pub record Ends (t : Token) (R : Rule) : Type 0 where
    pub empty : R ≡ Rule.Empty (left R)
    pub closes : any_close t ≡ true
    pub well : low ≡ true

  not_true : (b : Bool) → not b ≡ true → b ≡ false
  not_true true q = absurd (false≢true q)
  not_true false q = refl

  alone_high : (i : Token) → alone i low ≡ true → any_close i ≡ true → low ≡ false
  alone_high (Token.Mark c) q o = absurd (false≢true o)
  alone_high (Token.Open a) q o = absurd (false≢true o)
  alone_high (Token.Close b) q o = not_true low q

  pub stands_class : (t : Token) (R : Rule) → stands low inside after t R ≡ true → InClass t R ⊎ Ends t R
  stands_class t (Rule.Empty M) e = inr (record { empty = refl; closes = and_right low (any_close t) e; well = and_left low (any_close t) e })
  stands_class t (Rule.Next M i M₁) e =
      let s = same_is i t (and_left (same_token i t) _ e) in
      inl (record { class = ap class_at s; high = λ o. alone_high i (and_left (alone i low) _ (and_right (same_token i t) _ e)) (rw s o) })
  stands_class t (Rule.Step M a M₁ b M₂) e =
      let s = open_is a t (and_left (is_open a t) _ e) in
      inl (record { class = ap class_at s; high = λ o. absurd (false≢true (rw (← s) at o)) })

  -- a rule of another class can't stand at a mark or an open
  pub class_apart : (t : Token) → any_close t ≡ false → (R : Rule) → class_of R ≢ class_at t → stands low inside after t R ≡ false
  class_apart t o R d = go (stands low inside after t R) refl
    where
      go : (b : Bool) → stands low inside after t R ≡ b → b ≡ false
      go true e = ⊎_elim (λ h. absurd (d h.class)) (λ h. absurd (false≢true (sym o ∙ h.closes))) (stands_class t R e)
      go false e = refl

  -- for a well-matched nonterminal no rule but the empty one stands at a close
  pub low_class : (t : Token) (R : Rule) → low ≡ true → any_close t ≡ true → stands low inside after t R ≡ true → R ≡ Rule.Empty (left R)
  low_class t R l o e = ⊎_elim (λ h. absurd (false≢true (sym (h.high o) ∙ l))) (λ h. h.empty) (stands_class t R e)

  -- rules for one nonterminal that can stand at one token are of one class
  pub one_class : (t : Token) (R S : Rule) → left R ≡ left S → stands low inside after t R ≡ true → stands low inside after t S ≡ true → class_of R ≡ class_of S
  one_class t R S l a b = go (stands_class t R a) (stands_class t S b)
    where
      go : InClass t R ⊎ Ends t R → InClass t S ⊎ Ends t S → class_of R ≡ class_of S
      go (inl h) (inl k) = h.class ∙ sym k.class
      go (inl h) (inr k) = absurd (false≢true (sym (h.high k.closes) ∙ k.well))
      go (inr h) (inl k) = absurd (false≢true (sym (k.high h.closes) ∙ h.well))
      go (inr h) (inr k) = ap class_of h.empty ∙ ap empty_class l ∙ sym (ap class_of k.empty)
