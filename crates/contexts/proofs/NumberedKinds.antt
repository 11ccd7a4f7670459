-- A pass asks the same of a number and of the kind that it stands for, whatever the number is.
use Prim.Native.Nat.{ℕ, zero, suc, ◌/◌, ◌<◌, ◌≤◌}
use native.Mathlib.Omega.{arith}
use mathlib.Core.Path.{◌≡◌, refl, ◌∙◌}
use borrow.Author.Tests.{ne_eqb, le-ltb, le-leb, lt-leb, leb-true, leb-false}
use lib.Dec.{leb}
use Rattle.vpg.specs.declared.Rule.{Rule}
use Rattle.vpg.specs.declared.Token.{Token}
use Rattle.history_file.specs.believed.HistoryFile.{token_with}
use Rattle.contexts.specs.declared.Kind.{Kind}
use Rattle.contexts.specs.Context.{code, kind_with, kind_fits, AtKind}

-- a number from 4 on
far : (k : ℕ) → 4 ≤ k → kind_with k ≡ Kind.End
far k h = rw (ne_eqb k 0 (λ e. omega (arith, e)), ne_eqb k 1 (λ e. omega (arith, e)), le-ltb k 4 h) refl

pub numbered_token : (k name : ℕ) → token_with (code (kind_with k)) name ≡ token_with k name
unfolding token_with
numbered_token zero name = refl
numbered_token (suc zero) name = refl
numbered_token (suc (suc zero)) name = refl
numbered_token (suc (suc (suc zero))) name = refl
numbered_token (suc (suc (suc (suc k)))) name = rw (far (suc (suc (suc (suc k)))) (omega arith), ne_eqb (suc (suc (suc (suc k)))) 0 (λ e. omega (arith, e)), ne_eqb (suc (suc (suc (suc k)))) 1 (λ e. omega (arith, e))) refl

pub numbered_close : (k : ℕ) → leb 2 (code (kind_with k)) ≡ leb 2 k
numbered_close zero = refl
numbered_close (suc zero) = refl
numbered_close (suc (suc zero)) = refl
numbered_close (suc (suc (suc zero))) = refl
numbered_close (suc (suc (suc (suc k)))) = rw (far (suc (suc (suc (suc k)))) (omega arith), le-leb 2 (suc (suc (suc (suc k)))) (omega arith)) refl

pub numbered_end : (k : ℕ) → leb 4 (code (kind_with k)) ≡ leb 4 k
numbered_end zero = refl
numbered_end (suc zero) = refl
numbered_end (suc (suc zero)) = refl
numbered_end (suc (suc (suc zero))) = refl
numbered_end (suc (suc (suc (suc k)))) = rw (far (suc (suc (suc (suc k)))) (omega arith), le-leb 4 (suc (suc (suc (suc k)))) (omega arith)) refl

pub numbered_fits : (form k : ℕ) → kind_fits form (code (kind_with k)) ≡ kind_fits form k
numbered_fits form zero = refl
numbered_fits form (suc zero) = refl
numbered_fits form (suc (suc zero)) = refl
numbered_fits form (suc (suc (suc zero))) = refl
numbered_fits form (suc (suc (suc (suc k)))) = rw (far (suc (suc (suc (suc k)))) (omega arith), ne_eqb (suc (suc (suc (suc k)))) 0 (λ e. omega (arith, e)), ne_eqb (suc (suc (suc (suc k)))) 1 (λ e. omega (arith, e)), ne_eqb (suc (suc (suc (suc k))) / 2) 1 (λ e. omega (arith, e))) refl

-- what stands in the `requires` of a number stands in that of the kind
pub numbered_near : (k : ℕ) → k < 4 → code (kind_with k) < 4
numbered_near k h = leb-false 4 (code (kind_with k)) (numbered_end k ∙ lt-leb 4 k h)

pub numbered_rule : (R : Rule) (k : ℕ) → AtKind R k → AtKind R (code (kind_with k))
numbered_rule (Rule.Empty L) k h = absurd h
numbered_rule (Rule.Next L (Token.Mark c) L₁) k h = rw h refl
numbered_rule (Rule.Next L (Token.Open a) L₁) k h = rw h refl
numbered_rule (Rule.Next L (Token.Close b) L₁) k h = (leb-true 2 (code (kind_with k)) (numbered_close k ∙ le-leb 2 k h.0), numbered_near k h.1)
numbered_rule (Rule.Step L a L₁ b L₂) k h = rw h refl
