-- The smallest larger rule that fits: it is of the class of the old one, which fits too.
use Prim.Native.Nat.{ℕ, suc, ◌<◌, ◌≤◌}
use native.Mathlib.Nat.{eq-or-lt_of_le}
use native.Mathlib.Omega.{arith}
use mathlib.Core.Path.{◌≡◌, refl, sym, ◌∙◌}
use mathlib.Core.Logic.{◌≢◌, ⊎_elim}
use mathlib.Core.Bool.{Bool, true, false}
use borrow.Author.Tests.{eqb-true}
use lib.Dec.{eqb}
use Rattle.laws.proofs.Bools.{and_left, and_right}
use Rattle.vpg.specs.believed.Grammar.{left}
use Rattle.contexts.specs.declared.Context.{Context}
use Rattle.contexts.specs.Context.{token_here, low_here, inside_here, after_close, applies_to}
use Rattle.tables.specs.declared.Table.{Table}
use Rattle.tables.specs.Table.{rule_in}
use Rattle.rule_index.specs.Classes.{class_of}
use Rattle.rule_index.specs.Index.{FirstFrom}
use Rattle.rule_index.proofs.Classes.{one_class}
use Rattle.moves.specs.Moves.{rule_fits}
use Rattle.moves.proofs.Walking.{below_first}

-- no rule between the old one and r fits
abbrev pub NoneBetween : ℕ → Table → ℕ → ℕ → Context → ℕ → Type 0
NoneBetween W t old L context r = (s : ℕ) → old < s → s < r → rule_fits W (rule_in t s) L context ≡ false

pub between_more : (W : ℕ) (t : Table) (old L : ℕ) (context : Context) (r : ℕ) → NoneBetween W t old L context r → rule_fits W (rule_in t r) L context ≡ false → NoneBetween W t old L context (suc r)
between_more W t old L context r h q s l k = ⊎_elim (λ e. rw e q) (λ z. h s l z) (eq-or-lt_of_le (step k))
  where
    step : s < suc r → s ≤ r
    step z = omega arith

module _ (W : ℕ) (t : Table) (old L : ℕ) (context : Context) (fits : rule_fits W (rule_in t old) L context ≡ true) where
  fits_class : (r : ℕ) → rule_fits W (rule_in t r) L context ≡ true → class_of (rule_in t r) ≡ class_of (rule_in t old)
  fits_class r h =
      one_class (low_here W context L) (inside_here context) (after_close context) (token_here context) (rule_in t r) (rule_in t old) (for r h ∙ sym (for old fits)) (rw (for r h) at (stands r h)) (rw (for old fits) at (stands old fits))
    where
      for : (q : ℕ) → rule_fits W (rule_in t q) L context ≡ true → left (rule_in t q) ≡ L
      for q x = eqb-true (left (rule_in t q)) L (and_left (eqb (left (rule_in t q)) L) (applies_to W (rule_in t q) context) x)

      stands : (q : ℕ) → rule_fits W (rule_in t q) L context ≡ true → applies_to W (rule_in t q) context ≡ true
      stands q x = and_right (eqb (left (rule_in t q)) L) (applies_to W (rule_in t q) context) x

  -- nor does one of another class
  pub between_first : {rules k n : ℕ} → FirstFrom t rules (class_of (rule_in t old)) k n → NoneBetween W t old L context k → NoneBetween W t old L context n
  between_first f h s l m = below_first (λ q. old < q → rule_fits W (rule_in t q) L context ≡ false) t f (λ q d e. go q d (rule_fits W (rule_in t q) L context) refl) (λ q e g. h q g e) s m l
    where
      go : (q : ℕ) → class_of (rule_in t q) ≢ class_of (rule_in t old) → (b : Bool) → rule_fits W (rule_in t q) L context ≡ b → b ≡ false
      go q d true e = absurd (d (fits_class q e))
      go q d false e = refl
