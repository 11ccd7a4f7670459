-- The smallest rule that fits, found by the index: where the nonterminal can only end its empty rule, else the first of the class that fits.
use Prim.Native.Nat.{ℕ, suc, ◌<◌, ◌≤◌}
use native.Mathlib.Nat.{eq-or-lt_of_le}
use native.Mathlib.Omega.{arith}
use mathlib.Core.Path.{◌≡◌, refl, sym, ◌∙◌}
use mathlib.Core.Logic.{◌≢◌, ⊎_elim}
use mathlib.Core.Bool.{Bool, true, false, false≢true}
use borrow.Author.Tests.{ltb-true, ltb-false, le-leb, leb-true, leb-false}
use lib.Dec.{ltb, leb}
use Rattle.contexts.specs.declared.Context.{Context}
use Rattle.contexts.specs.Context.{code, token_here, may_end}
use Rattle.contexts.proofs.Ends.{ends-only, ends_stand, other_class}
use Rattle.tables.specs.declared.Head.{Head}
use Rattle.tables.specs.declared.Table.{Table}
use Rattle.tables.specs.Table.{rule_in}
use Rattle.rule_index.specs.Classes.{class_at, class_of}
use Rattle.rule_index.specs.Index.{FirstFrom, FirstEmpty}
use Rattle.moves.specs.Moves.{rule_fits, Smallest}

-- a fact of all numbers below k, and of all rules of another class, is one of all numbers below the first rule of the class from k on
pub below_first : (P : ℕ → Type 0) (t : Table) {rules c k n : ℕ} → FirstFrom t rules c k n → ((q : ℕ) → class_of (rule_in t q) ≢ c → P q) → ((q : ℕ) → q < k → P q) →
    (q : ℕ) → q < n → P q
below_first P t {k = k} f other h q l = go (ltb q k) refl
  where
    go : (b : Bool) → ltb q k ≡ b → P q
    go true e = h q (ltb-true q k e)
    go false e = other q (f.none q (ltb-false q k e) l)

module _ (t : Table) (head : Head) (L : ℕ) (context : Context) where
  -- where L can't only end, a rule of another class doesn't fit
  pub fits_apart : may_end head.well context L ≡ false → (q : ℕ) → class_of (rule_in t q) ≢ class_at (token_here context) → rule_fits head.well (rule_in t q) L context ≡ false
  fits_apart h q d = other_class head.well context (rule_in t q) L h d

  -- so up to the first rule of the class from number k on none fits
  pub none_over : may_end head.well context L ≡ false → (k n : ℕ) → FirstFrom t head.rules (class_at (token_here context)) k n →
      ((q : ℕ) → q < k → rule_fits head.well (rule_in t q) L context ≡ false) → (q : ℕ) → q < n → rule_fits head.well (rule_in t q) L context ≡ false
  none_over h k n f = below_first (λ q. rule_fits head.well (rule_in t q) L context ≡ false) t f (fits_apart h)

  pub empty_smallest : (r : ℕ) → may_end head.well context L ≡ true → FirstEmpty t head.rules L r → Smallest t head L context r
  empty_smallest r h f = record {
    most = f.most;
    found = λ l. ends_stand head.well context (rule_in t r) L h (f.found l);
    least = λ q l. go q l (rule_fits head.well (rule_in t q) L context) refl;
  }
    where
      go : (q : ℕ) → q < r → (b : Bool) → rule_fits head.well (rule_in t q) L context ≡ b → b ≡ false
      go q l true e = absurd (f.none q l (ends-only head.well context (rule_in t q) L h e))
      go q l false e = refl

  -- where the nonterminal can't only end there is a token
  pub no_end : may_end head.well context L ≡ false → code context.kind < 4
  no_end h = go (leb 4 (code context.kind)) refl
    where
      go : (b : Bool) → leb 4 (code context.kind) ≡ b → code context.kind < 4
      go true e = let l = leb-true 4 (code context.kind) e in absurd (false≢true (sym h ∙ rw (le-leb 2 (code context.kind) (omega arith), e)))
      go false e = leb-false 4 (code context.kind) e

-- one rule more that has a property
pub below_more : (P : ℕ → Type 0) (n : ℕ) → ((q : ℕ) → q < n → P q) → P n → (q : ℕ) → q < suc n → P q
below_more P n h x q l = ⊎_elim (λ e. rw e x) (λ k. h q k) (eq-or-lt_of_le (step l))
  where
    step : q < suc n → q ≤ n
    step k = omega arith
