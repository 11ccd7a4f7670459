-- Contexts and words: the rules that can stand at a place are those that can stand before the tokens there.
use Prim.Native.Nat.{ℕ, zero, suc, ◌<◌}
use native.Mathlib.Omega.{arith}
use mathlib.Core.Path.{◌≡◌, refl, sym, ◌∙◌}
use mathlib.Core.Logic.{◌≢◌}
use mathlib.Core.Bool.{Bool, true, false, cond, ◌&&◌, ◌||◌, or-false, and-true, and-false}
use lib.Dec.{eqb}
use Rattle.laws.proofs.Bools.{eqb_comm}
use Rattle.laws.proofs.Any.{any_snoc}
use Rattle.bits.specs.Bit.{bit, add_bit}
use Rattle.bits.proofs.Bits.{bit-zero, bit-add}
use Rattle.vpg.specs.Tests.{any_close}
use Rattle.vpg.specs.believed.Grammar.{left}
use Rattle.level_theory.specs.Masks.{lefts}
use Rattle.tables.specs.declared.Table.{Table}
use Rattle.tables.specs.Table.{rule_in, rules_in}
use Rattle.history_file.specs.believed.HistoryFile.{token_with}
use Rattle.contexts.specs.declared.Context.{Context}
use Rattle.rule_index.specs.Classes.{class_at, class_of}
use Rattle.rule_index.proofs.Classes.{class_apart}
use Rattle.contexts.specs.Context.{code, token_here, low_here, inside_here, after_close, applies_to, level_in}

-- a digit of a word to which a number is added, if a test passes
pub with-bit : (q : Bool) (m l L : ℕ) (s : Bool) → bit m L ≡ s → bit (cond q (add_bit m l) m) L ≡ (s || (eqb l L && q))
with-bit true m l L s e = bit-add m l L ∙ rw (e, eqb_comm L l, and-true (eqb l L))
with-bit false m l L s e = e ∙ sym (rw (and-false (eqb l L)) (or-false s))

-- a nonterminal is in the level exactly when one of its rules can stand here
pub level-bit : (W : ℕ) (t : Table) (p : Context) (n L : ℕ) → bit (level_in W t p n) L ≡ lefts (λ R. applies_to W R p) (rules_in t n) L
unfolding level_in rules_in
level-bit W t p zero L = bit-zero L
level-bit W t p (suc n) L =
    with-bit (applies_to W (rule_in t n) p) (level_in W t p n) (left (rule_in t n)) L _ (level-bit W t p n L)
    ∙ sym (any_snoc (λ R. eqb (left R) L && applies_to W R p) (rules_in t n) (rule_in t n))

-- the kinds of marks and opens
no_close : (p : Context) → code p.kind < 2 → any_close (token_here p) ≡ false
unfolding token_with
no_close p h = go (code p.kind) h
  where
    go : (k : ℕ) → k < 2 → any_close (token_with k p.name) ≡ false
    go zero h = refl
    go (suc zero) h = refl
    go (suc (suc k)) h = absurd (omega arith)

-- at a mark or an open a rule of another class can't stand
module _ (W : ℕ) (t : Table) (p : Context) (h : code p.kind < 2) (q : ℕ) (d : class_of (rule_in t q) ≢ class_at (token_here p)) where
  pub applies_apart : applies_to W (rule_in t q) p ≡ false
  applies_apart = class_apart (low_here W p (left (rule_in t q))) (inside_here p) (after_close p) (token_here p) (no_close p h) (rule_in t q) d
