-- The rules looked for are of one class, so that a walk of that class gives the words that all rules give.
use Prim.Native.Nat.{ℕ, suc}
use mathlib.Core.Path.{◌≡◌, refl, sym, ◌∙◌, ap}
use mathlib.Core.Bool.{Bool, true, false, cond}
use mathlib.Core.Logic.{◌≢◌}
use mathlib.Core.List.{List}
use lib.ListN.{length}
use Rattle.vpg.specs.declared.Rule.{Rule}
use Rattle.tables.specs.declared.Table.{Table}
use Rattle.tables.specs.Table.{rule_in}
use Rattle.rule_index.specs.Classes.{class_of}
use Rattle.rule_index.specs.Index.{FirstFrom}
use Rattle.rule_index.proofs.Chains.{passed}
use Rattle.pair_words.specs.Words.{Gives, gained, words_by}
use Rattle.pair_words.proofs.Digits.{words_size}

-- the rules looked for are of class c
abbrev OfClass : Gives → ℕ → Type 0
OfClass p c = (R : Rule) → p.matches R ≡ true → class_of R ≡ c

module _ (p : Gives) (base : List ℕ) (t : Table) (c : ℕ) (one : OfClass p c) where
  -- a rule of another class adds nothing
  other : (q : ℕ) → class_of (rule_in t q) ≢ c → words_by p base t (suc q) ≡ words_by p base t q
  unfolding words_by
  other q d = go (p.matches (rule_in t q)) refl _
    where
      go : (b : Bool) → p.matches (rule_in t q) ≡ b → (x : List ℕ) → cond b x (words_by p base t q) ≡ words_by p base t q
      go true e x = absurd (d (one (rule_in t q) e))
      go false e x = refl

  pub words_none : base ≡ words_by p base t 0
  unfolding words_by
  words_none = refl

  -- so up to the first rule of the class from number k on nothing is added
  pub words_over : {rules : ℕ} {out : List ℕ} → (k n : ℕ) → FirstFrom t rules c k n → out ≡ words_by p base t k → out ≡ words_by p base t n
  words_over k n f e = e ∙ sym (passed (words_by p base t) t c other f)

  pub words_length : (k : ℕ) (out : List ℕ) → length base ≡ 32 → out ≡ words_by p base t k → length out ≡ 32
  words_length k out l e = rw e (words_size p base l t k)

  pub words_turn : (k : ℕ) (out out' : List ℕ) → out ≡ words_by p base t k → out' ≡ gained p out (rule_in t k) → out' ≡ words_by p base t (suc k)
  unfolding words_by
  words_turn k out out' e i = i ∙ ap (λ (o : List ℕ). gained p o (rule_in t k)) e
