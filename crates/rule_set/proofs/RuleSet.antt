-- What is written has the rules of the set, and the nonterminals with which they go on.
use Prim.Native.Nat.{ℕ, zero, suc, ◌<◌, ◌≤◌}
use native.Mathlib.Omega.{arith}
use mathlib.Core.Path.{◌≡◌, refl, sym, ◌∙◌, ap}
use mathlib.Core.Logic.{◌≢◌}
use mathlib.Core.Bool.{Bool, true, false, cond, ◌&&◌, ◌||◌, or-false, and-false}
use mathlib.Core.List.{List}
use mathlib.Core.Option.{Option, none, some}
use lib.ListN.{length, length-set}
use Rattle.laws.specs.Any.{any, any_below}
use Rattle.laws.proofs.Any.{any_snoc}
use Rattle.laws.proofs.Bools.{or_comm, eqb_comm}
use Rattle.bits.specs.Bit.{bit}
use Rattle.bits.proofs.Bits.{bit-zero, bit-add}
use Rattle.vpg.specs.declared.Rule.{Rule}
use Rattle.vpg.specs.believed.Grammar.{left}
use Rattle.vpg.specs.Parts.{onward, beyond, is_it}
use Rattle.level_theory.specs.Kept.{goes_to, returns_to, going, returning}
use Rattle.tables.specs.declared.Table.{Table}
use Rattle.tables.specs.Table.{rule_in, rules_in}
use Rattle.rule_index.specs.Classes.{class_at, class_of}
use Rattle.rule_index.specs.Index.{FirstFrom}
use Rattle.rule_index.proofs.Chains.{passed}
use Rattle.contexts.specs.declared.Context.{Context}
use Rattle.contexts.specs.Context.{code, token_here}
use Rattle.contexts.proofs.Contexts.{applies_apart}
use Rattle.rule_set.specs.Words.{Held, add_in}
use Rattle.rule_set.specs.declared.Ways.{Ways}
use Rattle.rule_set.specs.RuleSet.{keeps_at, with_some, ways_with, ways_in, words_in}
use Rattle.rule_set.proofs.Words.{held_none, held_with, held_without}

-- ── one rule ──

some-bit : (x K : ℕ) (o : Option ℕ) → bit (with_some x o) K ≡ (bit x K || is_it o K)
some-bit x K none = sym (or-false (bit x K))
some-bit x K (some M) = bit-add x M K ∙ ap (λ (b : Bool). bit x K || b) (eqb_comm K M)

-- ── all rules ──

-- whether some rule passes, by the rules' numbers
pub any_numbers : (t : Table) (n : ℕ) (k : Rule → Bool) → any k (rules_in t n) ≡ any_below n (λ r. k (rule_in t r))
unfolding rules_in
any_numbers t zero k = refl
any_numbers t (suc n) k = any_snoc k (rules_in t n) (rule_in t n) ∙ rw (any_numbers t n k) (or_comm _ (k (rule_in t n)))

module _ (W : ℕ) (t : Table) (here : ℕ) (context : Context) where
  abbrev pub Keeps : ℕ → Bool
  Keeps r = keeps_at W here context (rule_in t r)

  abbrev Ways-of : ℕ → Ways
  Ways-of n = ways_in W t here context n

  abbrev Words-of : ℕ → List ℕ
  Words-of n = words_in W t here context n

  abbrev Class : ℕ
  Class = class_at (token_here context)

  module _ (h : code context.kind < 2) where
    -- at a mark or an open a rule of another class is not in the set
    other_class : (q : ℕ) → class_of (rule_in t q) ≢ Class → Keeps q ≡ false
    other_class q d = rw (applies_apart W t context h q d) (and-false (bit here (left (rule_in t q))))

    -- so up to the next rule of the class the ways and the words stay
    pub ways_passed : {rules k n : ℕ} → FirstFrom t rules (class_at (token_here context)) k n → ways_in W t here context n ≡ ways_in W t here context k
    unfolding ways_in
    ways_passed = passed Ways-of t Class same
      where
        same : (q : ℕ) → class_of (rule_in t q) ≢ Class → Ways-of (suc q) ≡ Ways-of q
        same q d = rw (other_class q d)

    pub words_passed : {rules k n : ℕ} → FirstFrom t rules (class_at (token_here context)) k n → words_in W t here context n ≡ words_in W t here context k
    unfolding words_in
    words_passed = passed Words-of t Class same
      where
        same : (q : ℕ) → class_of (rule_in t q) ≢ Class → Words-of (suc q) ≡ Words-of q
        same q d = rw (other_class q d)

  -- which they are
  pub words_held : (n : ℕ) → n ≤ 128 → (length (words_in W t here context n) ≡ 4) × Held 32 n Keeps (words_in W t here context n)
  unfolding words_in
  words_held zero h = (refl, held_none 32 Keeps 4)
  words_held (suc n) h = go (Keeps n) refl (words_held n (omega arith))
    where
      go : (b : Bool) → Keeps n ≡ b → (length (Words-of n) ≡ 4) × Held 32 n Keeps (Words-of n) →
          (length (cond b (add_in 32 (Words-of n) n) (Words-of n)) ≡ 4) × Held 32 (suc n) Keeps (cond b (add_in 32 (Words-of n) n) (Words-of n))
      go true q (l, k) = (length-set (Words-of n) _ _ ∙ l, held_with 32 n Keeps (Words-of n) (omega arith) (omega arith) q k)
      go false q (l, k) = (l, held_without 32 n Keeps (Words-of n) q k)

  -- one rule more, where a set of nonterminals grows by what the rules of the set say
  grows : (f : Ways → ℕ) (k : Rule → Bool) (K n : ℕ) (b : Bool) → keeps_at W here context (rule_in t n) ≡ b → bit (f (ways_with (Ways-of n) (rule_in t n))) K ≡ (bit (f (Ways-of n)) K || k (rule_in t n)) →
      bit (f (Ways-of n)) K ≡ any (λ R. keeps_at W here context R && k R) (rules_in t n) →
      bit (f (cond b (ways_with (Ways-of n) (rule_in t n)) (Ways-of n))) K ≡ any (λ R. keeps_at W here context R && k R) (rules_in t (suc n))
  unfolding rules_in
  grows f k K n true q e h = rw any_snoc (e ∙ rw (h, q))
  grows f k K n false q e h = rw any_snoc (h ∙ rw q (sym (or-false _)))

  -- the nonterminals at the next position
  pub next-going : (K n : ℕ) → bit (ways_in W t here context n).next K ≡ going (keeps_at W here context) (rules_in t n) K
  unfolding ways_in rules_in
  next-going K zero = bit-zero K
  next-going K (suc n) = grows (λ x. x.next) (λ R. goes_to R K) K n _ refl (some-bit (Ways-of n).next K (onward (rule_in t n))) (next-going K n)

  -- and those behind the close
  pub behind-returning : (K n : ℕ) → bit (ways_in W t here context n).behind K ≡ returning (keeps_at W here context) (rules_in t n) K
  unfolding ways_in rules_in
  behind-returning K zero = bit-zero K
  behind-returning K (suc n) = grows (λ x. x.behind) (λ R. returns_to R K) K n _ refl (some-bit (Ways-of n).behind K (beyond (rule_in t n))) (behind-returning K n)
