-- The digits of the words that rules give.
use Prim.Native.Nat.{ℕ, zero, suc, ◌<◌}
use native.Mathlib.Omega.{arith}
use mathlib.Core.Path.{◌≡◌, refl, sym, ◌∙◌, ap}
use mathlib.Core.Bool.{Bool, true, false, cond, ◌&&◌, ◌||◌, false≢true, or-false, or_assoc}
use mathlib.Core.List.{List}
use borrow.Author.Tests.{eqb-true, eq-eqb}
use lib.Bits.{bit_or}
use lib.Dec.{eqb}
use lib.ListN.{length, get_or, length-set}
use lib.Seq.{get_or-set_same, get_or-set_other}
use Rattle.laws.specs.Any.{any}
use Rattle.laws.proofs.Any.{any_snoc}
use Rattle.bits.specs.Bit.{bit}
use Rattle.bits.proofs.Bits.{bit-or}
use Rattle.vpg.specs.declared.Rule.{Rule}
use Rattle.tables.specs.declared.Table.{Table}
use Rattle.tables.specs.Ready.{Below}
use Rattle.tables.specs.Table.{rule_in, rules_in}
use Rattle.pair_words.specs.Words.{Gives, joined, words_by}
use Rattle.pair_words.proofs.Below.{Fits}

-- ── 32 words ──

bit-joined : (words : List ℕ) (M m L K : ℕ) → M < length words → bit (get_or (joined words M m) L 0) K ≡ (bit (get_or words L 0) K || (eqb M L && bit m K))
bit-joined words M m L K h = go (eqb M L) refl
  where
    go : (b : Bool) → eqb M L ≡ b → bit (get_or (joined words M m) L 0) K ≡ (bit (get_or words L 0) K || (b && bit m K))
    go true q =
        rw (← (eqb-true M L q))
        (ap (λ (w : ℕ). bit w K) (get_or-set_same words M (bit_or (get_or words M 0) m) 0 h) ∙ bit-or (get_or words M 0) m K)
    go false q =
        ap (λ (w : ℕ). bit w K) (get_or-set_other words M L (bit_or (get_or words M 0) m) 0 (λ e. false≢true (sym q ∙ eq-eqb M L (sym e))))
        ∙ sym (or-false (bit (get_or words L 0) K))

-- the rule is one of those looked for, L follows, and K is one of its contexts
abbrev pub adds : Gives → ℕ → ℕ → Rule → Bool
adds p L K R = p.matches R && (eqb (p.follows R) L && bit (p.contexts R) K)

module _ (p : Gives) (base : List ℕ) (long : length base ≡ 32) (t : Table) where
  pub words_size : (n : ℕ) → length (words_by p base t n) ≡ 32
  unfolding words_by
  words_size zero = long
  words_size (suc n) = go (p.matches (rule_in t n)) (words_by p base t n) _ _ (words_size n)
    where
      go : (b : Bool) (out : List ℕ) (M m : ℕ) → length out ≡ 32 → length (cond b (joined out M m) out) ≡ 32
      go true out M m e = length-set out M (bit_or (get_or out M 0) m) ∙ e
      go false out M m e = e

  -- K is a context of L exactly where it was one, or some rule says so
  pub bit_words : Fits p → (n : ℕ) → ((r : ℕ) → r < n → Below 32 (rule_in t r)) → (L K : ℕ) → L < 32 →
      bit (get_or (words_by p base t n) L 0) K ≡ (bit (get_or base L 0) K || any (adds p L K) (rules_in t n))
  unfolding words_by rules_in
  bit_words fits zero h L K l = sym (or-false (bit (get_or base L 0) K))
  bit_words fits (suc n) h L K l =
      let R = rule_in t n in
      let out = words_by p base t n in
      go (p.matches R) out (p.follows R) (p.contexts R) (omega (arith, words_size n, fits R (h n (omega arith))))
      ∙ ap (λ (b : Bool). b || adds p L K R) (bit_words fits n (λ r m. h r (omega arith)) L K l)
      ∙ or_assoc (bit (get_or base L 0) K) (any (adds p L K) (rules_in t n)) (adds p L K R)
      ∙ ap (λ (b : Bool). bit (get_or base L 0) K || b) (sym (any_snoc (adds p L K) (rules_in t n) R))
    where
      go : (b : Bool) (out : List ℕ) (M m : ℕ) → M < length out →
          bit (get_or (cond b (joined out M m) out) L 0) K ≡ (bit (get_or out L 0) K || (b && (eqb M L && bit m K)))
      go true out M m k = bit-joined out M m L K k
      go false out M m k = sym (or-false (bit (get_or out L 0) K))
