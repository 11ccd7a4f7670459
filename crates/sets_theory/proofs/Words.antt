-- The words of a set, digit by digit: which bit of which element says that a rule is in the set at a position.
use Prim.Native.Nat.{ℕ, zero, suc, ◌+◌, ◌*◌, ◌/◌, ◌%◌, ◌^◌, ◌<◌, ◌≤◌}
use native.Mathlib.Nat.{not-suc-le-zero, le_of_suc-le-suc, eq-or-lt_of_le, one-mul, zero-mul, zero-add, pow-suc}
use native.Mathlib.Omega.{arith}
use mathlib.Core.Path.{◌≡◌, refl, sym, ◌∙◌}
use mathlib.Core.Logic.{◌⊎◌, inl, inr}
use mathlib.Core.Bool.{Bool, true, false, ◌||◌, or-true, or-false}
use mathlib.Core.List.{List}
use borrow.Author.Tests.{eq-eqb, ne_eqb}
use lib.Bits.{or_shifted_r}
use lib.Dec.{eqb}
use lib.ListN.{length, get_or}
use lib.Pow.{pow_pos}
use Rattle.bits.specs.Bit.{bit, add_bit}
use Rattle.bits.proofs.Bits.{bit_above, bit-add, add_below, same}
use Rattle.vpg.specs.declared.Token.{Token}
use Rattle.vpg.specs.believed.Grammar.{Grammar}
use Rattle.sets_theory.specs.KeptTest.{kept}
use Rattle.sets_theory.specs.believed.Sets.{word_of, set_word, set_words}
use Rattle.sets_theory.proofs.Sets.{length-listed, get_or-listed}

or_yes : (a x : Bool) → x ≡ true → (a || x) ≡ true
or_yes a x e = rw e (or-true a)

or_no : (a x : Bool) → x ≡ false → (a || x) ≡ a
or_no a x e = rw e (or-false a)

-- ── one word ──

word-with : (n : ℕ) (f : ℕ → Bool) → word_of n f < 2 ^ n → f n ≡ true → word_of (suc n) f ≡ add_bit (word_of n f) n
unfolding word_of
word-with n f h e = rw e (sym (or_shifted_r 1 n (word_of n f) h) ∙ rw one-mul)

word_without : (n : ℕ) (f : ℕ → Bool) → f n ≡ false → word_of (suc n) f ≡ word_of n f
unfolding word_of
word_without n f e = rw (e, zero-mul, zero-add)

word_below : (n : ℕ) (f : ℕ → Bool) → word_of n f < 2 ^ n
unfolding word_of
word_below zero f = pow_pos 0
word_below (suc n) f = go (f n) refl (word_below n f)
  where
    go : (b : Bool) → f n ≡ b → word_of n f < 2 ^ n → word_of (suc n) f < 2 ^ suc n
    go true e h = rw (word-with n f h e) (add_below (suc n) (word_of n f) n (omega (arith, pow-suc 2 n)) (omega arith))
    go false e h = rw (word_without n f e) (omega (arith, pow-suc 2 n))

-- digit b of the word of a test says whether the test passes
pub bit_word : (n : ℕ) (f : ℕ → Bool) (b : ℕ) → b < n → bit (word_of n f) b ≡ f b
bit_word zero f b h = absurd (not-suc-le-zero h)
bit_word (suc n) f b h = go (f n) refl (bit_word n f b) (eq-or-lt_of_le (le_of_suc-le-suc h))
  where
    go : (x : Bool) → f n ≡ x → (b < n → bit (word_of n f) b ≡ f b) → (b ≡ n) ⊎ (b < n) → bit (word_of (suc n) f) b ≡ f b
    go true e below (inl q) = rw (word-with n f (word_below n f) e) (bit-add (word_of n f) n b ∙ or_yes (bit (word_of n f) b) (eqb b n) (eq-eqb b n q) ∙ sym (rw q e))
    go true e below (inr l) = rw (word-with n f (word_below n f) e) (bit-add (word_of n f) n b ∙ or_no (bit (word_of n f) b) (eqb b n) (ne_eqb b n (λ q. omega arith)) ∙ below l)
    go false e below (inl q) = rw (word_without n f e) (bit_above n (word_of n f) b (word_below n f) (omega arith) ∙ sym (rw q e))
    go false e below (inr l) = rw (word_without n f e) (below l)

-- and no other word of the width has these digits
pub word_is : (n m : ℕ) (f : ℕ → Bool) → m < 2 ^ n → ((b : ℕ) → b < n → bit m b ≡ f b) → m ≡ word_of n f
word_is n m f h e = same n m (word_of n f) h (word_below n f) (λ b l. e b l ∙ sym (bit_word n f b l))

-- ── the words of all positions ──

pub words_length : (g : Grammar) (w : List Token) → length (set_words g w) ≡ 4 * suc (length w)
unfolding set_words
words_length g w = length-listed (4 * suc (length w)) _

-- bit r % 32 of element 4 p + r / 32 says whether rule r is in the set at position p
pub set-bit : (g : Grammar) (w : List Token) (p r : ℕ) → p ≤ length w → r < 128 → bit (get_or (set_words g w) (4 * p + r / 32) 0) (r % 32) ≡ kept g w p r
unfolding set_word set_words
set-bit g w p r h l =
    let place : (4 * p + r / 32) / 4 ≡ p = omega arith in
    let word : (4 * p + r / 32) % 4 ≡ r / 32 = omega arith in
    let rule : 32 * (r / 32) + r % 32 ≡ r = omega arith in
    rw (get_or-listed (4 * suc (length w)) (λ i. set_word g w (i / 4) (i % 4)) (4 * p + r / 32) 0 (omega arith), place, word)
    (bit_word 32 (λ b. kept g w p (32 * (r / 32) + b)) (r % 32) (omega arith) ∙ rw rule)
