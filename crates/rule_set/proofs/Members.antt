-- The members of a word: the lowest one, those in common with another word, and what one member more adds to it.
use Prim.Native.Nat.{ℕ, zero, suc, ◌+◌, ◌-◌, ◌*◌, ◌/◌, ◌%◌, ◌^◌, ◌<◌, ◌≤◌}
use native.Mathlib.Nat.{pow-suc, mul-div_cancel, mul-mod_left, zero-min, min-zero, max-zero, max-eq_right, add-zero}
use native.Mathlib.Omega.{arith}
use mathlib.Core.Path.{◌≡◌, refl, sym, ◌∙◌}
use mathlib.Core.Bool.{Bool, true, false, ◌&&◌, ◌||◌, and-false, or-true, or-false}
use borrow.Author.Tests.{eqb-true}
use lib.Bits.{bit_and, and_step, or_step, and_self, or_zero_r, or_add_and}
use lib.Count.{count_trailing_zeros, under}
use lib.Dec.{eqb, lit<}
use Rattle.bits.specs.Bit.{bit, add_bit}
use Rattle.bits.proofs.Bits.{bit-zero, bit-add, bit-and, same_members}

-- ── a word with a member, digit by digit ──

add-first : (m : ℕ) → add_bit m 0 ≡ m / 2 * 2 + 1
add-first m =
    let most : m % 2 ≤ 1 = omega arith in
    or_step m 1 ∙ rw (or_zero_r (m / 2), max-eq_right most)

add-later : (m b : ℕ) → add_bit m (suc b) ≡ add_bit (m / 2) b * 2 + m % 2
add-later m b = or_step m (2 ^ suc b) ∙ rw (pow-suc 2 b, mul-div_cancel (2 ^ b) (lit< tt), mul-mod_left (2 ^ b) 2, max-zero)

-- ── the lowest member ──

-- one less than a word has its members above the lowest, and that one no more
odd_rest : (n : ℕ) → n % 2 ≡ 1 → bit_and n (n - 1) ≡ n / 2 * 2
odd_rest n e =
    let half : (n - 1) / 2 ≡ n / 2 = omega arith in
    let none : (n - 1) % 2 ≡ 0 = omega arith in
    and_step n (n - 1) ∙ rw (half, none, and_self (n / 2), min-zero (n % 2), add-zero)

even_rest : (n : ℕ) → 0 < n → n % 2 ≡ 0 → bit_and n (n - 1) ≡ bit_and (n / 2) (n / 2 - 1) * 2
even_rest n pos e =
    let half : (n - 1) / 2 ≡ n / 2 - 1 = omega arith in
    and_step n (n - 1) ∙ rw (half, e, zero-min, add-zero)

-- L is a digit of the k, and n is the word that is left when L, its lowest member, is struck, with L
pub record Lowest (k n L : ℕ) : Type 0 where
  pub within : L < k
  pub struck : add_bit (bit_and n (n - 1)) L ≡ n

pub lowest : (k n : ℕ) → 0 < n → n < 2 ^ k → Lowest k n (count_trailing_zeros k n)
unfolding count_trailing_zeros
lowest zero n pos h = absurd (omega arith)
lowest (suc k) n pos h = go (n % 2) refl (λ p. lowest k (n / 2) p (omega (arith, h, pow-suc 2 k)))
  where
    go : (d : ℕ) → n % 2 ≡ d → (0 < n / 2 → Lowest k (n / 2) (count_trailing_zeros k (n / 2))) → Lowest (suc k) n (under d (count_trailing_zeros k (n / 2)))
    go zero e below =
        let f = below (omega arith) in
        let half = bit_and (n / 2) (n / 2 - 1) in
        record {
          within = omega (arith, f.within);
          struck = rw (even_rest n pos e, add-later, mul-div_cancel half (lit< tt), mul-mod_left half 2, f.struck) (omega arith);
        }
    go (suc zero) e below = record { within = omega arith; struck = rw (odd_rest n e, add-first, mul-div_cancel (n / 2) (lit< tt)) (omega arith) }
    go (suc (suc d)) e below = absurd (omega arith)

-- ── one member more, in common with h ──

module _ (h m L : ℕ) where
  digit : (b : ℕ) → bit (bit_and h (add_bit m L)) b ≡ (bit h b && (bit m b || eqb b L))
  digit b = bit-and h (add_bit m L) b ∙ rw (bit-add m L b)

  -- where h has it
  pub and-with : bit h L ≡ true → bit_and h (add_bit m L) ≡ add_bit (bit_and h m) L
  and-with e = same_members (bit_and h (add_bit m L)) (add_bit (bit_and h m) L) (λ b. digit b ∙ go b (eqb b L) refl ∙ sym (bit-add (bit_and h m) L b ∙ rw (bit-and h m b)))
    where
      go : (b : ℕ) (x : Bool) → eqb b L ≡ x → (bit h b && (bit m b || x)) ≡ ((bit h b && bit m b) || x)
      go b true q = let i : bit h b ≡ true = rw (eqb-true b L q) e in rw (i, or-true (bit m b))
      go b false q = rw (or-false (bit m b), or-false (bit h b && bit m b))

  -- and where it has not
  pub and_without : bit h L ≡ false → bit_and h (add_bit m L) ≡ bit_and h m
  and_without e = same_members (bit_and h (add_bit m L)) (bit_and h m) (λ b. digit b ∙ go b (eqb b L) refl ∙ sym (bit-and h m b))
    where
      go : (b : ℕ) (x : Bool) → eqb b L ≡ x → (bit h b && (bit m b || x)) ≡ (bit h b && bit m b)
      go b true q = let i : bit h b ≡ false = rw (eqb-true b L q) e in rw i
      go b false q = rw (or-false (bit m b))

-- ── no member ──

-- a word and the word of one number have something in common exactly where the number is a member
common_digit : (m L b : ℕ) → bit (bit_and m (add_bit 0 L)) b ≡ (bit m b && eqb b L)
common_digit m L b = bit-and m (add_bit 0 L) b ∙ rw (bit-add 0 L b, bit-zero b)

nothing_common : (m L : ℕ) → bit m L ≡ false → bit_and m (add_bit 0 L) ≡ 0
nothing_common m L e = same_members (bit_and m (add_bit 0 L)) 0 (λ b. common_digit m L b ∙ go b (eqb b L) refl ∙ sym (bit-zero b))
  where
    go : (b : ℕ) (x : Bool) → eqb b L ≡ x → (bit m b && x) ≡ false
    go b true q = let i : bit m b ≡ false = rw (eqb-true b L q) e in rw i
    go b false q = and-false (bit m b)

-- ── one member more, as a sum ──

-- a new member adds 2^L, one that is there already nothing
pub add_new : (m L : ℕ) → bit m L ≡ false → add_bit m L ≡ m + 2 ^ L
add_new m L e = omega (arith, or_add_and m (2 ^ L), nothing_common m L e)

pub add_old : (m L : ℕ) → bit m L ≡ true → add_bit m L ≡ m
add_old m L e = same_members (add_bit m L) m (λ b. bit-add m L b ∙ go b (eqb b L) refl)
  where
    go : (b : ℕ) (x : Bool) → eqb b L ≡ x → (bit m b || x) ≡ bit m b
    go b true q = rw (or-true (bit m b)) (sym (rw (eqb-true b L q) e))
    go b false q = or-false (bit m b)
