-- Sets in words of W digits each, for every W and every number of words.
use Prim.Native.Nat.{ℕ, zero, suc, ◌+◌, ◌*◌, ◌/◌, ◌%◌, ◌^◌, ◌<◌, ◌≤◌}
use native.Mathlib.Nat.{eq-or-lt_of_le, mod-lt, div-add-mod', mul_comm}
use native.Mathlib.Omega.{arith}
use mathlib.Core.Path.{◌≡◌, refl, sym, ◌∙◌, ap}
use mathlib.Core.Logic.{◌⊎◌, inl, inr, ◌≢◌, ⊎_elim}
use mathlib.Core.Bool.{Bool, true, false, ◌&&◌, ◌||◌, or-true, or-false}
use mathlib.Core.List.{List, append-nil}
use borrow.Author.Tests.{eqb-true, eqb-false, eq-eqb, ne_eqb, lt-ltb, le-ltb, ltb-true, ltb-false}
use lib.Arith.{digits_div, digits_mod}
use lib.Dec.{eqb, ltb}
use lib.ListN.{length, get_or, replicate, length-set, drop_of_length-le}
use lib.Pow.{pow_pos}
use lib.Seq.{get_or-set_same, get_or-set_other, ext_get_or, sets, sets-eq}
use Rattle.bits.specs.Bit.{bit, add_bit}
use Rattle.bits.proofs.Bits.{bit-zero, bit-add, add_below}
use Rattle.sets_theory.specs.believed.Sets.{word_of}
use Rattle.sets_theory.proofs.Words.{word_is}
use Rattle.rule_set.specs.Words.{bit_in, add_in, Held}

pub add-length : (W : ℕ) (ws : List ℕ) (r : ℕ) → length (add_in W ws r) ≡ length ws
add-length W ws r = length-set ws (r / W) (add_bit (get_or ws (r / W) 0) (r % W))

-- ── all words at once ──

pub zeros : (k i : ℕ) → ◌≡◌ {A = ℕ} (get_or (replicate k 0) i 0) 0
zeros zero i = refl
zeros (suc k) zero = refl
zeros (suc k) (suc i) = zeros k i

-- every word stored anew, from the first on
pub stored : (vs ws : List ℕ) → length ws ≡ length vs → sets ws 0 vs ≡ vs
stored vs ws e = sets-eq vs ws 0 (omega arith) ∙ rw (drop_of_length-le ws {i = 0 + length vs} (omega arith)) (append-nil vs)

-- ── several words ──

module _ (W : ℕ) where
  same_digit : (k r : ℕ) → k / W ≡ r / W → eqb (k % W) (r % W) ≡ eqb k r
  same_digit k r e = go (eqb k r) refl
    where
      go : (b : Bool) → eqb k r ≡ b → eqb (k % W) (r % W) ≡ b
      go true q = eq-eqb (k % W) (r % W) (ap (λ (x : ℕ). x % W) (eqb-true k r q))
      go false q = ne_eqb (k % W) (r % W) (λ d. let i : k / W * W + k % W ≡ r / W * W + r % W = rw (e, d) in eqb-false k r q (sym (div-add-mod' k W) ∙ i ∙ div-add-mod' r W))

  pub bit_in-add : (ws : List ℕ) (r k : ℕ) → r / W < length ws → bit_in W (add_in W ws r) k ≡ (bit_in W ws k || eqb k r)
  bit_in-add ws r k h = go (eqb (k / W) (r / W)) refl
    where
      m : ℕ
      m = get_or ws (r / W) 0

      go : (b : Bool) → eqb (k / W) (r / W) ≡ b → bit_in W (add_in W ws r) k ≡ (bit_in W ws k || eqb k r)
      go true q =
          let e : k / W ≡ r / W = eqb-true _ _ q in
          rw (e, get_or-set_same ws (r / W) (add_bit m (r % W)) 0 h) (bit-add m (r % W) (k % W) ∙ ap (λ (x : Bool). bit m (k % W) || x) (same_digit k r e))
      go false q =
          let d : k / W ≢ r / W = eqb-false _ _ q in
          rw (get_or-set_other ws (r / W) (k / W) (add_bit m (r % W)) 0 d, ne_eqb k r (λ e. d (ap (λ (x : ℕ). x / W) e))) (sym (or-false _))

  pub held_none : (f : ℕ → Bool) (k : ℕ) → Held W 0 f (replicate k 0)
  held_none f k = record { small = λ i. rw (zeros k i) (pow_pos W); digits = λ r. rw (zeros k (r / W), le-ltb r 0 (omega arith)) (bit-zero (r % W)) }

  -- a number more, and no word is too large
  pub add_small : (ws : List ℕ) (r : ℕ) → 0 < W → r / W < length ws → ((k : ℕ) → get_or ws k 0 < 2 ^ W) → (k : ℕ) → get_or (add_in W ws r) k 0 < 2 ^ W
  add_small ws r pos room small k = go (eqb k (r / W)) refl
    where
      go : (b : Bool) → eqb k (r / W) ≡ b → get_or (add_in W ws r) k 0 < 2 ^ W
      go true e = rw (eqb-true k (r / W) e, get_or-set_same ws (r / W) (add_bit (get_or ws (r / W) 0) (r % W)) 0 room) (add_below W (get_or ws (r / W) 0) (r % W) (small (r / W)) (mod-lt r pos))
      go false e = rw (get_or-set_other ws (r / W) k (add_bit (get_or ws (r / W) 0) (r % W)) 0 (eqb-false k (r / W) e)) (small k)

  pub held_with : (n : ℕ) (f : ℕ → Bool) (ws : List ℕ) → 0 < W → n / W < length ws → f n ≡ true → Held W n f ws → Held W (suc n) f (add_in W ws n)
  held_with n f ws pos room q h = record { small = add_small ws n pos room h.small; digits = λ r. bit_in-add ws n r room ∙ rw (h.digits r) (digit r (eqb r n) refl) }
    where
      digit : (r : ℕ) (b : Bool) → eqb r n ≡ b → ((ltb r n && f r) || b) ≡ (ltb r (suc n) && f r)
      digit r true e = let i = eqb-true r n e in or-true (ltb r n && f r) ∙ sym (rw (lt-ltb r (suc n) (omega arith), i, q))
      digit r false e = or-false (ltb r n && f r) ∙ ap (λ (x : Bool). x && f r) (more (ltb r n) refl)
        where
          more : (b : Bool) → ltb r n ≡ b → b ≡ ltb r (suc n)
          more true l = sym (lt-ltb r (suc n) (omega (arith, ltb-true r n l)))
          more false l = sym (le-ltb r (suc n) (let d : r ≢ n = eqb-false r n e in go (eq-or-lt_of_le (ltb-false r n l)) d))
            where
              go : (n ≡ r) ⊎ (n < r) → r ≢ n → suc n ≤ r
              go (inl i) d = absurd (d (sym i))
              go (inr i) d = i

  pub held_without : (n : ℕ) (f : ℕ → Bool) (ws : List ℕ) → f n ≡ false → Held W n f ws → Held W (suc n) f ws
  held_without n f ws q h = record { small = h.small; digits = λ r. h.digits r ∙ digit r (ltb r n) refl }
    where
      digit : (r : ℕ) (b : Bool) → ltb r n ≡ b → (b && f r) ≡ (ltb r (suc n) && f r)
      digit r true e = rw (lt-ltb r (suc n) (omega (arith, ltb-true r n e)))
      digit r false e = ⊎_elim (λ i. sym (rw (lt-ltb r (suc n) (omega arith), ← i) q)) (λ l. rw (le-ltb r (suc n) l)) (eq-or-lt_of_le (ltb-false r n e))

  -- word k has the digits W k to W k + W - 1
  pub held_word : (n : ℕ) (f : ℕ → Bool) (ws : List ℕ) → Held W n f ws → (k : ℕ) → get_or ws k 0 ≡ word_of W (λ b. ltb (W * k + b) n && f (W * k + b))
  held_word n f ws h k = word_is W (get_or ws k 0) _ (h.small k) digit
    where
      digit : (b : ℕ) → b < W → bit (get_or ws k 0) b ≡ (ltb (W * k + b) n && f (W * k + b))
      digit b l = sym (rw (mul_comm W k, digits_div k l, digits_mod k l)) ∙ h.digits (W * k + b)

  -- so two lists of words of one length that have the same numbers are one
  pub held_same : (n : ℕ) (f : ℕ → Bool) (vs ws : List ℕ) → length vs ≡ length ws → Held W n f vs → Held W n f ws → vs ≡ ws
  held_same n f vs ws e g h = ext_get_or 0 vs ws e (λ k l. held_word n f vs g k ∙ sym (held_word n f ws h k))
