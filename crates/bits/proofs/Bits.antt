-- The laws of `bit` and `add_bit`, over every width.
use Prim.Native.Nat.{ℕ, zero, suc, ◌+◌, ◌*◌, ◌-◌, ◌/◌, ◌%◌, ◌^◌, ◌<◌, ◌≤◌}
use mathlib.Core.Bool.{true, false, ◌||◌, ◌&&◌}
use mathlib.Core.Path.{◌≡◌, refl, sym, ◌∙◌, ap, ap₂}
use native.Mathlib.Nat.{zero-add, div-add-mod', zero-div, div-one, div-eq_of_lt, lt_of_lt_of_le, mod-lt, pow-suc, mul-div_cancel, mul-mod_left, mod-eq_of_lt}
use native.Mathlib.Decide.{dec_lt}
use native.Mathlib.Omega.{arith}
use borrow.Author.Tests.{eq-eqb, le-leb, lt-leb}
use lib.Dec.{eqb, leb, lit<, eqb-zero-suc, eqb-suc-zero, eqb-suc-suc}
use lib.Arith.{lt-one}
use lib.Bits.{bit_and, bit_or, and_shr, and_mod, and_mask, or_shr, or_mod, or_lt}
use lib.Pow.{pow_pos, pow-lt, pow_mono, shr-shr, shr_lt}
use Rattle.bits.specs.Bit.{bit, add_bit}

-- the empty set has no member
pub bit-zero : (b : ℕ) → bit 0 b ≡ false
bit-zero b = rw zero-div

-- a set within a width has no member from there on
pub bit_above : (k m b : ℕ) → m < 2 ^ k → k ≤ b → bit m b ≡ false
bit_above k m b h l = rw (div-eq_of_lt (lt_of_lt_of_le h (pow_mono l)))

pub bit-first : (m : ℕ) → bit m 0 ≡ eqb (m % 2) 1
bit-first m = rw div-one

-- a later digit of a number is a digit of its half
pub bit-suc : (m b : ℕ) → bit m (suc b) ≡ bit (m / 2) b
bit-suc m b = let e : suc b ≡ 1 + b = omega arith in rw (e, ← shr-shr m 1 b)

-- two digits with one test are one digit
digit : (x y : ℕ) → x < 2 → y < 2 → eqb x 1 ≡ eqb y 1 → x ≡ y
digit zero zero h h' e = refl
digit zero (suc zero) h h' e = cc
digit (suc zero) zero h h' e = cc
digit (suc zero) (suc zero) h h' e = refl
digit (suc (suc x)) y h h' e = omega arith
digit zero (suc (suc y)) h h' e = omega arith
digit (suc zero) (suc (suc y)) h h' e = omega arith

half : (k x : ℕ) → x < 2 ^ suc k → x / 2 < 2 ^ k
half k x h = let e : suc k ≡ k + 1 = omega arith in shr_lt k 1 (rw e at h)

-- two sets of one width with the same members are one number
pub same : (k m n : ℕ) → m < 2 ^ k → n < 2 ^ k → ((b : ℕ) → b < k → bit m b ≡ bit n b) → m ≡ n
same zero m n h h' e = lt-one h ∙ sym (lt-one h')
same (suc k) m n h h' e =
    let high = same k (m / 2) (n / 2) (half k m h) (half k n h') (λ b l. sym (bit-suc m b) ∙ e (suc b) (omega arith) ∙ bit-suc n b) in
    let low = digit (m % 2) (n % 2) (mod-lt m (lit< tt)) (mod-lt n (lit< tt)) (sym (bit-first m) ∙ e 0 (omega arith) ∙ bit-first n) in
    omega arith

-- every set is within some width
wide : (n : ℕ) → n < 2 ^ n
wide zero = pow_pos 0
wide (suc n) = omega (arith, wide n, pow-suc 2 n)

-- so two sets with the same members are one number, whatever their widths
pub same_members : (m n : ℕ) → ((b : ℕ) → bit m b ≡ bit n b) → m ≡ n
same_members m n e = same (m + n) m n (lt_of_lt_of_le (wide m) (pow_mono (omega arith))) (lt_of_lt_of_le (wide n) (pow_mono (omega arith))) (λ b l. e b)

or_digit : (x y : ℕ) → x < 2 → y < 2 → eqb (bit_or x y) 1 ≡ (eqb x 1 || eqb y 1)
or_digit zero zero h h' = refl
or_digit zero (suc zero) h h' = refl
or_digit (suc zero) zero h h' = refl
or_digit (suc zero) (suc zero) h h' = refl
or_digit (suc (suc x)) y h h' = absurd (omega arith)
or_digit zero (suc (suc y)) h h' = absurd (omega arith)
or_digit (suc zero) (suc (suc y)) h h' = absurd (omega arith)

-- the union has the members of both
pub bit-or : (m n b : ℕ) → bit (bit_or m n) b ≡ (bit m b || bit n b)
bit-or m n b =
    rw (or_shr m n b, or_mod (m / 2 ^ b) (n / 2 ^ b) 1)
    (or_digit (m / 2 ^ b % 2) (n / 2 ^ b % 2) (mod-lt (m / 2 ^ b) (lit< tt)) (mod-lt (n / 2 ^ b) (lit< tt)))

-- 2 ^ b has the one member b
pub bit-pow : (b k : ℕ) → bit (2 ^ b) k ≡ eqb k b
bit-pow zero zero = refl
bit-pow zero (suc k) = bit-suc 1 k ∙ bit-zero k ∙ sym (eqb-suc-zero k)
bit-pow (suc b) zero = bit-first (2 ^ suc b) ∙ rw (pow-suc 2 b, mul-mod_left (2 ^ b) 2) (sym (eqb-zero-suc b))
bit-pow (suc b) (suc k) = bit-suc (2 ^ suc b) k ∙ rw (pow-suc 2 b, mul-div_cancel (2 ^ b) (lit< tt), eqb-suc-suc k b) (bit-pow b k)

-- m with b has the members of m, and b
pub bit-add : (m b k : ℕ) → bit (add_bit m b) k ≡ (bit m k || eqb k b)
bit-add m b k = bit-or m (2 ^ b) k ∙ rw bit-pow

-- and stays within the width
pub add_below : (k m b : ℕ) → m < 2 ^ k → b < k → add_bit m b < 2 ^ k
add_below k m b h l = or_lt k m (2 ^ b) h (pow-lt l)

and_digit : (x y : ℕ) → x < 2 → y < 2 → eqb (bit_and x y) 1 ≡ (eqb x 1 && eqb y 1)
and_digit zero zero h h' = refl
and_digit zero (suc zero) h h' = refl
and_digit (suc zero) zero h h' = refl
and_digit (suc zero) (suc zero) h h' = refl
and_digit (suc (suc x)) y h h' = absurd (omega arith)
and_digit zero (suc (suc y)) h h' = absurd (omega arith)
and_digit (suc zero) (suc (suc y)) h h' = absurd (omega arith)

-- the members in common
pub bit-and : (m n b : ℕ) → bit (bit_and m n) b ≡ (bit m b && bit n b)
bit-and m n b =
    rw (and_shr m n b, and_mod (m / 2 ^ b) (n / 2 ^ b) 1)
    (and_digit (m / 2 ^ b % 2) (n / 2 ^ b % 2) (mod-lt (m / 2 ^ b) (lit< tt)) (mod-lt (n / 2 ^ b) (lit< tt)))

-- the set of all numbers below k
pub bit-all : (k b : ℕ) → b < k → bit (2 ^ k - 1) b ≡ true
bit-all k b l =
    let at_b : bit (2 ^ b) b ≡ true = bit-pow b b ∙ eq-eqb b b refl in
    let both : (bit (2 ^ b) b && bit (2 ^ k - 1) b) ≡ true =
    sym (bit-and (2 ^ b) (2 ^ k - 1) b) ∙ ap (λ (m : ℕ). bit m b) (and_mask (2 ^ b) k ∙ mod-eq_of_lt (pow-lt l)) ∙ at_b in
    rw at_b at both

-- a set within a width that has no member is empty
pub no_member : (k m : ℕ) → m < 2 ^ k → ((b : ℕ) → b < k → bit m b ≡ false) → m ≡ 0
no_member k m h e = same k m 0 h (pow_pos k) (λ b l. e b l ∙ sym (bit-zero b))

-- ── two sets in one word ──

-- the digits behind the first k are those of the quotient
pub bit_shift : (k m b : ℕ) → bit (m / 2 ^ k) b ≡ bit m (k + b)
bit_shift k m b = rw (← shr-shr m k b)

twice : (k h : ℕ) → h * 2 ^ suc k ≡ 2 * (h * 2 ^ k)
twice k h = rw (pow-suc 2 k) (omega arith)

halved : (k m h : ℕ) → (m + h * 2 ^ suc k) / 2 ≡ m / 2 + h * 2 ^ k
halved k m h = rw (twice k h) (omega arith)

pub joined_low : (k m h b : ℕ) → b < k → bit (m + h * 2 ^ k) b ≡ bit m b
joined_low zero m h b l = absurd (omega arith)
joined_low (suc k) m h zero l =
    let e : (m + 2 * (h * 2 ^ k)) % 2 ≡ m % 2 = omega arith in
    bit-first (m + h * 2 ^ suc k) ∙ rw (twice k h, e) refl ∙ sym (bit-first m)
joined_low (suc k) m h (suc b) l = bit-suc (m + h * 2 ^ suc k) b ∙ rw (halved k m h) (joined_low k (m / 2) h b (omega arith)) ∙ sym (bit-suc m b)

pub joined_high : (k m h b : ℕ) → m < 2 ^ k → bit (m + h * 2 ^ k) (k + b) ≡ bit h b
joined_high zero m h b l = let e : m + h * 2 ^ 0 ≡ h = omega (arith, lt-one l) in rw (e, zero-add b)
joined_high (suc k) m h b l =
    let e : suc k + b ≡ suc (k + b) = omega arith in
    rw (e, bit-suc (m + h * 2 ^ suc k) (k + b), halved k m h) (joined_high k (m / 2) h b (half k m l))

-- the first k digits are those of the remainder
pub bit-mod : (k m b : ℕ) → b < k → bit (m % 2 ^ k) b ≡ bit m b
bit-mod k m b l =
    let e : m % 2 ^ k + m / 2 ^ k * 2 ^ k ≡ m = omega (arith, div-add-mod' m (2 ^ k)) in
    sym (joined_low k (m % 2 ^ k) (m / 2 ^ k) b l) ∙ ap (λ (x : ℕ). bit x b) e

-- the members from w on
pub bit-from : (w m b : ℕ) → bit (m / 2 ^ w * 2 ^ w) b ≡ (leb w b && bit m b)
bit-from w m b = go (dec_lt b w)
  where
    go : Dec (b < w) → bit (m / 2 ^ w * 2 ^ w) b ≡ (leb w b && bit m b)
    go (yes l) = ap (λ (x : ℕ). bit x b) (sym (zero-add (m / 2 ^ w * 2 ^ w))) ∙ joined_low w 0 (m / 2 ^ w) b l ∙ bit-zero b ∙ rw (lt-leb w b l)
    go (no l) =
        let e : b ≡ w + (b - w) = omega arith in
        rw (le-leb w b (omega arith)) (ap₂ bit (sym (zero-add (m / 2 ^ w * 2 ^ w))) e ∙ joined_high w 0 (m / 2 ^ w) (b - w) (pow_pos w) ∙ bit_shift w m (b - w) ∙ ap (bit m) (sym e))
