-- A number's digits are those of a tenth of it, and then its last one.
use Rattle.std.proofs.Common.{◌≡◌, ℕ, zero, suc, ◌+◌, ◌/◌, ◌%◌, ◌^◌, ◌<◌, ◌≤◌, Bool, true, false, ltb, List, [], ◌∷◌, ◌++◌, refl, sym, ap, ◌∙◌, arith, pow-suc, div-lt_iff_lt-mul, ltb-false, ltb-true, le-ltb, lt-ltb}
use Rattle.lines.specs.believed.Text.{decimal_by, decimal}

few : (k n : ℕ) → n < 10 → decimal_by (suc k) n ≡ (48 + n) ∷ []
few k n h = let same : n % 10 ≡ n = omega arith in rw (lt-ltb n 10 h, same)

more : (k n : ℕ) → 10 ≤ n → decimal_by (suc k) n ≡ decimal_by k (n / 10) ++ ((48 + n % 10) ∷ [])
more k n h = rw (le-ltb n 10 h)

-- a digit more than there are is none
enough : (k n : ℕ) → n < 10 ^ suc k → decimal_by (suc (suc k)) n ≡ decimal_by (suc k) n
enough zero n h = let low : n < 10 = omega (arith, pow-suc 10 0, h) in few 1 n low ∙ sym (few 0 n low)
enough (suc k) n h = go (ltb n 10) refl (enough k (n / 10))
  where
    go : (b : Bool) → ltb n 10 ≡ b → (n / 10 < 10 ^ suc k → decimal_by (suc (suc k)) (n / 10) ≡ decimal_by (suc k) (n / 10)) → decimal_by (suc (suc (suc k))) n ≡ decimal_by (suc (suc k)) n
    go true e rest = few (suc (suc k)) n (ltb-true n 10 e) ∙ sym (few (suc k) n (ltb-true n 10 e))
    go false e rest =
        let tenth : n / 10 < 10 ^ suc k = (div-lt_iff_lt-mul {k = 10} {x = n} {y = 10 ^ suc k} (omega arith)).1 (omega (arith, pow-suc 10 (suc k), h)) in
        more (suc (suc k)) n (ltb-false n 10 e) ∙ ap (λ (l : List ℕ). l ++ ((48 + n % 10) ∷ [])) (rest tenth) ∙ sym (more (suc k) n (ltb-false n 10 e))

pub one_digit : (n : ℕ) → n < 10 → decimal n ≡ (48 + n) ∷ []
unfolding decimal
one_digit n h = few 19 n h

pub last_digit : (n : ℕ) → n < 10 ^ 20 → 10 ≤ n → decimal n ≡ decimal (n / 10) ++ ((48 + n % 10) ∷ [])
unfolding decimal
last_digit n h low = more 19 n low ∙ ap (λ (l : List ℕ). l ++ ((48 + n % 10) ∷ [])) (sym (enough 18 (n / 10) (omega arith)))
