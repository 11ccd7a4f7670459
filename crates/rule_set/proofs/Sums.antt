-- The sum of 2^L over the rules of the set: how large it is, and that it tells whether two of them are for one nonterminal.
use Prim.Native.Nat.{ℕ, zero, suc, ◌+◌, ◌*◌, ◌^◌, ◌<◌, ◌≤◌}
use native.Mathlib.Omega.{arith}
use mathlib.Core.Path.{◌≡◌, refl, sym, ◌∙◌, ap}
use mathlib.Core.Bool.{Bool, true, false, cond, ◌&&◌, ◌||◌, and-true, and-false}
use borrow.Author.Tests.{eqb-true, lt-ltb, le-ltb, ltb-true, ltb-false}
use lib.Bits.{bit_and, and_zero_r}
use lib.Dec.{eqb, ltb}
use lib.Pow.{pow_pos}
use Rattle.laws.specs.Any.{any_below}
use Rattle.laws.proofs.Any.{below_same}
use Rattle.bits.specs.Bit.{bit, add_bit}
use Rattle.bits.proofs.Bits.{bit-and, add_below}
use Rattle.vpg.specs.believed.Grammar.{left}
use Rattle.tables.specs.declared.Table.{Table}
use Rattle.tables.specs.Table.{rule_in}
use Rattle.contexts.specs.declared.Context.{Context}
use Rattle.contexts.specs.Context.{applies_to, level_in}
use Rattle.contexts.proofs.Contexts.{level-bit}
use Rattle.rule_set.specs.RuleSet.{ways_with, ways_in}
use Rattle.rule_set.proofs.Members.{and-with, and_without, add_new, add_old}
use Rattle.rule_set.proofs.RuleSet.{any_numbers, Keeps}

-- ── tests ──

and_below : (b : Bool) (n : ℕ) (f : ℕ → Bool) → (b && any_below n f) ≡ any_below n (λ r. b && f r)
and_below b zero f = and-false b
and_below true (suc n) f = ap (λ (x : Bool). f n || x) (and_below true n f)
and_below false (suc n) f = and_below false n f

ltb-add : (m s k : ℕ) → ltb (m + k) (s + k) ≡ ltb m s
ltb-add m s k = go (ltb m s) refl
  where
    go : (b : Bool) → ltb m s ≡ b → ltb (m + k) (s + k) ≡ b
    go true e = lt-ltb (m + k) (s + k) (omega (arith, ltb-true m s e))
    go false e = le-ltb (m + k) (s + k) (omega (arith, ltb-false m s e))

-- ── all rules ──

module _ (W : ℕ) (t : Table) (here : ℕ) (context : Context) where
  abbrev Sum : ℕ → ℕ
  Sum n = (ways_in W t here context n).sum

  -- the nonterminals that the rules of the set are for: those that can stand here and have a rule that can
  abbrev Met : ℕ → ℕ
  Met n = bit_and here (level_in W t context n)

  -- each rule adds less than 2^32
  pub sum_most : (n : ℕ) → ((q : ℕ) → q < n → left (rule_in t q) < 32) → (ways_in W t here context n).sum ≤ n * 4294967296
  unfolding ways_in
  sum_most zero small = omega arith
  sum_most (suc n) small = go (Keeps W t here context n) (sum_most n (λ q l. small q (omega arith)))
    where
      go : (b : Bool) → Sum n ≤ n * 4294967296 → (cond b (ways_with (ways_in W t here context n) (rule_in t n)) (ways_in W t here context n)).sum ≤ suc n * 4294967296
      go true h = omega (arith, h, add_below 32 0 (left (rule_in t n)) (omega arith) (small n (omega arith)))
      go false h = omega (arith, h)

  met_below : (n L : ℕ) → bit (bit_and here (level_in W t context n)) L ≡ any_below n (λ r. Keeps W t here context r && eqb (left (rule_in t r)) L)
  met_below n L =
      bit-and here (level_in W t context n) L
      ∙ rw (level-bit W t context n L, any_numbers t n) (and_below (bit here L) n (λ r. eqb (left (rule_in t r)) L && applies_to W (rule_in t r) context))
      ∙ below_same n _ _ (λ r l. go r (eqb (left (rule_in t r)) L) refl)
    where
      go : (r : ℕ) (e : Bool) → eqb (left (rule_in t r)) L ≡ e → (bit here L && (e && applies_to W (rule_in t r) context)) ≡ (Keeps W t here context r && e)
      go r true q = ap (λ (x : ℕ). bit here x && applies_to W (rule_in t r) context) (sym (eqb-true (left (rule_in t r)) L q)) ∙ sym (and-true (Keeps W t here context r))
      go r false q = rw (and-false (bit here L)) (sym (and-false (Keeps W t here context r)))

  -- rule r, if it is in the set, is for the nonterminal of one before it
  abbrev pub Again : ℕ → Bool
  Again r = Keeps W t here context r && any_below r (λ r'. Keeps W t here context r' && eqb (left (rule_in t r')) (left (rule_in t r)))

  -- the sum is never below the word of the nonterminals, and above it where two rules are for one of them
  record Excess (met sum : ℕ) (again : Bool) : Type 0 where
    most : met ≤ sum
    test : ltb met sum ≡ again

  excess : (n : ℕ) → Excess (Met n) (Sum n) (any_below n Again)
  unfolding ways_in level_in
  excess zero = record { most = rw (and_zero_r here) (omega arith); test = rw (and_zero_r here) }
  excess (suc n) = go (bit here L) refl (applies_to W (rule_in t n) context) (excess n)
    where
      L : ℕ
      L = left (rule_in t n)

      before : Bool
      before = any_below n (λ r. Keeps W t here context r && eqb (left (rule_in t r)) L)

      more : bit here L ≡ true → (x : Bool) → bit (Met n) L ≡ x → Excess (Met n) (Sum n) (any_below n Again) → Excess (bit_and here (add_bit (level_in W t context n) L)) (Sum n + 2 ^ L) (x || any_below n Again)
      more q true e h =
          let m : bit_and here (add_bit (level_in W t context n) L) ≡ Met n = and-with here (level_in W t context n) L q ∙ add_old (Met n) L e in
          let above : Met n < Sum n + 2 ^ L = omega (arith, h.most, pow_pos L) in
          rw m (record { most = omega (arith, above); test = lt-ltb (Met n) (Sum n + 2 ^ L) above })
      more q false e h =
          let m : bit_and here (add_bit (level_in W t context n) L) ≡ Met n + 2 ^ L = and-with here (level_in W t context n) L q ∙ add_new (Met n) L e in
          rw m (record { most = omega (arith, h.most); test = ltb-add (Met n) (Sum n) (2 ^ L) ∙ h.test })

      go : (b : Bool) → bit here L ≡ b → (a : Bool) → Excess (Met n) (Sum n) (any_below n Again) →
          Excess (bit_and here (cond a (add_bit (level_in W t context n) L) (level_in W t context n))) (cond (b && a) (ways_with (ways_in W t here context n) (rule_in t n)) (ways_in W t here context n)).sum (((b && a) && before) || any_below n Again)
      go true q true h = rw (← (met_below n L)) (more q (bit (Met n) L) refl h)
      go true q false h = h
      go false q true h = rw (and_without here (level_in W t context n) L q) h
      go false q false h = h

  -- whether two rules of the set are for one nonterminal
  pub choice-sum : (n : ℕ) → ltb (bit_and here (level_in W t context n)) (ways_in W t here context n).sum ≡ any_below n Again
  choice-sum n = (excess n).test
