-- Keys of rules: a rule whose key no earlier rule has is none of them.
use Prim.Native.Nat.{ℕ, zero, suc, ◌+◌, ◌/◌, ◌%◌, ◌<◌}
use native.Mathlib.Nat.{eq-or-lt_of_le, le_of_suc-le-suc}
use native.Mathlib.Numerals.{add-one}
use native.Mathlib.Omega.{arith}
use mathlib.Core.Path.{◌≡◌, refl, sym, ap, ◌∙◌}
use mathlib.Core.Logic.{◌⊎◌, inl, inr}
use mathlib.Core.Bool.{Bool, true, false, false≢true, or-true}
use mathlib.Core.List.{List}
use borrow.Author.Tests.{eqb-true, eqb-false, eq-eqb}
use lib.Dec.{eqb}
use lib.ListN.{length, length-set}
use lib.Seq.{get_or-set_same, get_or-set_other}
use Rattle.bits.proofs.Bits.{bit-add}
use Rattle.vpg.specs.declared.Rule.{Rule}
use Rattle.tables.specs.declared.Six.{Six}
use Rattle.tables.specs.declared.Table.{Table}
use Rattle.tables.specs.Table.{six_of, rule_in, rules_in, put_six, same_rule, earlier}
use Rattle.tables.specs.Keys.{key_in, key_of, has_key, with_key, Keyed}
use Rattle.tables.proofs.Tables.{rule_low, rule_same}
use Rattle.tables.proofs.Earlier.{same_rule_is, earlier_snoc}

word_there : (v : Six) (keys : List ℕ) → length keys ≡ 64 → key_in v / 32 < length keys
word_there v keys e = omega arith

-- a key that is marked, and those that were marked before
module _ (keys : List ℕ) (k : ℕ) (there : k / 32 < length keys) where
  marked_now : has_key (with_key keys k) k ≡ true
  marked_now = rw (get_or-set_same keys (k / 32) _ 0 there, bit-add, eq-eqb (k % 32) (k % 32) refl, or-true)

  still_marked : (i : ℕ) → has_key keys i ≡ true → has_key (with_key keys k) i ≡ true
  still_marked i h = by_test (eqb (i / 32) (k / 32)) refl
    where
      by_test : (b : Bool) → eqb (i / 32) (k / 32) ≡ b → has_key (with_key keys k) i ≡ true
      by_test true q =
          let e = eqb-true (i / 32) (k / 32) q in
          rw (e, get_or-set_same keys (k / 32) _ 0 there, bit-add, rw e at h)
      by_test false q = rw (get_or-set_other keys (k / 32) (i / 32) _ 0 (eqb-false (i / 32) (k / 32) q)) h

other_key : (r x : Rule) → (key_of r ≡ key_of x → ⊥) → same_rule r x ≡ false
other_key r x apart = go (same_rule r x) refl
  where
    go : (b : Bool) → same_rule r x ≡ b → b ≡ false
    go true e = absurd (apart (ap key_of ((same_rule_is r x).0 e)))
    go false e = refl

-- a rule whose key isn't marked is none of the first n
pub unmarked : (t : Table) (n : ℕ) (keys : List ℕ) (r : Rule) → Keyed t n keys → has_key keys (key_of r) ≡ false → earlier r (rules_in t n) ≡ false
unfolding earlier rules_in
unmarked t zero keys r k e = refl
unmarked t (suc n) keys r k e =
    let apart : key_of r ≡ key_of (rule_in t n) → ⊥ = λ q. false≢true (sym e ∙ ap (has_key keys) q ∙ k.marked n (omega arith)) in
    earlier_snoc r (rule_in t n) (rules_in t n)
    ∙ rw (unmarked t n keys r (record { size = k.size; marked = λ q h. k.marked q (omega arith) }) e, other_key r (rule_in t n) apart)

-- before the first rule
pub none_keyed : (t : Table) (keys : List ℕ) → length keys ≡ 64 → Keyed t 0 keys
none_keyed t keys e = record { size = e; marked = λ q h. absurd (omega arith) }

-- one rule more, whose key is marked
pub key_marked : (t : Table) (keys : List ℕ) (k : ℕ) (r : Rule) → k < length t.rules → Keyed t k keys → Keyed (put_six t k (six_of r)) (k + 1) (with_key keys (key_of r))
key_marked t keys k r room h = record { size = length-set keys (key_of r / 32) _ ∙ h.size; marked = λ q l. go q (eq-or-lt_of_le (le_of_suc-le-suc (rw (add-one k) at l))) }
  where
    there : key_of r / 32 < length keys
    there = word_there (six_of r) keys h.size

    go : (q : ℕ) → (q ≡ k) ⊎ (q < k) → has_key (with_key keys (key_of r)) (key_of (rule_in (put_six t k (six_of r)) q)) ≡ true
    go q (inl e) = rw (e, rule_same t k r room) (marked_now keys (key_of r) there)
    go q (inr l) = rw (rule_low t k q (six_of r) l) (still_marked keys (key_of r) there (key_of (rule_in t q)) (h.marked q l))
