-- The digits of the contexts that may be finished: those that the paper's derivative by a close asks for.
use Prim.Native.Nat.{ℕ, zero, suc, ◌<◌}
use native.Mathlib.Omega.{arith}
use mathlib.Core.Path.{◌≡◌, refl, sym, ◌∙◌, ap}
use mathlib.Core.Bool.{Bool, true, false, cond, ◌&&◌, ◌||◌}
use mathlib.Core.List.{List}
use borrow.Author.Tests.{ltb-true, ltb-false, lt-ltb}
use lib.Bits.{bit_or}
use lib.Dec.{ltb}
use lib.ListN.{get_or}
use Rattle.laws.specs.Any.{any, any_below}
use Rattle.laws.proofs.Any.{below_some, some_below, below_same, any_snoc}
use Rattle.laws.proofs.Bools.{both, and_left, and_right, or_comm, same_test}
use Rattle.bits.specs.Bit.{bit}
use Rattle.bits.proofs.Bits.{bit-zero, bit-or}
use Rattle.vpg.specs.declared.Rule.{Rule}
use Rattle.vpg.specs.believed.Grammar.{Grammar, left}
use Rattle.vpg.proofs.Tests.{if_empty_lem}
use Rattle.pair_theory.specs.Pairs.{PairState, ends_from, finished}
use Rattle.tables.specs.declared.Head.{Head}
use Rattle.tables.specs.declared.Table.{Table}
use Rattle.tables.specs.Table.{rule_in, rules_in}
use Rattle.rule_index.specs.Index.{Indexed, end_in, ends_in}
use Rattle.pair_states.specs.Encodes.{Encodes}
use Rattle.pair_states.specs.Finished.{finished_of, may_end}
use Rattle.pair_states.specs.Wide.{wide_grammar}

-- ── tests ──

-- over the rules of a table by their numbers
pub any_rules : (p : Rule → Bool) (t : Table) (n : ℕ) → any p (rules_in t n) ≡ any_below n (λ r. p (rule_in t r))
unfolding rules_in
any_rules p t zero = refl
any_rules p t (suc n) = any_snoc p (rules_in t n) (rule_in t n) ∙ or_comm (any p (rules_in t n)) (p (rule_in t n)) ∙ ap (λ (b : Bool). p (rule_in t n) || b) (any_rules p t n)

-- ── the union ──

bit-finished : (words : List ℕ) (empties n L : ℕ) → bit (finished_of words empties n) L ≡ any_below n (λ k. bit empties k && bit (get_or words k 0) L)
unfolding finished_of
bit-finished words empties zero L = bit-zero L
bit-finished words empties (suc n) L = go (bit empties n) (bit-finished words empties n L)
  where
    go : (b : Bool) → bit (finished_of words empties n) L ≡ any_below n (λ k. bit empties k && bit (get_or words k 0) L) →
        bit (cond b (bit_or (finished_of words empties n) (get_or words n 0)) (finished_of words empties n)) L
        ≡ ((b && bit (get_or words n 0) L) || any_below n (λ k. bit empties k && bit (get_or words k 0) L))
    go true h =
        bit-or (finished_of words empties n) (get_or words n 0) L
        ∙ or_comm (bit (finished_of words empties n) L) (bit (get_or words n 0) L)
        ∙ ap (λ (b : Bool). bit (get_or words n 0) L || b) h
    go false h = h

-- ── what may be finished ──

module _ (t : Table) (head : Head) (indexed : Indexed t head) where
  abbrev g : Grammar
  g = wide_grammar t head

  abbrev n : ℕ
  n = head.rules

  -- an empty rule of K
  record Empties (K : ℕ) : Type 0 where
    number : ℕ
    small : number < n
    is : rule_in t number ≡ Rule.Empty K

  empties_rule : (K : ℕ) → K < 32 → bit (ends_in t) K ≡ true → Empties K
  empties_rule K k q =
      let l : end_in t K < n = ltb-true (end_in t K) n (and_right (ltb K 32) _ (sym (indexed.mask K) ∙ q)) in
      record { number = end_in t K; small = l; is = (indexed.ends K k).found l }

  rule_empties : (K : ℕ) → K < 32 → Empties K → bit (ends_in t) K ≡ true
  rule_empties K k e = indexed.mask K ∙ both (lt-ltb K 32 k) (go (ltb (end_in t K) n) refl)
    where
      go : (b : Bool) → ltb (end_in t K) n ≡ b → b ≡ true
      go true q = refl
      go false q = absurd ((indexed.ends K k).none e.number (omega (arith, e.small, ltb-false (end_in t K) n q)) e.is)

  pub finished_members : (words : List ℕ) (S : PairState) → Encodes words S → (L : ℕ) → L < 32 → bit (finished_of words (ends_in t) 32) L ≡ finished g S L
  finished_members words S x L l = bit-finished words (ends_in t) 32 L ∙ same_test (any_below 32 current) (finished g S L) forth back
    where
      current : ℕ → Bool
      current k = bit (ends_in t) k && bit (get_or words k 0) L

      forth : any_below 32 current ≡ true → finished g S L ≡ true
      forth q =
          let s = below_some 32 current q in
          let e = empties_rule s.number s.small (and_left (bit (ends_in t) s.number) _ s.passes) in
          any_rules (ends_from S L) t n
          ∙ some_below n (λ r. ends_from S L (rule_in t r)) e.number e.small
          (ap (ends_from S L) e.is ∙ sym (x.at L s.number l s.small) ∙ and_right (bit (ends_in t) s.number) _ s.passes)

      back : finished g S L ≡ true → any_below 32 current ≡ true
      back q =
          let r = below_some n (λ r. ends_from S L (rule_in t r)) (sym (any_rules (ends_from S L) t n) ∙ q) in
          let m = if_empty_lem (S L) (rule_in t r.number) r.passes in
          let K = left (rule_in t r.number) in
          let k : K < 32 = (indexed.ready.small r.number r.small).0 in
          some_below 32 current K k (both (rule_empties K k (record { number = r.number; small = r.small; is = m.0 })) (x.at L K l k ∙ m.1))

  pub finished-some : (words : List ℕ) (S : PairState) → Encodes words S → may_end words (ends_in t) ≡ any_below 32 (finished g S)
  finished-some words S x = below_same 32 (bit (finished_of words (ends_in t) 32)) (finished g S) (finished_members words S x)
