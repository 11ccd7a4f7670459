-- Building the index: a rule more before the chain of its class, a nonterminal more in the word of those that have an empty rule.
use Prim.Native.Nat.{ℕ, ◌+◌, ◌<◌, ◌≤◌}
use native.Mathlib.Omega.{arith}
use native.Mathlib.Decide.{dec_lt}
use mathlib.Core.Path.{◌≡◌, refl, sym, ◌∙◌, ap}
use mathlib.Core.Logic.{◌≢◌}
use mathlib.Core.Bool.{Bool, true, false, cond, ◌&&◌, or-true, or-false, and-false}
use mathlib.Core.List.{List}
use borrow.Author.Tests.{lt-ltb, le-ltb, ltb-true, ltb-false, eqb-true, eqb-false}
use lib.Dec.{ltb, eqb}
use lib.ListN.{get_or, length-set}
use lib.Seq.{get_or-set_same, get_or-set_other}
use Rattle.bits.specs.Bit.{bit, add_bit}
use Rattle.bits.proofs.Bits.{bit-zero, bit-add}
use Rattle.tables.specs.declared.Head.{Head}
use Rattle.tables.specs.declared.Table.{Table}
use Rattle.tables.specs.Table.{Sized, rule_in}
use Rattle.tables.specs.Ready.{Ready}
use Rattle.rule_index.specs.Classes.{empty_class, class_of}
use Rattle.rule_index.specs.Index.{FirstFrom, FirstEmpty, Goals, Indexed, first_in, next_in, end_in}
use Rattle.rule_index.specs.Building.{SameRules, IndexedFrom, linked, with_end, EndsBelow}
use Rattle.rule_index.proofs.Classes.{empty_class_lem}
use Rattle.rule_index.proofs.Kept.{rule_kept, ready_kept}

module _ (t u : Table) (same : u.rules ≡ t.rules) where
  first-kept : (rules c k n : ℕ) → FirstFrom t rules c k n → FirstFrom u rules c k n
  first-kept rules c k n f = record {
    from = f.from;
    most = f.most;
    of_class = λ l. rw (rule_kept t u same n) (f.of_class l);
    none = λ q l m. rw (rule_kept t u same q) (f.none q l m);
  }

  -- the index where its numbers stay
  pub index_kept : u.first ≡ t.first → u.next ≡ t.next → (rules k : ℕ) → IndexedFrom t rules k → IndexedFrom u rules k
  index_kept first next rules k x = record {
    firsts = λ c l. rw (ap (λ (l : List ℕ). get_or l c 0) first) (first-kept rules c k _ (x.firsts c l));
    nexts = λ q l m. rw (rule_kept t u same q, ap (λ (l : List ℕ). get_or l q 0) next) (first-kept rules _ (q + 1) _ (x.nexts q l m));
  }

-- from r on: at r, and behind it
from_here : (P : ℕ → Type 0) (r : ℕ) → P r → ((q : ℕ) → r + 1 ≤ q → P q) → (q : ℕ) → r ≤ q → P q
from_here P r here behind q l = go (dec_lt r q)
  where
    go : Dec (r < q) → P q
    go (yes h) = behind q (omega arith)
    go (no h) = let e : q ≡ r = omega arith in rw e here

module _ (t : Table) (rules r : ℕ) where
  pub first_here : (c : ℕ) → r < rules → class_of (rule_in t r) ≡ c → FirstFrom t rules c r r
  first_here c l e = record { from = omega arith; most = omega arith; of_class = λ h. e; none = λ q h m. absurd (omega arith) }

  pub first-over : (c n : ℕ) → class_of (rule_in t r) ≢ c → FirstFrom t rules c (r + 1) n → FirstFrom t rules c r n
  first-over c n d f = record {
    from = omega (arith, f.from);
    most = f.most;
    of_class = f.of_class;
    none = from_here (λ (q : ℕ). q < n → class_of (rule_in t q) ≢ c) r (λ m. d) f.none;
  }

-- the index of no rules
pub index_none : (t : Table) (rules : ℕ) → ((c : ℕ) → c < 256 → first_in t c ≡ rules) → IndexedFrom t rules rules
index_none t rules all = record {
  firsts = λ c l. rw (all c l) (record { from = omega arith; most = omega arith; of_class = λ h. absurd (omega arith); none = λ q h m. absurd (omega arith) });
  nexts = λ q l m. absurd (omega arith);
}

pub linked-same : (t : Table) (class r : ℕ) → Sized t → SameRules t (linked t class r)
linked-same t class r size = record {
  size = record {
    rules = size.rules;
    first = length-set t.first class r ∙ size.first;
    next = length-set t.next r (first_in t class) ∙ size.next;
    inside = size.inside;
    after = size.after;
  };
  rules = refl;
}

module _ (t : Table) (rules r class : ℕ) (size : Sized t) (few : rules ≤ 128) (here : r < rules)
    (is : class_of (rule_in t r) ≡ class) (small : class < 256) (x : IndexedFrom t rules (r + 1)) where
  head_new : first_in (linked t class r) class ≡ r
  head_new = get_or-set_same t.first class r 0 (omega (arith, size.first))

  next_new : next_in (linked t class r) r ≡ first_in t class
  next_new = get_or-set_same t.next r (first_in t class) 0 (omega (arith, size.next))

  firsts_linked : (c : ℕ) → c < 256 → FirstFrom t rules c r (first_in (linked t class r) c)
  firsts_linked c l = go (eqb c class) refl
    where
      go : (b : Bool) → eqb c class ≡ b → FirstFrom t rules c r (first_in (linked t class r) c)
      go true e = let s : c ≡ class = eqb-true c class e in rw (s, head_new) (first_here t rules r class here is)
      go false e =
          rw (get_or-set_other t.first class c r 0 (eqb-false c class e))
          (first-over t rules r c (first_in t c) (λ p. eqb-false c class e (sym p ∙ is)) (x.firsts c l))

  nexts-linked : (q : ℕ) → r ≤ q → q < rules → FirstFrom t rules (class_of (rule_in t q)) (q + 1) (next_in (linked t class r) q)
  nexts-linked =
      from_here (λ (q : ℕ). q < rules → FirstFrom t rules (class_of (rule_in t q)) (q + 1) (next_in (linked t class r) q)) r
      (λ l. rw (is, next_new) (x.firsts class small))
      (λ q l m. rw (get_or-set_other t.next r q (first_in t class) 0 (λ p. omega arith)) (x.nexts q l m))

  -- rule r added to the index of the rules behind it
  pub index_linked : IndexedFrom (linked t class r) rules r
  index_linked = record {
    firsts = λ c l. first-kept t (linked t class r) refl rules c r _ (firsts_linked c l);
    nexts = λ q l m. rw (rule_kept t (linked t class r) refl q) (first-kept t (linked t class r) refl rules _ (q + 1) _ (nexts-linked q l m));
  }

pub ends-none : (t : Table) (rules : ℕ) → EndsBelow t rules 0 0
ends-none t rules L = bit-zero L ∙ rw (le-ltb L 0 (omega arith))

one_more : (L n : ℕ) → L ≢ n → ltb L (n + 1) ≡ ltb L n
one_more L n d = go (ltb L n) refl
  where
    go : (b : Bool) → ltb L n ≡ b → ltb L (n + 1) ≡ b
    go true e = lt-ltb L (n + 1) (omega (arith, ltb-true L n e))
    go false e = le-ltb L (n + 1) (omega (arith, ltb-false L n e, d))

-- a nonterminal more
pub ends_more : (t : Table) (rules n word : ℕ) → EndsBelow t rules n word → EndsBelow t rules (n + 1) (with_end t rules word n)
ends_more t rules n word x L = go (ltb (end_in t n) rules) refl (eqb L n) refl
  where
    go : (has : Bool) → ltb (end_in t n) rules ≡ has → (at : Bool) → eqb L n ≡ at → bit (cond has (add_bit word n) word) L ≡ (ltb L (n + 1) && ltb (end_in t L) rules)
    go true p true q = let s : L ≡ n = eqb-true L n q in bit-add word n L ∙ rw (q, s, p, lt-ltb n (n + 1) (omega arith)) (or-true (bit word n))
    go true p false q = bit-add word n L ∙ rw (q, or-false, one_more L n (eqb-false L n q)) (x L)
    go false p true q = let s : L ≡ n = eqb-true L n q in x L ∙ rw (s, p) (and-false (ltb n n) ∙ sym (and-false (ltb n (n + 1))))
    go false p false q = rw (one_more L n (eqb-false L n q)) (x L)

-- all rules and both words: the index is whole
module _ (t : Table) (all low : ℕ) (size : Sized t) where
  abbrev T : Table
  T = record { rules = t.rules; first = t.first; next = t.next; ends = all; low_ends = low; inside = t.inside; after = t.after }

  pub index_whole : (head : Head) → Ready t head → IndexedFrom t head.rules 0 → EndsBelow t head.rules 32 all → EndsBelow t head.rules head.well low → Goals t head head.rules → Indexed T head
  index_whole head ready x w v g = record {
    ready = ready_kept t T refl head ready;
    size = record { rules = size.rules; first = size.first; next = size.next; inside = size.inside; after = size.after };
    firsts = y.firsts;
    nexts = λ r l. y.nexts r (omega arith) l;
    ends = λ L l. empties L (y.firsts (empty_class L) (omega arith));
    mask = w;
    low = v;
    goals = record { inside = λ r l. rw (rule_kept t T refl r) (g.inside r l); after = λ r l. rw (rule_kept t T refl r) (g.after r l) };
  }
    where
      y : IndexedFrom T head.rules 0
      y = index_kept t T refl refl refl head.rules 0 x

      empties : (L : ℕ) {n : ℕ} → FirstFrom T head.rules (empty_class L) 0 n → FirstEmpty T head.rules L n
      empties L f = record { most = f.most; found = λ l. empty_class_lem _ L (f.of_class l); none = λ q l e. f.none q (omega arith) l (ap class_of e) }
