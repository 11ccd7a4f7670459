-- At a close the rules of the set are the empty rules of the nonterminals that can stand there. A nonterminal has one at most, since no rule
-- stands twice in a table: so it is enough to look at these nonterminals one by one, each with the rule that the index has of it.
use Prim.Native.Nat.{ℕ, zero, suc, ◌+◌, ◌-◌, ◌/◌, ◌%◌, ◌^◌, ◌<◌, ◌≤◌}
use native.Mathlib.Nat.{eq-or-lt_of_le}
use native.Mathlib.Omega.{arith}
use mathlib.Core.Path.{◌≡◌, refl, sym, ◌∙◌, ap}
use mathlib.Core.Logic.{◌⊎◌, inl, inr}
use mathlib.Core.Bool.{Bool, true, false, cond, ◌&&◌, ◌||◌, and-false, or-true, or-false, or_assoc, false≢true}
use mathlib.Core.List.{List}
use mathlib.Core.Option.{some-injective}
use borrow.Author.Tests.{eqb-true, eqb-false, eq-eqb, ne_eqb, lt-ltb, ltb-true, ltb-false, le-leb, lt-leb}
use lib.Bits.{bit_and, and_zero_r, and_le_l}
use lib.Count.{count_trailing_zeros}
use lib.Dec.{eqb, ltb, leb}
use lib.ListN.{length, get_or, replicate}
use Rattle.laws.proofs.Bools.{and_left, and_right, both, same_test, eqb_refl}
use Rattle.bits.specs.Bit.{bit, add_bit}
use Rattle.bits.proofs.Bits.{bit-zero, bit-add, bit-and, same_members}
use Rattle.vpg.specs.declared.Rule.{Rule}
use Rattle.vpg.specs.believed.Grammar.{left}
use Rattle.tables.specs.declared.Head.{Head}
use Rattle.tables.specs.declared.Table.{Table}
use Rattle.tables.specs.Table.{rule_in, rules_in}
use Rattle.tables.proofs.Tables.{rules_at, rules_below}
use Rattle.level_theory.proofs.Alive.{lefts-some}
use Rattle.rule_index.specs.Classes.{class_at}
use Rattle.rule_index.specs.Index.{FirstFrom, Indexed, end_in, ends_in, low_ends_in}
use Rattle.contexts.specs.declared.Context.{Context}
use Rattle.contexts.specs.Context.{code, token_here, low_here, may_end, applies_to, level_in}
use Rattle.contexts.proofs.Contexts.{with-bit, level-bit}
use Rattle.contexts.proofs.Ends.{level-has, ends-only, ends_stand, other_class, end_ends}
use Rattle.rule_set.specs.Words.{bit_in, add_in}
use Rattle.rule_set.specs.declared.Ways.{Ways}
use Rattle.rule_set.specs.Ends.{end_ways, Among, Only}
use Rattle.rule_set.specs.RuleSet.{keeps_at, ways_with, ways_in, words_in}
use Rattle.rule_set.proofs.Members.{lowest, and-with, and_without, add_new}
use Rattle.rule_set.proofs.Words.{add-length, add_small, zeros, bit_in-add, held_none, held_same}
use Rattle.rule_set.proofs.RuleSet.{Keeps, words_held}

-- ── the empty rule of a nonterminal ──

module _ {t : Table} {head : Head} (x : Indexed t head) where
  -- a nonterminal of the index's word has an empty rule
  end_rule : (L : ℕ) → bit (ends_in t) L ≡ true → (end_in t L < head.rules) × (rule_in t (end_in t L) ≡ Rule.Empty L)
  end_rule L e =
      let tests = sym (x.mask L) ∙ e in
      let l = ltb-true (end_in t L) head.rules (and_right (ltb L 32) (ltb (end_in t L) head.rules) tests) in
      (l, (x.ends L (ltb-true L 32 (and_left (ltb L 32) (ltb (end_in t L) head.rules) tests))).found l)

  -- and every empty rule is the one that the index has of its nonterminal
  rule_end : (r L : ℕ) → r < head.rules → rule_in t r ≡ Rule.Empty L → (bit (ends_in t) L ≡ true) × (r ≡ end_in t L)
  rule_end r L l e = (x.mask L ∙ both (lt-ltb L 32 small) (lt-ltb (end_in t L) head.rules (omega (arith, first))), go (eq-or-lt_of_le first))
    where
      small : L < 32
      small = let s : left (rule_in t r) ≡ L = ap left e in omega (arith, (x.ready.small r l).0)

      below : (b : Bool) → ltb r (end_in t L) ≡ b → end_in t L ≤ r
      below true m = absurd ((x.ends L small).none r (ltb-true r (end_in t L) m) e)
      below false m = ltb-false r (end_in t L) m

      first : end_in t L ≤ r
      first = below (ltb r (end_in t L)) refl

      go : (end_in t L ≡ r) ⊎ (end_in t L < r) → r ≡ end_in t L
      go (inl i) = sym i
      go (inr i) = absurd (x.ready.distinct (end_in t L) r i l ((x.ends L small).found (omega arith) ∙ sym e))

-- ── the ways on ──

-- one more nonterminal that has an empty rule
with_end_lem : (here : ℕ) (ways : Ways) (ends L : ℕ) → ways ≡ end_ways here ends → bit ends L ≡ false → cond (bit here L && true) (ways_with ways (Rule.Empty L)) ways ≡ end_ways here (add_bit ends L)
with_end_lem here ways ends L e new = rw e (go (bit here L) refl)
  where
    Of : ℕ → Ways
    Of m = record { sum = m; next = 0; behind = 0 }

    once : bit (bit_and here ends) L ≡ false
    once = bit-and here ends L ∙ rw (new, and-false)

    go : (b : Bool) → bit here L ≡ b → cond (b && true) (Of (bit_and here ends + 2 ^ L)) (end_ways here ends) ≡ end_ways here (add_bit ends L)
    go true q = ap Of (sym (and-with here ends L q ∙ add_new (bit_and here ends) L once))
    go false q = ap Of (sym (and_without here ends L q))

module _ {t : Table} {head : Head} (x : Indexed t head) (p : Context) {ends : ℕ} (among : Among t ends) (o : Only t head p ends) (here : ℕ) where
  -- the nonterminal of an empty rule has none before it
  unseen : (n q L : ℕ) → n ≤ q → q < head.rules → rule_in t q ≡ Rule.Empty L → bit (level_in head.well t p n) L ≡ false
  unfolding level_in
  unseen zero q L m l e = bit-zero L
  unseen (suc n) q L m l e = with-bit (applies_to head.well (rule_in t n) p) (level_in head.well t p n) (left (rule_in t n)) L false (unseen n q L (omega arith) l e) ∙ go _ refl
    where
      go : (b : Bool) → (eqb (left (rule_in t n)) L && applies_to head.well (rule_in t n) p) ≡ b → b ≡ false
      go true a = absurd (x.ready.distinct n q m l ((o.only n L (omega arith) a).0 ∙ sym e))
      go false a = refl

  -- after n rules the nonterminals that have an empty rule among them are the level
  abbrev Same : ℕ → Type 0
  Same n = ways_in head.well t here p n ≡ end_ways here (level_in head.well t p n)

  ways_level : (n : ℕ) → n ≤ head.rules → Same n
  unfolding ways_in level_in
  ways_level zero l = rw (and_zero_r here)
  ways_level (suc n) l = go (applies_to head.well (rule_in t n) p) refl (ways_level n (omega arith))
    where
      empty : (L : ℕ) → rule_in t n ≡ Rule.Empty L → applies_to head.well (rule_in t n) p ≡ true → Same n → Same (suc n)
      empty L e a so = rw (e, rw e at a) (with_end_lem here (ways_in head.well t here p n) (level_in head.well t p n) L so (unseen n n L (omega arith) l e))

      go : (b : Bool) → applies_to head.well (rule_in t n) p ≡ b → Same n → Same (suc n)
      go true a so = empty (left (rule_in t n)) (o.only n (left (rule_in t n)) l (both (eqb_refl (left (rule_in t n))) a)).0 a so
      go false a so = rw (a, and-false (bit here (left (rule_in t n)))) so

  level-only : level_in head.well t p head.rules ≡ ends
  level-only = same_members (level_in head.well t p head.rules) ends (λ L. same_test _ _ (forth L) (back L))
    where
      forth : (L : ℕ) → bit (level_in head.well t p head.rules) L ≡ true → bit ends L ≡ true
      forth L e =
          let (r, k) = lefts-some (λ R. applies_to head.well R p) (rules_in t head.rules) L (sym (level-bit head.well t p head.rules L) ∙ e) in
          let l = rules_below t head.rules r k.is in
          let i : rule_in t r ≡ k.rule = some-injective _ _ (sym (rules_at t head.rules r l) ∙ k.is) in
          (o.only r L l (both (eq-eqb (left (rule_in t r)) L (ap left i ∙ k.from)) (rw i k.passes))).1

      back : (L : ℕ) → bit ends L ≡ true → bit (level_in head.well t p head.rules) L ≡ true
      back L e =
          let (l, i) = end_rule x L (among L e) in
          let f = o.fits (end_in t L) L i e in
          let s : left (rule_in t (end_in t L)) ≡ L = ap left i in
          rw s at (level-has head.well t p head.rules (end_in t L) l (and_right (eqb (left (rule_in t (end_in t L))) L) _ f))

  pub ways_ends : ways_in head.well t here p head.rules ≡ end_ways here ends
  ways_ends = ways_level head.rules (omega arith) ∙ rw level-only

-- ── the words, one nonterminal after another ──

-- rule r is the one that the index has of its nonterminal, and that is a member of the word m
abbrev pub Due : Table → ℕ → ℕ → Bool
Due t m r = eqb r (end_in t (left (rule_in t r))) && bit m (left (rule_in t r))

-- on the way through a word `all` of nonterminals that have empty rules: those of `due` are left, the rules of the others are in the words
pub record Gathered (t : Table) (all due : ℕ) (words : List ℕ) : Type 0 where
  pub size : length words ≡ 4
  pub small : (k : ℕ) → get_or words k 0 < 2 ^ 32
  pub wide : due < 2 ^ 32
  pub with-ends : (L : ℕ) → bit due L ≡ true → bit (ends_in t) L ≡ true
  pub digits : (r : ℕ) → (bit_in 32 words r || Due t due r) ≡ Due t all r

module _ {t : Table} {head : Head} (x : Indexed t head) where
  pub gathered_none : (ends : ℕ) → Among t ends → (here : ℕ) → here < 2 ^ 32 → Gathered t (bit_and here ends) (bit_and here ends) (replicate 4 0)
  gathered_none ends among here wide = record {
    size = refl;
    small = (held_none 32 (λ r. true) 4).small;
    wide = omega (arith, and_le_l here ends);
    with-ends = λ L e. among L (and_right (bit here L) (bit ends L) (sym (bit-and here ends L) ∙ e));
    digits = λ r. rw (zeros 4 (r / 32), bit-zero (r % 32));
  }

  -- the lowest nonterminal that is left, with its rule
  module _ {all due : ℕ} {words : List ℕ} (some_left : 0 < due) (g : Gathered t all due words) where
    abbrev Next : ℕ
    Next = count_trailing_zeros 32 due

    abbrev Rest : ℕ
    Rest = bit_and due (due - 1)

    members : (K : ℕ) → bit due K ≡ (bit Rest K || eqb K Next)
    members K = ap (λ (n : ℕ). bit n K) (sym (lowest 32 due some_left g.wide).struck) ∙ bit-add Rest Next K

    pub next_small : count_trailing_zeros 32 due < 32
    next_small = (lowest 32 due some_left g.wide).within

    next_rule : (end_in t Next < head.rules) × (rule_in t (end_in t Next) ≡ Rule.Empty Next)
    next_rule = end_rule x Next (g.with-ends Next (members Next ∙ rw (eqb_refl Next) (or-true (bit Rest Next))))

    pub next_few : end_in t (count_trailing_zeros 32 due) < 128
    next_few = omega (arith, next_rule.0, x.ready.few)

    -- its rule is due no more, the others are as before
    due_next : (r : ℕ) → (eqb r (end_in t Next) || Due t Rest r) ≡ Due t due r
    due_next r = go (eqb M Next) refl
      where
        M : ℕ
        M = left (rule_in t r)

        absorbed : (a b : Bool) → (a || (a && b)) ≡ (a && true)
        absorbed true b = refl
        absorbed false b = refl

        go : (b : Bool) → eqb M Next ≡ b → (eqb r (end_in t Next) || Due t Rest r) ≡ Due t due r
        go true q = rw (← (eqb-true M Next q), members M, q, or-true) (absorbed (eqb r (end_in t M)) (bit Rest M))
        go false q =
            let other = ne_eqb r (end_in t Next) (λ i. eqb-false M Next q (ap (λ (k : ℕ). left (rule_in t k)) i ∙ ap left next_rule.1)) in
            rw (other, members M, q, or-false)

    pub gathered_more : Gathered t all (bit_and due (due - 1)) (add_in 32 words (end_in t (count_trailing_zeros 32 due)))
    gathered_more = record {
      size = add-length 32 words (end_in t Next) ∙ g.size;
      small = add_small 32 words (end_in t Next) (omega arith) room g.small;
      wide = omega (arith, g.wide, and_le_l due (due - 1));
      with-ends = λ K e. g.with-ends K (members K ∙ rw e);
      digits = λ r. rw (bit_in-add 32 words (end_in t Next) r room, or_assoc, due_next r) (g.digits r);
    }
      where
        room : end_in t Next / 32 < length words
        room = omega (arith, next_few, g.size)

  module _ (p : Context) {ends : ℕ} (among : Among t ends) (o : Only t head p ends) (here : ℕ) where
    -- rule r is in the set exactly when it is the empty rule of a nonterminal that can stand here
    due_kept : (r : ℕ) → Due t (bit_and here ends) r ≡ (ltb r head.rules && keeps_at head.well here p (rule_in t r))
    due_kept r = same_test _ _ kept due
      where
        M : ℕ
        M = left (rule_in t r)

        kept : Due t (bit_and here ends) r ≡ true → (ltb r head.rules && keeps_at head.well here p (rule_in t r)) ≡ true
        kept a =
            let e = eqb-true r (end_in t M) (and_left (eqb r (end_in t M)) (bit (bit_and here ends) M) a) in
            let m = sym (bit-and here ends M) ∙ and_right (eqb r (end_in t M)) (bit (bit_and here ends) M) a in
            let i = and_right (bit here M) (bit ends M) m in
            let d = end_rule x M (among M i) in
            let fits = o.fits r M (ap (rule_in t) e ∙ d.1) i in
            both (lt-ltb r head.rules (omega (arith, e, d.0)))
            (both (and_left (bit here M) (bit ends M) m) (and_right (eqb M M) (applies_to head.well (rule_in t r) p) fits))

        due : (ltb r head.rules && keeps_at head.well here p (rule_in t r)) ≡ true → Due t (bit_and here ends) r ≡ true
        due a =
            let l = ltb-true r head.rules (and_left (ltb r head.rules) (keeps_at head.well here p (rule_in t r)) a) in
            let k = and_right (ltb r head.rules) (keeps_at head.well here p (rule_in t r)) a in
            let stands = and_right (bit here M) (applies_to head.well (rule_in t r) p) k in
            let f = o.only r M l (both (eqb_refl M) stands) in
            let d = rule_end x r M l f.0 in
            both (eq-eqb r (end_in t M) d.1) (bit-and here ends M ∙ both (and_left (bit here M) (applies_to head.well (rule_in t r) p) k) f.1)

    pub gathered_all : {words : List ℕ} → Gathered t (bit_and here ends) 0 words → words ≡ words_in head.well t here p head.rules
    gathered_all {words} g =
        let (l, k) = words_held head.well t here p head.rules x.ready.few in
        held_same 32 head.rules (Keeps head.well t here p) words (words_in head.well t here p head.rules) (g.size ∙ sym l)
        (record { small = g.small; digits = digits }) k
      where
        digits : (r : ℕ) → bit_in 32 words r ≡ (ltb r head.rules && keeps_at head.well here p (rule_in t r))
        digits r = sym (rw (bit-zero (left (rule_in t r)), and-false, or-false)) ∙ g.digits r ∙ due_kept r

-- ── where only empty rules can stand ──

module _ {t : Table} {head : Head} (x : Indexed t head) (p : Context) where
  -- at the end
  pub all_among : Among t (ends_in t)
  all_among L e = e

  pub only_end : 4 ≤ code p.kind → Only t head p (ends_in t)
  only_end h = record {
    only = λ q L l f. let e = ends-only head.well p (rule_in t q) L (end_ends head.well p h L) f in (e, (rule_end x q L l e).0);
    fits = λ q L e b. ends_stand head.well p (rule_in t q) L (end_ends head.well p h L) e;
  }

  -- at a close that no rule takes alone
  pub low_among : Among t (low_ends_in t)
  low_among L e =
      let m = sym (x.low L) ∙ e in
      let w = ltb-true L head.well (and_left (ltb L head.well) _ m) in
      x.mask L ∙ both (lt-ltb L 32 (omega (arith, w, x.ready.well_small))) (and_right (ltb L head.well) _ m)

  module _ (near : code p.kind < 4) (h : 2 ≤ code p.kind) where
    low_is : (L : ℕ) → low_here head.well p L ≡ ltb L head.well
    low_is L = rw (lt-leb 4 (code p.kind) near)

    pub only_close : {n : ℕ} → FirstFrom t head.rules (class_at (token_here p)) 0 n → head.rules ≤ n → Only t head p (low_ends_in t)
    only_close {n} first none = record { only = ends; fits = stands }
      where
        ends : (q L : ℕ) → q < head.rules → (eqb (left (rule_in t q)) L && applies_to head.well (rule_in t q) p) ≡ true → (rule_in t q ≡ Rule.Empty L) × (bit (low_ends_in t) L ≡ true)
        ends q L l f = go (may_end head.well p L) refl
          where
            go : (b : Bool) → may_end head.well p L ≡ b → (rule_in t q ≡ Rule.Empty L) × (bit (low_ends_in t) L ≡ true)
            go false m = absurd (false≢true (sym (other_class head.well p (rule_in t q) L m (first.none q (omega arith) (omega arith))) ∙ f))
            go true m =
                let e = ends-only head.well p (rule_in t q) L m f in
                let d = rule_end x q L l e in
                let w = sym (low_is L) ∙ and_right (leb 2 (code p.kind)) (low_here head.well p L) m in
                (e, x.low L ∙ both w (and_right (ltb L 32) _ (sym (x.mask L) ∙ d.0)))

        stands : (q L : ℕ) → rule_in t q ≡ Rule.Empty L → bit (low_ends_in t) L ≡ true → (eqb (left (rule_in t q)) L && applies_to head.well (rule_in t q) p) ≡ true
        stands q L e b = ends_stand head.well p (rule_in t q) L (both (le-leb 2 (code p.kind) h) (low_is L ∙ and_left (ltb L head.well) _ (sym (x.low L) ∙ b))) e
