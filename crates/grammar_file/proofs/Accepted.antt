-- A grammar file is accepted exactly where it holds the numbers of a well-formed grammar, with its start or, if that is 0, without it; over
-- any source of numbers.
use Prim.Native.Nat.{ℕ, zero, suc, ◌<◌}
use mathlib.Core.Path.{◌≡◌, refl, sym, ap, ◌∙◌}
use mathlib.Core.Logic.{◌↔◌, ◌≢◌, ◌⊎◌, inl, inr}
use mathlib.Core.Bool.{Bool, true, false, false≢true, cond}
use mathlib.Core.List.Memᴰ
use mathlib.Core.List.{List, [], ◌∷◌, ◌++◌, append-nil, append_assoc, Memᴰ}
use mathlib.Core.Option.{some, none-ne-some, some-injective}
use native.Mathlib.Omega.{arith}
use borrow.Author.Tests.{eqb-true, ne_eqb}
use lib.Dec.{eqb}
use lib.ListN.{length, get_elem?}
use Rattle.laws.specs.Distinct.{Distinct}
use Rattle.std.specs.Prelude.{Ok, Err}
use Rattle.refusal.specs.declared.Refusal.{Refusal}
use Rattle.numbers.specs.believed.Number.{Read, Source}
use Rattle.numbers.specs.believed.Field.{field_at, count_at}
use Rattle.numbers.specs.Written.{NumbersAt, none, one, Holds}
use Rattle.numbers.proofs.Fields.{field_read, field_reads, Counted, count_read, count_reads}
use Rattle.laws.proofs.Bools.{chose_second}
use Rattle.numbers.proofs.Standing.{none_left, one_left, join, part}
use Rattle.rules.specs.believed.Rule.{rule_at}
use Rattle.rules.specs.RuleNumbers.{rule_numbers, Fits}
use Rattle.rules.proofs.Rules.{rule_is}
use Rattle.tables.specs.Table.{earlier}
use Rattle.tables.proofs.Earlier.{earlier_is}
use Rattle.vpg.specs.declared.Rule.{Rule}
use Rattle.vpg.specs.believed.Grammar.{Grammar}
use Rattle.grammar_file.specs.believed.GrammarFile.{GrammarFile, accepted, refused, after, rules_from, counted_from, without_start, with_start, either, grammar_from}
use Rattle.grammar_file.specs.Wellformed.{Wellformed, rules_numbers, numbers_of, numbers_without_start}

-- ── lists of rules ──

ne_true : (b : Bool) → (b ≡ true → ⊥) → b ≡ false
ne_true true h = absurd (h refl)
ne_true false h = refl

distinct_snoc : (rs : List Rule) (r : Rule) → Distinct rs → (Memᴰ r rs → ⊥) → Distinct (rs ++ (r ∷ []))
distinct_snoc [] r d new = (λ m. Memᴰ.not-nil m, tt)
distinct_snoc (x ∷ rs) r (apart, d) new =
    (λ m. go (Memᴰ.append_cases rs m), distinct_snoc rs r d (λ m. new (Memᴰ.tail m)))
  where
    go : Memᴰ x rs ⊎ Memᴰ x (r ∷ []) → ⊥
    go (inl m) = apart m
    go (inr m) = new (Memᴰ.head (sym (Memᴰ.eq_of_singleton m)))

distinct_new : (rs : List Rule) (r : Rule) (xs : List Rule) → Distinct (rs ++ (r ∷ xs)) → Memᴰ r rs → ⊥
distinct_new [] r xs d m = Memᴰ.not-nil m
distinct_new (x ∷ rs) r xs (apart, d) m = go (distinct_new rs r xs d) (Memᴰ.cases_cons m)
  where
    go : (Memᴰ r rs → ⊥) → (r ≡ x) ⊎ Memᴰ r rs → ⊥
    go below (inl e) = apart (Memᴰ.append_right rs (Memᴰ.head (sym e)))
    go below (inr m) = below m

-- the rule of number i is one of the rules
pub member : (rs : List Rule) (i : ℕ) {r : Rule} → get_elem? rs i ≡ some r → Memᴰ r rs
member [] i {r} h = absurd (none-ne-some r h)
member (x ∷ rs) zero {r} h = Memᴰ.head (sym (some-injective x r h))
member (x ∷ rs) (suc i) h = Memᴰ.tail (member rs i h)

pub rule_fits : {g : Grammar} → Wellformed g → (i : ℕ) {r : Rule} → get_elem? g.rules i ≡ some r → Fits g.nonterminals r
rule_fits {g} w i {r} h = w.fits r (member g.rules i h)

-- ── what was read, of an accepted file ──

pub apart : {e : ℕ} {g : Grammar} → refused e ≢ accepted g
apart h = let z : ◌≡◌ {A = ℕ} 0 1 = cc in omega arith

after_is : {A : Type 0} (f : Read A) (rest : A → ℕ → GrammarFile) {g : Grammar} → after f rest ≡ accepted g → (x : A) × (p : ℕ) × (f ≡ Ok (x, p)) × (rest x p ≡ accepted g)
after_is (Ok (x, p)) rest h = (x, p, refl, h)
after_is (Err e) rest h = absurd (apart h)

same_grammar : {g k : Grammar} → accepted k ≡ accepted g → g ≡ k
same_grammar h = cc

-- ── the rules of a file ──

module _ (x : Source) (nonterminals start : ℕ) where
  -- of an accepted file: the rules from a place on, those before them being `rules`
  record RulesAre (g : Grammar) (due at : ℕ) (rules : List Rule) : Type 0 where
    rest : List Rule
    is : g ≡ record { nonterminals = nonterminals; well = nonterminals; start = start; rules = rules ++ rest }
    count : length rest ≡ due
    end : ℕ
    stand : NumbersAt x.number at (rules_numbers rest) end
    last : x.more end ≡ false
    fits : (r : Rule) → Memᴰ r rest → Fits nonterminals r
    distinct : Distinct rules → Distinct (rules ++ rest)

  -- one rule before those
  one_rule : {g : Grammar} {due at p : ℕ} {rules : List Rule} (r : Rule) → NumbersAt x.number at (rule_numbers r) p → Fits nonterminals r
      → earlier r rules ≡ false → RulesAre g due p (rules ++ (r ∷ [])) → RulesAre g (suc due) at rules
  one_rule {rules} r i f new b = record {
    rest = r ∷ b.rest;
    is = rw append_assoc at b.is;
    count = ap suc b.count;
    end = b.end;
    stand = join i b.stand;
    last = b.last;
    fits = λ s m. each s (Memᴰ.cases_cons m);
    distinct = λ d. rw append_assoc at (b.distinct (distinct_snoc rules r d (λ m. false≢true (sym new ∙ (earlier_is r rules).1 m))));
  }
    where
      each : (s : Rule) → (s ≡ r) ⊎ Memᴰ s b.rest → Fits nonterminals s
      each s (inl e) = rw e f
      each s (inr m) = b.fits s m

  rules_read : (g : Grammar) (due at : ℕ) (rules : List Rule) → rules_from x nonterminals start due at rules ≡ accepted g → RulesAre g due at rules
  unfolding rules_from
  rules_read g zero at rules h =
      let p = chose_second (x.more at) _ _ apart h in
      record {
        rest = [];
        is = rw append-nil (same_grammar p.1);
        count = refl;
        end = at;
        stand = none;
        last = p.0;
        fits = λ r m. absurd (Memᴰ.not-nil m);
        distinct = λ d. rw append-nil d;
      }
  rules_read g (suc due) at rules h =
      let f = after_is (rule_at x.number at nonterminals) _ h in
      let i = (rule_is x.number nonterminals at f.0 f.1).0 f.2 in
      let p = chose_second (earlier f.0 rules) _ _ apart f.3 in
      one_rule f.0 i.0 i.1 p.0 (rules_read g due f.1 (rules ++ (f.0 ∷ [])) p.1)

  rules_reads : (rest : List Rule) (at end : ℕ) (rules : List Rule) → NumbersAt x.number at (rules_numbers rest) end → x.more end ≡ false
      → ((r : Rule) → Memᴰ r rest → Fits nonterminals r) → Distinct (rules ++ rest)
      → rules_from x nonterminals start (length rest) at rules ≡ accepted (record { nonterminals = nonterminals; well = nonterminals; start = start; rules = rules ++ rest })
  unfolding rules_from
  rules_reads [] at end rules n l f d = rw (none_left n, l, append-nil)
  rules_reads (r ∷ rest) at end rules n l f d =
      let s = part (rule_numbers r) n in
      let new = ne_true (earlier r rules) (λ e. distinct_new rules r rest d ((earlier_is r rules).0 e)) in
      rw ((rule_is x.number nonterminals at r s.0).1 (s.1, f r (Memᴰ.head refl)), new, ← append_assoc rules (r ∷ []) rest)
      (rules_reads rest s.0 end (rules ++ (r ∷ [])) s.2 l (λ q m. f q (Memᴰ.tail m)) (rw append_assoc d))

-- ── the file ──

module _ (x : Source) (g : Grammar) where
  -- the numbers of the grammar, with or without its start
  abbrev pub Said : Type 0
  Said = Holds x (numbers_of g) ⊎ (Holds x (numbers_without_start g) × (g.start ≡ 0))

  -- a number that is read, known as another
  number_as : {at p end n m : ℕ} {ns : List ℕ} → m ≡ n → x.number at ≡ Ok (n, p) → NumbersAt x.number p ns end → NumbersAt x.number at (m ∷ ns) end
  number_as e h i = rw e (one h i)

  counted : (n start at : ℕ) → counted_from x at n start ≡ accepted g → (due p : ℕ) × Counted (x.number at) 128 due p × RulesAre x n start g due p []
  counted n start at h =
      let s = after_is (count_at x.number at 128 Refusal.RuleCount) _ h in
      (s.0, s.1, count_read x.number at 128 Refusal.RuleCount _ _ s.2, rules_read x n start g s.0 s.1 [] s.3)

  module _ {n p start at due q : ℕ} {r : Read ℕ} (c : Counted r 32 n p) (below : start < n) (k : Counted (x.number at) 128 due q) (b : RulesAre x n start g due q []) where
    stages_are : g.nonterminals ≡ n
    stages_are = ap (λ f. f.nonterminals) b.is

    start_is : g.start ≡ start
    start_is = ap (λ f. f.start) b.is

    rules_are : g.rules ≡ b.rest
    rules_are = ap (λ f. f.rules) b.is

    due_is : length g.rules ≡ due
    due_is = ap length rules_are ∙ b.count

    rules_stand : NumbersAt x.number at (length g.rules ∷ rules_numbers g.rules) b.end
    rules_stand = rw (due_is, rules_are) (one k.read b.stand)

    good : Wellformed g
    good = record {
      nonterminals_least = omega (arith, c.least, stages_are);
      nonterminals_most = omega (arith, c.most_of, stages_are);
      well_all = ap (λ f. f.well) b.is ∙ sym stages_are;
      start_below = omega (arith, below, stages_are, start_is);
      rules_least = omega (arith, k.least, due_is);
      rules_most = omega (arith, k.most_of, due_is);
      fits = rw (stages_are, rules_are) b.fits;
      distinct = rw rules_are (b.distinct tt);
    }

  short_read : without_start x ≡ accepted g → Said × Wellformed g
  short_read h =
      let f = after_is (count_at x.number 0 32 Refusal.StageCount) _ h in
      let c = count_read x.number 0 32 Refusal.StageCount _ _ f.2 in
      let (due, p, k, b) = counted f.0 0 f.1 f.3 in
      (inr ((b.end, number_as (stages_are c c.least k b) c.read (rules_stand c c.least k b), b.last), start_is c c.least k b), good c c.least k b)

  long_read : (at : ℕ) → x.number 0 ≡ Ok (0, at) → with_start x at ≡ accepted g → Said × Wellformed g
  long_read at z h =
      let f = after_is (count_at x.number at 32 Refusal.StageCount) _ h in
      let c = count_read x.number at 32 Refusal.StageCount _ _ f.2 in
      let s = after_is (field_at x.number f.1 f.0 Refusal.Stage) _ f.3 in
      let l = field_read x.number f.1 f.0 Refusal.Stage _ _ s.2 in
      let (due, p, k, b) = counted f.0 s.0 s.1 s.3 in
      let rest = number_as (start_is c l.below k b) l.read (rules_stand c l.below k b) in
      (inl (b.end, one z (number_as (stages_are c l.below k b) c.read rest), b.last), good c l.below k b)

  said_read : grammar_from x ≡ accepted g → Said × Wellformed g
  unfolding grammar_from
  said_read h = go (x.number 0) refl h
    where
      go : (r : Read ℕ) → x.number 0 ≡ r → either r (with_start x) (without_start x) ≡ accepted g → Said × Wellformed g
      go (Ok (n, at)) e q = zero_or (eqb n 0) refl q
        where
          zero_or : (b : Bool) → eqb n 0 ≡ b → cond b (with_start x at) (without_start x) ≡ accepted g → Said × Wellformed g
          zero_or true t k = long_read at (e ∙ ap (λ m. Ok (m, at)) (eqb-true n 0 t)) k
          zero_or false t k = short_read k
      go (Err d) e q = short_read q

  module _ (w : Wellformed g) where
    counted_reads : (start at end : ℕ) → start ≡ g.start → NumbersAt x.number at (length g.rules ∷ rules_numbers g.rules) end → x.more end ≡ false
        → counted_from x at g.nonterminals start ≡ accepted g
    counted_reads start at end e i last =
        let s = one_left i in
        rw (e, count_reads x.number at 128 Refusal.RuleCount (length g.rules) s.0 s.1 w.rules_least w.rules_most)
        (rules_reads x g.nonterminals g.start g.rules s.0 end [] s.2 last w.fits w.distinct
        ∙ ap (λ (k : ℕ). accepted (record { nonterminals = g.nonterminals; well = k; start = g.start; rules = g.rules })) (sym w.well_all))

    said_reads : Said → grammar_from x ≡ accepted g
    unfolding grammar_from
    said_reads (inl (end, i, last)) =
        let z = one_left i in
        let f = one_left z.2 in
        let s = one_left f.2 in
        rw (
          z.1,
          count_reads x.number z.0 32 Refusal.StageCount g.nonterminals f.0 f.1 w.nonterminals_least w.nonterminals_most,
          field_reads x.number f.0 g.nonterminals Refusal.Stage g.start s.0 s.1 w.start_below,
        )
        (counted_reads g.start s.0 end refl s.2 last)
    said_reads (inr ((end, i, last), zero-start)) =
        let f = one_left i in
        rw (
          f.1,
          ne_eqb g.nonterminals 0 (omega (arith, w.nonterminals_least)),
          count_reads x.number 0 32 Refusal.StageCount g.nonterminals f.0 f.1 w.nonterminals_least w.nonterminals_most,
        )
        (counted_reads 0 f.0 end (sym zero-start) f.2 last)

  pub grammar_is : (grammar_from x ≡ accepted g) ↔ (Said × Wellformed g)
  grammar_is = (said_read, λ (s, w). said_reads w s)

  pub grammar_wellformed : grammar_from x ≡ accepted g → Wellformed g
  grammar_wellformed h = (said_read h).1
