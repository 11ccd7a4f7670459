-- Two sources that say the same say the same grammar, or are refused by the same number: rule by rule, then the file.
use Prim.Native.Nat.{ℕ, zero, suc, ◌*◌, ◌≤◌}
use mathlib.Core.Path.{◌≡◌, refl, ap}
use mathlib.Core.Bool.{Bool, true, false, cond}
use mathlib.Core.List.{List, [], ◌∷◌, ◌++◌}
use mathlib.Core.Logic.{inl, inr}
use native.Mathlib.Omega.{arith}
use borrow.Author.Tests.{ne_eqb}
use lib.Dec.{eqb}
use Rattle.std.specs.Prelude.{Ok, Err}
use Rattle.refusal.specs.declared.Refusal.{Refusal}
use Rattle.numbers.specs.believed.Number.{Read, Source}
use Rattle.rules.specs.believed.Rule.{PairRead, names, forms, first, second, pair_at, after, step_at, body_at, rule_at}
use Rattle.tables.specs.Table.{earlier}
use Rattle.vpg.specs.declared.Rule.{Rule}
use Rattle.vpg.specs.declared.Token.{Token}
use Rattle.grammar_file.specs.believed.GrammarFile.{GrammarFile, refused, after as after_read, rules_from, counted_from, without_start, with_start, either, grammar_from}
use Rattle.sources.proofs.Alike.{SameNumber, both, neither, Alike, Same, SameField, same, refused as neither_read, field_alike, count_alike}

data SamePair (At : ℕ → ℕ → Type 0) : PairRead → PairRead → Type 0 where
  both_pairs : {a b p q : ℕ} → At p q → SamePair At (Ok (a, b, p)) (Ok (a, b, q))
  no_pair : {e : Refusal} → SamePair At (Err e) (Err e)

abbrev SameRule : (ℕ → ℕ → Type 0) → Read Rule → Read Rule → Type 0
SameRule = Same (λ _. Unit {0})

-- so many numbers more to be read
abbrev two : ℕ → ℕ
two k = suc (suc k)

abbrev four : ℕ → ℕ
four k = two (two k)

abbrev six : ℕ → ℕ
six k = two (four k)

-- ── what follows a read ──

first_alike : {below : ℕ} {At Then : ℕ → ℕ → Type 0} {r s : Read ℕ} (f g : ℕ → ℕ → PairRead) → SameField below At r s
    → ((a p q : ℕ) → At p q → SamePair Then (f a p) (g a q)) → SamePair Then (first r f) (first s g)
first_alike f g (same {x = n} {p} {q} h a) k = k n p q a
first_alike f g neither_read k = no_pair

second_alike : {below : ℕ} {At : ℕ → ℕ → Type 0} {r s : Read ℕ} (a : ℕ) → SameField below At r s → SamePair At (second a r) (second a s)
second_alike a (same h b) = both_pairs b
second_alike a neither_read = no_pair

after_alike : {At Then : ℕ → ℕ → Type 0} {r s : PairRead} (f g : ℕ → ℕ → ℕ → Read Rule) → SamePair At r s
    → ((a b p q : ℕ) → At p q → SameRule Then (f a b p) (g a b q)) → SameRule Then (after r f) (after s g)
after_alike f g (both_pairs {a} {b} {p} {q} h) k = k a b p q h
after_alike f g no_pair k = neither_read

after_read_alike : {A : Type 0} {Known : A → Type 0} {At : ℕ → ℕ → Type 0} {r s : Read A} (f g : A → ℕ → GrammarFile) → Same Known At r s
    → ((x : A) (p q : ℕ) → Known x → At p q → f x p ≡ g x q) → after_read r f ≡ after_read s g
after_read_alike f g (same {x} {p} {q} h a) k = k x p q h a
after_read_alike f g neither_read k = refl

module _ {x y : Source} {limit : ℕ} {At : ℕ → ℕ → ℕ → Type 0} (alike : Alike x y limit At) (names-few : names ≤ limit) where
  -- ── one rule ──

  module _ (nonterminals : ℕ) (few : nonterminals ≤ limit) where
    pair_alike : (k p q below : ℕ) (e : Refusal) → below ≤ limit → At (two k) p q
        → SamePair (At k) (pair_at x.number p below e nonterminals) (pair_at y.number q below e nonterminals)
    unfolding pair_at
    pair_alike k p q below e h a =
        first_alike _ _ (field_alike alike (suc k) p q below e h a)
        (λ n p1 q1 b. second_alike n (field_alike alike k p1 q1 nonterminals Refusal.Stage few b))

    step_alike : (k p q from name to : ℕ) → At (two k) p q
        → SameRule (At k) (step_at x.number p nonterminals from name to) (step_at y.number q nonterminals from name to)
    unfolding step_at
    step_alike k p q from name to a = after_alike _ _ (pair_alike k p q names Refusal.Name names-few a) (λ close last p1 q1 b. same tt b)

    body_alike : (k p q form from : ℕ) → At (four k) p q
        → SameRule (At k) (body_at x.number p nonterminals form from) (body_at y.number q nonterminals form from)
    unfolding body_at
    body_alike k p q form from a =
        after_alike _ _ (pair_alike (two k) p q names Refusal.Name names-few a) (λ name to p1 q1 b. go name to p1 q1 b (eqb form 1))
      where
        go : (name to p1 q1 : ℕ) → At (two k) p1 q1 → (t : Bool)
            → SameRule (At k) (cond t (Ok (Rule.Next from (Token.Mark (record { 0 = name })) to, p1)) (step_at x.number p1 nonterminals from name to))
            (cond t (Ok (Rule.Next from (Token.Mark (record { 0 = name })) to, q1)) (step_at y.number q1 nonterminals from name to))
        go name to p1 q1 b true = same tt (alike.fewer k (two k) p1 q1 (omega arith) b)
        go name to p1 q1 b false = step_alike k p1 q1 from name to b

    rule_alike : (k p q : ℕ) → At (six k) p q → SameRule (At k) (rule_at x.number p nonterminals) (rule_at y.number q nonterminals)
    unfolding rule_at
    rule_alike k p q a =
        after_alike _ _ (pair_alike (four k) p q forms Refusal.Form (omega (arith, names-few)) a) (λ form from p1 q1 b. go form from p1 q1 b (eqb form 0))
      where
        go : (form from p1 q1 : ℕ) → At (four k) p1 q1 → (t : Bool)
            → SameRule (At k) (cond t (Ok (Rule.Empty from, p1)) (body_at x.number p1 nonterminals form from))
            (cond t (Ok (Rule.Empty from, q1)) (body_at y.number q1 nonterminals form from))
        go form from p1 q1 b true = same tt (alike.fewer k (four k) p1 q1 (omega arith) b)
        go form from p1 q1 b false = body_alike k p1 q1 form from b

    -- ── the rules ──

    rules_alike : (start due p q : ℕ) (rules : List Rule) → At (6 * due) p q
        → rules_from x nonterminals start due p rules ≡ rules_from y nonterminals start due q rules
    unfolding rules_from
    rules_alike start zero p q rules a = rw (alike.more 0 p q (alike.fewer 0 (6 * 0) p q (omega arith) a))
    rules_alike start (suc due) p q rules a =
        after_read_alike _ _ (rule_alike (6 * due) p q (alike.fewer (six (6 * due)) (6 * suc due) p q (omega arith) a))
        (λ R p1 q1 _ b. ap (cond (earlier R rules) (refused 8)) (rules_alike start due p1 q1 (rules ++ (R ∷ [])) b))

    -- ── the file: its head, and at most 128 rules of six numbers ──

    counted_alike : (start k p q : ℕ) → 129 ≤ limit → 769 ≤ k → At k p q → counted_from x p nonterminals start ≡ counted_from y q nonterminals start
    counted_alike start k p q h room a =
        after_read_alike _ _ (count_alike alike 768 p q 128 Refusal.RuleCount (omega arith) (alike.fewer 769 k p q room a))
        (λ due p1 q1 most b. rules_alike start due p1 q1 [] (alike.fewer (6 * due) 768 p1 q1 (omega arith) b))

  either_alike : (k : ℕ) {r s : Read ℕ} (f g : ℕ → GrammarFile) (c d : GrammarFile) → 1 ≤ limit → SameNumber limit (At k) r s
      → ((p q : ℕ) → At k p q → f p ≡ g q) → c ≡ d → either r f c ≡ either s g d
  either_alike k f g c d h (both {n} {m} {p} {q} (inl e) a) long short = rw (e, short, long p q a)
  either_alike k f g c d h (both {n} {m} (inr (l, large)) a) long short = rw (ne_eqb n 0 (omega arith), ne_eqb m 0 (omega arith)) short
  either_alike k f g c d h neither long short = short

  without_alike : 129 ≤ limit → At 772 0 0 → without_start x ≡ without_start y
  without_alike h a =
      after_read_alike _ _ (count_alike alike 771 0 0 32 Refusal.StageCount (omega arith) a)
      (λ n p q few b. counted_alike n (omega arith) 0 771 p q h (omega arith) b)

  with_alike : (p q : ℕ) → 129 ≤ limit → At 771 p q → with_start x p ≡ with_start y q
  with_alike p q h a =
      after_read_alike _ _ (count_alike alike 770 p q 32 Refusal.StageCount (omega arith) a)
      (λ n p1 q1 few b.
      after_read_alike _ _ (field_alike alike 769 p1 q1 n Refusal.Stage (omega arith) b)
      (λ start p2 q2 below c. counted_alike n (omega arith) start 769 p2 q2 h (omega arith) c))

  pub grammar_alike : 129 ≤ limit → At 772 0 0 → grammar_from x ≡ grammar_from y
  unfolding grammar_from
  grammar_alike h a =
      either_alike 771 (with_start x) (with_start y) (without_start x) (without_start y) (omega arith) (alike.number 771 0 0 a)
      (λ p q b. with_alike p q h b) (without_alike h a)
