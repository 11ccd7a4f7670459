-- What every refusal of a reader has in common: a property of the numbers that the reader itself gives holds of each of its refusals.
use Prim.Native.Nat.{ℕ, zero, suc, ◌+◌, ◌-◌, ◌/◌, ◌≤◌}
use native.Mathlib.Omega.{arith}
use mathlib.Core.Bool.{Bool, true, false, cond, ◌&&◌, ◌||◌}
use mathlib.Core.List.{List, [], ◌∷◌, ◌++◌}
use lib.Dec.{eqb, ltb, leb}
use lib.ListN.{length, get_or}
use Rattle.std.specs.Prelude.{Result, Ok, Err}
use Rattle.vpg.specs.declared.Rule.{Rule}
use Rattle.refusal.specs.declared.Refusal.{Refusal}
use Rattle.refusal.specs.believed.Refusal.{number}
use Rattle.numbers.specs.believed.Number.{Read, with_group, number_within, number_at, Source, bytes}
use Rattle.numbers.specs.believed.Field.{limited, field_at, positive, count_at}
use Rattle.rules.specs.believed.Rule.{PairRead, names, forms, first, second, pair_at, after, step_at, body_at, rule_at}
use Rattle.tables.specs.Table.{earlier}
use Rattle.grammar_file.specs.believed.GrammarFile.{GrammarFile, rules_from, counted_from, without_start, with_start, either, grammar_from, grammar_of}
use Rattle.grammar_file.specs.believed.GrammarFile as grammar
use Rattle.history_file.specs.believed.HistoryFile.{HistoryFile, kind, token_judged, judged, token_at, depth_after, tokens_from, history_from, history_of}
use Rattle.history_file.specs.believed.HistoryFile as history

-- what holds of both holds of the one chosen
pub chosen : {A : Type 0} (Q : A → Type 0) (b : Bool) {x y : A} → Q x → Q y → Q (cond b x y)
chosen Q true p q = p
chosen Q false p q = q

module _ (P : ℕ → Type 0) where
  -- of what is read: a number, two of them, a rule or a token
  abbrev pub OfRead : {A : Type 0} → Result A Refusal → Type 0
  OfRead (Ok x) = Unit
  OfRead (Err e) = P (number e)

  abbrev pub OfGrammar : GrammarFile → Type 0
  OfGrammar (grammar.accepted g) = Unit
  OfGrammar (grammar.refused e) = P e

  abbrev pub OfHistory : HistoryFile → Type 0
  OfHistory (history.accepted ts) = Unit
  OfHistory (history.refused e) = P e

  -- ── numbers ──

  group_of : (low : ℕ) (r : Read ℕ) → P 2 → OfRead r → OfRead (with_group low r)
  group_of low (Ok (high, next)) two h = chosen OfRead (eqb high 0) two tt
  group_of low (Err e) two h = h

  within_of : P 1 → P 2 → (most : ℕ) (s : List ℕ) (at : ℕ) → OfRead (number_within most s at)
  unfolding number_within
  within_of one two zero s at = two
  within_of one two (suc most) s at =
      chosen OfRead (ltb at (length s))
      (chosen OfRead (ltb (get_or s at 0) 128) tt
      (group_of (get_or s at 0 - 128) (number_within most s (at + 1)) two (within_of one two most s (at + 1))))
      one

  number_of : P 1 → P 2 → (s : List ℕ) (at : ℕ) → OfRead (number_at s at)
  unfolding number_at
  number_of one two s at = within_of one two 3 s at

  module _ (read : ℕ → Read ℕ) (of : (at : ℕ) → OfRead (read at)) where
    limited_of : (r : Read ℕ) → OfRead r → (limit : ℕ) (k : Refusal) → P (number k) → OfRead (limited r limit k)
    limited_of (Ok (n, p)) h limit k q = chosen OfRead (ltb n limit) tt q
    limited_of (Err e) h limit k q = h

    field_of : (at limit : ℕ) (k : Refusal) → P (number k) → OfRead (field_at read at limit k)
    unfolding field_at
    field_of at limit k q = limited_of (read at) (of at) limit k q

    positive_of : (r : Read ℕ) → OfRead r → (k : Refusal) → P (number k) → OfRead (positive r k)
    positive_of (Ok (n, p)) h k q = chosen OfRead (eqb n 0) q tt
    positive_of (Err e) h k q = h

    count_of : (at most : ℕ) (k : Refusal) → P (number k) → OfRead (count_at read at most k)
    unfolding count_at
    count_of at most k q = positive_of (field_at read at (most + 1) k) (field_of at (most + 1) k q) k q

    -- ── rules: 5 to 7 ──

    module _ (own : (e : ℕ) → (5 ≤ e) × (e ≤ 7) → P e) where
      first_of : (r : Read ℕ) → OfRead r → (rest : ℕ → ℕ → PairRead) → ((a p : ℕ) → OfRead (rest a p)) → OfRead (first r rest)
      first_of (Ok (a, p)) h rest k = k a p
      first_of (Err e) h rest k = h

      second_of : (a : ℕ) (r : Read ℕ) → OfRead r → OfRead (second a r)
      second_of a (Ok (b, p)) h = tt
      second_of a (Err e) h = h

      pair_of : (at limit : ℕ) (k : Refusal) (nonterminals : ℕ) → P (number k) → OfRead (pair_at read at limit k nonterminals)
      unfolding pair_at
      pair_of at limit k nonterminals q =
          first_of (field_at read at limit k) (field_of at limit k q) _
          (λ a next. second_of a (field_at read next nonterminals Refusal.Stage) (field_of next nonterminals Refusal.Stage (own 6 (omega arith))))

      after_of : (r : PairRead) → OfRead r → (rest : ℕ → ℕ → ℕ → Read Rule) → ((a b p : ℕ) → OfRead (rest a b p)) → OfRead (after r rest)
      after_of (Ok (a, b, p)) h rest k = k a b p
      after_of (Err e) h rest k = h

      named_of : (at nonterminals : ℕ) → OfRead (pair_at read at names Refusal.Name nonterminals)
      named_of at nonterminals = pair_of at names Refusal.Name nonterminals (own 7 (omega arith))

      step_of : (at nonterminals from name to : ℕ) → OfRead (step_at read at nonterminals from name to)
      unfolding step_at
      step_of at nonterminals from name to = after_of (pair_at read at names Refusal.Name nonterminals) (named_of at nonterminals) _ (λ close last next. tt)

      body_of : (at nonterminals form from : ℕ) → OfRead (body_at read at nonterminals form from)
      unfolding body_at
      body_of at nonterminals form from =
          after_of (pair_at read at names Refusal.Name nonterminals) (named_of at nonterminals) _
          (λ name to next. chosen OfRead (eqb form 1) tt (step_of next nonterminals from name to))

      rule_of : (at nonterminals : ℕ) → OfRead (rule_at read at nonterminals)
      unfolding rule_at
      rule_of at nonterminals =
          after_of (pair_at read at forms Refusal.Form nonterminals) (pair_of at forms Refusal.Form nonterminals (own 5 (omega arith))) _
          (λ form from next. chosen OfRead (eqb form 0) tt (body_of next nonterminals form from))

    -- ── tokens ──

    judged_of : P 11 → P 12 → P 14 → (r : Read ℕ) → OfRead r → (depth : ℕ) → OfRead (judged r depth)
    unfolding token_judged
    judged_of eleven twelve fourteen (Ok (t, next)) h depth =
        chosen OfRead (ltb 65535 (t / 4) || eqb (kind t) 3) eleven
        (chosen OfRead (eqb (kind t) 2 && eqb depth 0) twelve
        (chosen OfRead (eqb (kind t) 1 && leb 128 depth) fourteen tt))
    judged_of eleven twelve fourteen (Err e) h depth = h

    token_of_lem : P 11 → P 12 → P 14 → (at depth : ℕ) → OfRead (token_at read at depth)
    unfolding token_at
    token_of_lem eleven twelve fourteen at depth = judged_of eleven twelve fourteen (read at) (of at) depth

  -- ── the two files ──

  module _ (x : Source) (of : (at : ℕ) → OfRead (x.number at)) where
    after-read : {A : Type 0} (r : Read A) → OfRead r → (rest : A → ℕ → GrammarFile) → ((a : A) (p : ℕ) → OfGrammar (rest a p)) → OfGrammar (grammar.after r rest)
    after-read (Ok (a, p)) h rest k = k a p
    after-read (Err e) h rest k = h

    rules_of_lem : ((e : ℕ) → (5 ≤ e) × (e ≤ 9) → P e) → (nonterminals start due at : ℕ) (rules : List Rule) → OfGrammar (rules_from x nonterminals start due at rules)
    unfolding rules_from
    rules_of_lem own nonterminals start zero at rules = chosen OfGrammar (x.more at) (own 9 (omega arith)) tt
    rules_of_lem own nonterminals start (suc due) at rules =
        after-read (rule_at x.number at nonterminals) (rule_of x.number of (λ e h. own e (omega arith)) at nonterminals) _
        (λ r next. chosen OfGrammar (earlier r rules) (own 8 (omega arith)) (rules_of_lem own nonterminals start due next (rules ++ (r ∷ []))))

    after-tokens_of : (r : Read ℕ) → OfRead r → (rest : ℕ → ℕ → HistoryFile) → ((n p : ℕ) → OfHistory (rest n p)) → OfHistory (history.after r rest)
    after-tokens_of (Ok (n, p)) h rest k = k n p
    after-tokens_of (Err e) h rest k = h

    tokens_of_lem : P 9 → ((e : ℕ) → (11 ≤ e) × (e ≤ 14) → P e) → (due at depth : ℕ) (ts : List ℕ) → OfHistory (tokens_from x due at depth ts)
    unfolding tokens_from
    tokens_of_lem nine own zero at depth ts = chosen OfHistory (ltb 0 depth) (own 13 (omega arith)) (chosen OfHistory (x.more at) nine tt)
    tokens_of_lem nine own (suc due) at depth ts =
        after-tokens_of (token_at x.number at depth) (token_of_lem x.number of (own 11 (omega arith)) (own 12 (omega arith)) (own 14 (omega arith)) at depth) _
        (λ t next. tokens_of_lem nine own due next (depth_after t depth) (ts ++ (t ∷ [])))

    -- beside the source's own numbers a grammar is refused by 3 to 9
    module _ (own : (e : ℕ) → (3 ≤ e) × (e ≤ 9) → P e) where
      counted_of : (at nonterminals start : ℕ) → OfGrammar (counted_from x at nonterminals start)
      counted_of at nonterminals start =
          after-read (count_at x.number at 128 Refusal.RuleCount) (count_of x.number of at 128 Refusal.RuleCount (own 4 (omega arith))) _
          (λ due next. rules_of_lem (λ e h. own e (omega arith)) nonterminals start due next [])

      stages_of : (at : ℕ) → OfRead (count_at x.number at 32 Refusal.StageCount)
      stages_of at = count_of x.number of at 32 Refusal.StageCount (own 3 (omega arith))

      without_of : OfGrammar (without_start x)
      without_of = after-read (count_at x.number 0 32 Refusal.StageCount) (stages_of 0) _ (λ nonterminals next. counted_of next nonterminals 0)

      with_of : (at : ℕ) → OfGrammar (with_start x at)
      with_of at =
          after-read (count_at x.number at 32 Refusal.StageCount) (stages_of at) _
          (λ nonterminals next.
          after-read (field_at x.number next nonterminals Refusal.Stage) (field_of x.number of next nonterminals Refusal.Stage (own 6 (omega arith))) _
          (λ start behind. counted_of behind nonterminals start))

      either_of : (r : Read ℕ) → OfGrammar (either r (with_start x) (without_start x))
      either_of (Ok (n, next)) = chosen OfGrammar (eqb n 0) (with_of next) without_of
      either_of (Err e) = without_of

      pub grammar_from_of : OfGrammar (grammar_from x)
      unfolding grammar_from
      grammar_from_of = either_of (x.number 0)

    -- and a history by 9 to 14
    pub history_from_of : ((e : ℕ) → (9 ≤ e) × (e ≤ 14) → P e) → OfHistory (history_from x)
    unfolding history_from
    history_from_of own =
        after-tokens_of (field_at x.number 0 1025 Refusal.TokenCount) (field_of x.number of 0 1025 Refusal.TokenCount (own 10 (omega arith))) _
        (λ due at. tokens_of_lem (own 9 (omega arith)) (λ e h. own e (omega arith)) due at 0 [])

  -- a refused grammar file is refused by 1 to 9
  pub grammar_of_lem : ((e : ℕ) → (1 ≤ e) × (e ≤ 9) → P e) → (s : List ℕ) → OfGrammar (grammar_of s)
  grammar_of_lem own s = grammar_from_of (bytes s) (number_of (own 1 (omega arith)) (own 2 (omega arith)) s) (λ e h. own e (omega arith))

  -- a refused history file by 1, 2, or 9 to 14
  pub history_of_lem : P 1 → P 2 → ((e : ℕ) → (9 ≤ e) × (e ≤ 14) → P e) → (s : List ℕ) → OfHistory (history_of s)
  history_of_lem one two own s = history_from_of (bytes s) (number_of one two s) own
