-- Since names go to 65,535 and numbers to three bytes, a grammar file says what it said, but where it was refused by 2 or 7. So every grammar
-- file that passed keeps its meaning (document 02, 2.4).
use Prim.Native.Nat.{ℕ, zero, suc}
use mathlib.Core.Path.{◌≡◌, refl, sym, ap, ◌∙◌}
use mathlib.Core.Logic.{◌⊎◌, inl, inr}
use mathlib.Core.List.{List, [], ◌∷◌, ◌++◌}
use native.Mathlib.Omega.{arith}
use lib.Dec.{eqb}
use Rattle.std.specs.Prelude.{Ok, Err}
use Rattle.refusal.specs.declared.Refusal.{Refusal}
use Rattle.refusal.specs.believed.Refusal.{number}
use Rattle.numbers.specs.believed.Number.{Read, number_at, Source, bytes}
use Rattle.numbers.specs.believed.Field.{field_at, count_at}
use Rattle.rules.specs.believed.Rule.{PairRead, names, forms, first, second, pair_at, after, step_at, body_at, rule_at}
use Rattle.tables.specs.Table.{earlier}
use Rattle.vpg.specs.declared.Rule.{Rule}
use Rattle.vpg.specs.believed.Grammar.{Grammar}
use Rattle.grammar_file.specs.believed.GrammarFile.{GrammarFile, accepted, refused, after as after_read, rules_from, counted_from, without_start, with_start, either, grammar_from, grammar_of}
use Rattle.grammar_file.proofs.Accepted.{apart}
use Rattle.earlier_files.specs.TwoBytes.{two_bytes}
use Rattle.earlier_files.specs.NarrowGrammar.{narrow_names, step_narrow, body_narrow, rule_narrow, rules_narrow, counted_narrow, without_start_narrow, with_start_narrow, grammar_narrow}
use Rattle.earlier_files.specs.GrammarBefore.{grammar_before}
use Rattle.earlier_files.proofs.Grammars.{grammar_kept}
use Rattle.earlier_files.proofs.Kept.{Kept, followed, either-kept, number-kept, Wider, field-kept, count_kept}

-- a refusal, as a file is said to be refused
abbrev told : Refusal → GrammarFile
told e = refused (number e)

abbrev Moved : Refusal → Type 0
Moved e = (e ≡ Refusal.NotShortest) ⊎ (e ≡ Refusal.Name)

wider_names : Wider Moved narrow_names names Refusal.Name
wider_names = inr (omega arith, inr refl)

-- ── one rule ──

module _ {number number' : ℕ → Read ℕ} (numbers : (at : ℕ) → Kept Moved Err (number at) (number' at)) (nonterminals : ℕ) where
  pair_kept : (at limit wide : ℕ) (e : Refusal) → Wider Moved limit wide e → Kept Moved Err (pair_at number at limit e nonterminals) (pair_at number' at wide e nonterminals)
  unfolding pair_at
  pair_kept at limit wide e w = followed Moved (λ r. first r _) (λ r. first r _) (λ d. refl) goes (field-kept Moved numbers at limit wide e w)
    where
      goes : (r : Read ℕ)
          → Kept Moved Err (first r (λ a next. second a (field_at number next nonterminals Refusal.Stage))) (first r (λ a next. second a (field_at number' next nonterminals Refusal.Stage)))
      goes (Ok (a, next)) = followed Moved (second a) (second a) (λ d. refl) (λ r. inl refl) (field-kept Moved numbers next nonterminals nonterminals Refusal.Stage (inl refl))
      goes (Err d) = inl refl

  -- what follows a pair
  after_kept : (f g : ℕ → ℕ → ℕ → Read Rule) → ((a b next : ℕ) → Kept Moved Err (f a b next) (g a b next))
      → {r s : PairRead} → Kept Moved Err r s → Kept Moved Err (after r f) (after s g)
  after_kept f g k h = followed Moved (λ r. after r f) (λ r. after r g) (λ d. refl) goes h
    where
      goes : (r : PairRead) → Kept Moved Err (after r f) (after r g)
      goes (Ok (a, b, next)) = k a b next
      goes (Err d) = inl refl

  step_kept : (at from name to : ℕ) → Kept Moved Err (step_narrow number at nonterminals from name to) (step_at number' at nonterminals from name to)
  unfolding step_narrow step_at
  step_kept at from name to = after_kept _ _ (λ close last next. inl refl) (pair_kept at narrow_names names Refusal.Name wider_names)

  body_kept : (at form from : ℕ) → Kept Moved Err (body_narrow number at nonterminals form from) (body_at number' at nonterminals form from)
  unfolding body_narrow body_at
  body_kept at form from =
      after_kept _ _ (λ name to next. either-kept Moved (eqb form 1) (inl refl) (step_kept next from name to)) (pair_kept at narrow_names names Refusal.Name wider_names)

  rule_kept : (at : ℕ) → Kept Moved Err (rule_narrow number at nonterminals) (rule_at number' at nonterminals)
  unfolding rule_narrow rule_at
  rule_kept at =
      after_kept _ _ (λ form from next. either-kept Moved (eqb form 0) (inl refl) (body_kept next form from)) (pair_kept at forms forms Refusal.Form (inl refl))

-- ── the file ──

module _ {x y : Source} (numbers : (at : ℕ) → Kept Moved Err (x.number at) (y.number at)) (more : (at : ℕ) → y.more at ≡ x.more at) where
  -- what follows a read
  after_read_kept : {A : Type 0} (f g : A → ℕ → GrammarFile) → ((a : A) (next : ℕ) → Kept Moved told (f a next) (g a next))
      → {r s : Read A} → Kept Moved Err r s → Kept Moved told (after_read r f) (after_read s g)
  after_read_kept {A} f g k h = followed Moved (λ r. after_read r f) (λ r. after_read r g) (λ d. refl) goes h
    where
      goes : (r : Read A) → Kept Moved told (after_read r f) (after_read r g)
      goes (Ok (a, next)) = k a next
      goes (Err d) = inl refl

  rules_kept : (nonterminals start due at : ℕ) (rules : List Rule)
      → Kept Moved told (rules_narrow x nonterminals start due at rules) (rules_from y nonterminals start due at rules)
  unfolding rules_narrow rules_from
  rules_kept nonterminals start zero at rules = inl (rw more)
  rules_kept nonterminals start (suc due) at rules =
      after_read_kept _ _
      (λ R next. either-kept Moved (earlier R rules) (inl refl) (rules_kept nonterminals start due next (rules ++ (R ∷ []))))
      (rule_kept numbers nonterminals at)

  counted-kept : (at nonterminals start : ℕ) → Kept Moved told (counted_narrow x at nonterminals start) (counted_from y at nonterminals start)
  counted-kept at nonterminals start =
      after_read_kept _ _ (λ due next. rules_kept nonterminals start due next []) (count_kept Moved numbers at 128 Refusal.RuleCount)

  without_kept : Kept Moved told (without_start_narrow x) (without_start y)
  without_kept = after_read_kept _ _ (λ n next. counted-kept next n 0) (count_kept Moved numbers 0 32 Refusal.StageCount)

  with-kept : (at : ℕ) → Kept Moved told (with_start_narrow x at) (with_start y at)
  with-kept at =
      after_read_kept _ _
      (λ n next. after_read_kept _ _ (λ start behind. counted-kept behind n start) (field-kept Moved numbers next n n Refusal.Stage (inl refl)))
      (count_kept Moved numbers at 32 Refusal.StageCount)

  -- the first number, which says whether there is a start
  begun : (r : Read ℕ) → Kept Moved told (either r (with_start_narrow x) (without_start_narrow x)) (either r (with_start y) (without_start y))
  begun (Ok (n, next)) = either-kept Moved (eqb n 0) (with-kept next) without_kept
  begun (Err e) = without_kept

  no_number : (e : Refusal) → x.number 0 ≡ Err e → grammar_narrow x ≡ told e
  unfolding grammar_narrow count_at field_at
  no_number e was = rw was

  pub grammar_kept-from : Kept Moved told (grammar_narrow x) (grammar_from y)
  unfolding grammar_narrow grammar_from
  grammar_kept-from = go (numbers 0)
    where
      go : Kept Moved Err (x.number 0) (y.number 0) → Kept Moved told (grammar_narrow x) (grammar_from y)
      go (inl same) = rw same (begun (x.number 0))
      go (inr (e, m, was)) = inr (e, m, no_number e was)

-- ── of bytes ──

module _ (s : List ℕ) where
  pub grammar_widened : (grammar_of s ≡ grammar_narrow (two_bytes s)) ⊎ ((grammar_narrow (two_bytes s) ≡ refused 2) ⊎ (grammar_narrow (two_bytes s) ≡ refused 7))
  unfolding number_at
  grammar_widened = go (grammar_kept-from {x = two_bytes s} {y = bytes s} (number-kept Moved (inl refl) s 2) (λ at. refl))
    where
      go : Kept Moved told (grammar_narrow (two_bytes s)) (grammar_of s)
          → (grammar_of s ≡ grammar_narrow (two_bytes s)) ⊎ ((grammar_narrow (two_bytes s) ≡ refused 2) ⊎ (grammar_narrow (two_bytes s) ≡ refused 7))
      go (inl same) = inl same
      go (inr (e, inl two, was)) = inr (inl (was ∙ ap told two))
      go (inr (e, inr seven, was)) = inr (inr (was ∙ ap told seven))

  pub grammar_keeps_its_meaning : (g : Grammar) → grammar_narrow (two_bytes s) ≡ accepted g → grammar_of s ≡ accepted g
  grammar_keeps_its_meaning g h = go grammar_widened
    where
      go : (grammar_of s ≡ grammar_narrow (two_bytes s)) ⊎ ((grammar_narrow (two_bytes s) ≡ refused 2) ⊎ (grammar_narrow (two_bytes s) ≡ refused 7)) → grammar_of s ≡ accepted g
      go (inl same) = same ∙ h
      go (inr (inl two)) = absurd (apart (sym two ∙ h))
      go (inr (inr seven)) = absurd (apart (sym seven ∙ h))

  -- and a file that passed before it could say its start, through both requests
  pub first_files_keep_their_meaning : (g : Grammar) → grammar_before (two_bytes s) ≡ accepted g → grammar_of s ≡ accepted g
  first_files_keep_their_meaning g h = grammar_keeps_its_meaning g (grammar_kept (two_bytes s) g h)
