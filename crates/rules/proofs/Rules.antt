-- A rule is read exactly where its numbers stand and are within their ranges.
use Prim.Native.Nat.{ℕ, ◌<◌}
use mathlib.Core.Path.{◌≡◌, refl, ap}
use mathlib.Core.Logic.{◌↔◌}
use mathlib.Core.Bool.{Bool, true, false, cond}
use mathlib.Core.List.{List, ◌∷◌}
use native.Mathlib.Omega.{arith}
use lib.Dec.{eqb, lit<}
use borrow.Author.Tests.{eqb-true, eqb-false}
use Rattle.std.specs.Prelude.{Ok, Err}
use Rattle.refusal.specs.declared.Refusal.{Refusal}
use Rattle.numbers.specs.believed.Number.{Read}
use Rattle.numbers.specs.believed.Field.{field_at}
use Rattle.numbers.specs.Written.{NumbersAt, none, one}
use Rattle.numbers.proofs.Results.{apart, same_read}
use Rattle.numbers.proofs.Fields.{field_read, field_reads}
use Rattle.numbers.proofs.Standing.{none_left, one_left}
use Rattle.vpg.specs.declared.Rule.{Rule}
use Rattle.vpg.specs.declared.Token.{Token}
use Rattle.rules.specs.believed.Rule.{PairRead, names, forms, first, second, pair_at, after, step_at, body_at, rule_at}
use Rattle.rules.specs.RuleNumbers.{rule_numbers, Fits}

first_read : (f : Read ℕ) (rest : ℕ → ℕ → PairRead) {a b next : ℕ} → first f rest ≡ Ok (a, b, next) → (m p : ℕ) × (f ≡ Ok (m, p)) × (rest m p ≡ Ok (a, b, next))
first_read (Ok (m, p)) rest h = (m, p, refl, h)
first_read (Err e) rest h = absurd (apart h)

second_read : (m : ℕ) (f : Read ℕ) {a b next : ℕ} → second m f ≡ Ok (a, b, next) → (m ≡ a) × (f ≡ Ok (b, next))
second_read m (Ok (n, p)) {a} {b} {next} h =
    let z : ◌≡◌ {A = ℕ × ℕ × ℕ} (m, n, p) (a, b, next) = cc in
    (ap (λ x. x.0) z, ap (λ x. Ok (x.1, x.2)) z)
second_read m (Err e) h = absurd (apart h)

after_read : (f : PairRead) (rest : ℕ → ℕ → ℕ → Read Rule) {r : Rule} {next : ℕ} →
    after f rest ≡ Ok (r, next) → (a b p : ℕ) × (f ≡ Ok (a, b, p)) × (rest a b p ≡ Ok (r, next))
after_read (Ok (a, b, p)) rest h = (a, b, p, refl, h)
after_read (Err e) rest h = absurd (apart h)

module _ (number : ℕ → Read ℕ) (nonterminals : ℕ) where
  -- two numbers are read, each below its limit
  record PairIs (at limit a b next : ℕ) : Type 0 where
    middle : ℕ
    one : number at ≡ Ok (a, middle)
    two : number middle ≡ Ok (b, next)
    one_below : a < limit
    two_below : b < nonterminals

  pair_read : (at limit : ℕ) (e : Refusal) (a b next : ℕ) → pair_at number at limit e nonterminals ≡ Ok (a, b, next) → PairIs at limit a b next
  unfolding pair_at
  pair_read at limit e a b next h =
      let f = first_read (field_at number at limit e) _ h in
      let s = second_read f.0 (field_at number f.1 nonterminals Refusal.Stage) f.3 in
      let l = field_read number at limit e a f.1 (rw s.0 at f.2) in
      let m = field_read number f.1 nonterminals Refusal.Stage b next s.1 in
      record { middle = f.1; one = l.read; two = m.read; one_below = l.below; two_below = m.below }

  pair_reads : (at limit : ℕ) (e : Refusal) (a b next : ℕ) → PairIs at limit a b next → pair_at number at limit e nonterminals ≡ Ok (a, b, next)
  unfolding pair_at
  pair_reads at limit e a b next p =
      rw (field_reads number at limit e a p.middle p.one p.one_below, field_reads number p.middle nonterminals Refusal.Stage b next p.two p.two_below)

  -- the two numbers, before others
  stand : {at limit a b p next : ℕ} {ns : List ℕ} → PairIs at limit a b p → NumbersAt number p ns next → NumbersAt number at (a ∷ b ∷ ns) next
  stand i rest = one i.one (one i.two rest)

  split : {at a b next : ℕ} {ns : List ℕ} (limit : ℕ) → NumbersAt number at (a ∷ b ∷ ns) next → a < limit → b < nonterminals
      → (p : ℕ) × PairIs at limit a b p × NumbersAt number p ns next
  split limit n h k =
      let f = one_left n in
      let s = one_left f.2 in
      (s.0, record { middle = f.0; one = f.1; two = s.1; one_below = h; two_below = k }, s.2)

  abbrev RuleIs : ℕ → Rule → ℕ → Type 0
  RuleIs at r next = NumbersAt number at (rule_numbers r) next × Fits nonterminals r

  body_read : (at form from p next : ℕ) (r : Rule) → PairIs at forms form from p → (form ≡ 0 → ⊥) → body_at number p nonterminals form from ≡ Ok (r, next) → RuleIs at r next
  unfolding body_at step_at
  body_read at form from p next r i some h =
      let f = after_read (pair_at number p names Refusal.Name nonterminals) _ h in
      go f.0 f.1 f.2 (pair_read p names Refusal.Name f.0 f.1 f.2 f.3) (eqb form 1) refl f.4
    where
      mark : (name to q : ℕ) → PairIs p names name to q → form ≡ 1 → ◌≡◌ {A = Read Rule} (Ok (Rule.Next from (Token.Mark (record { 0 = name })) to, q)) (Ok (r, next)) → RuleIs at r next
      mark name to q j is s =
          let (e, e') = same_read s in
          rw (← e', ← e) (stand (rw is at i) (stand j none), (i.two_below, j.one_below, j.two_below, tt))

      step : (name to q close last u : ℕ) → PairIs p names name to q → PairIs q names close last u → form ≡ 2
          → ◌≡◌ {A = Read Rule} (Ok (Rule.Step from (record { 0 = name }) to (record { 0 = close }) last, u)) (Ok (r, next)) → RuleIs at r next
      step name to q close last u j k is s =
          let (e, e') = same_read s in
          rw (← e', ← e) (stand (rw is at i) (stand j (stand k none)), (i.two_below, j.one_below, j.two_below, k.one_below, k.two_below))

      go : (name to q : ℕ) → PairIs p names name to q → (t : Bool) → eqb form 1 ≡ t
          → cond t (Ok (Rule.Next from (Token.Mark (record { 0 = name })) to, q)) (step_at number q nonterminals from name to) ≡ Ok (r, next) → RuleIs at r next
      go name to q j true t s = mark name to q j (eqb-true form 1 t) s
      go name to q j false t s =
          let f = after_read (pair_at number q names Refusal.Name nonterminals) _ s in
          let other = eqb-false form 1 t in
          step name to q f.0 f.1 f.2 j (pair_read q names Refusal.Name f.0 f.1 f.2 f.3) (omega arith) f.4

  rule_read : (at : ℕ) (r : Rule) (next : ℕ) → rule_at number at nonterminals ≡ Ok (r, next) → RuleIs at r next
  unfolding rule_at
  rule_read at r next h =
      let f = after_read (pair_at number at forms Refusal.Form nonterminals) _ h in
      go f.0 f.1 f.2 (pair_read at forms Refusal.Form f.0 f.1 f.2 f.3) (eqb f.0 0) refl f.4
    where
      go : (form from p : ℕ) → PairIs at forms form from p → (t : Bool) → eqb form 0 ≡ t
          → cond t (Ok (Rule.Empty from, p)) (body_at number p nonterminals form from) ≡ Ok (r, next) → RuleIs at r next
      go form from p i true t s =
          let (e, e') = same_read s in
          rw (← e', ← e) (stand (rw (eqb-true form 0 t) at i) none, i.two_below)
      go form from p i false t s = body_read at form from p next r i (eqb-false form 0 t) s

  rule_reads : (at : ℕ) (r : Rule) (next : ℕ) → RuleIs at r next → rule_at number at nonterminals ≡ Ok (r, next)
  unfolding rule_at body_at step_at
  rule_reads at (Rule.Empty l) next (n, h) =
      let f = split forms n (lit< tt) h in
      rw (pair_reads at forms Refusal.Form 0 l f.0 f.1, none_left f.2)
  rule_reads at (Rule.Next l (Token.Open a) l1) next (n, h) = absurd h.3
  rule_reads at (Rule.Next l (Token.Close b) l1) next (n, h) = absurd h.3
  rule_reads at (Rule.Next l (Token.Mark c) l1) next (n, h) =
      let f = split forms n (lit< tt) h.0 in
      let s = split names f.2 h.1 h.2 in
      rw (pair_reads at forms Refusal.Form 1 l f.0 f.1, pair_reads f.0 names Refusal.Name c.0 l1 s.0 s.1, none_left s.2)
  rule_reads at (Rule.Step l a l1 b l2) next (n, h) =
      let f = split forms n (lit< tt) h.0 in
      let s = split names f.2 h.1 h.2 in
      let u = split names s.2 h.3 h.4 in
      rw (pair_reads at forms Refusal.Form 2 l f.0 f.1, pair_reads f.0 names Refusal.Name a.0 l1 s.0 s.1, pair_reads s.0 names Refusal.Name b.0 l2 u.0 u.1, none_left u.2)

  pub rule_is : (at : ℕ) (r : Rule) (next : ℕ) → (rule_at number at nonterminals ≡ Ok (r, next)) ↔ (NumbersAt number at (rule_numbers r) next × Fits nonterminals r)
  rule_is at r next = (rule_read at r next, rule_reads at r next)
