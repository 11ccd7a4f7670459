-- The longer form is the one with the start, of numbers and of bytes.
use Prim.Native.Nat.{ℕ, ◌<◌}
use mathlib.Core.Path.{◌≡◌, refl, sym, ap, ◌∙◌}
use mathlib.Core.Logic.{inl, inr}
use mathlib.Core.List.{List, [], ◌∷◌, ◌++◌}
use native.Mathlib.Omega.{arith}
use borrow.Author.Tests.{eq-eqb, ne_eqb}
use lib.ListN.{length, get_or}
use Rattle.numbers.specs.Written.{written}
use Rattle.numbers.proofs.Written.{one_byte}
use Rattle.vpg.specs.believed.Grammar.{Grammar}
use Rattle.grammar_file.specs.Wellformed.{Wellformed, rules_numbers, numbers_of, numbers_without_start}
use Rattle.grammar_file.proofs.BothWays.{FileOf}
use Rattle.writers.specs.Longer.{longer_form}

-- ── the form with the start ──

written_one : (n : ℕ) (ns : List ℕ) → n < 128 → written (n ∷ ns) ≡ n ∷ written ns
unfolding written
written_one n ns h = ap (λ l. l ++ written ns) (one_byte n h)

module _ (g : Grammar) (w : Wellformed g) where
  abbrev rest : List ℕ
  rest = length g.rules ∷ rules_numbers g.rules

  -- a stage count is not the leading 0
  inserts : (ns : List ℕ) → longer_form (g.nonterminals ∷ ns) ≡ 0 ∷ g.nonterminals ∷ 0 ∷ ns
  inserts ns = rw (ne_eqb g.nonterminals 0 (omega (arith, w.nonterminals_least)))

  pub longer_numbers : g.start ≡ 0 → longer_form (numbers_without_start g) ≡ numbers_of g
  longer_numbers z = inserts rest ∙ ap (λ s. 0 ∷ g.nonterminals ∷ s ∷ rest) (sym z)

  pub written_long : written (numbers_of g) ≡ 0 ∷ g.nonterminals ∷ g.start ∷ written rest
  written_long =
      rw (
        written_one 0 (g.nonterminals ∷ g.start ∷ rest) (omega arith),
        written_one g.nonterminals (g.start ∷ rest) (omega (arith, w.nonterminals_most)),
        written_one g.start rest (omega (arith, w.start_below, w.nonterminals_most)),
      )

  pub written_short : written (numbers_without_start g) ≡ g.nonterminals ∷ written rest
  written_short = written_one g.nonterminals rest (omega (arith, w.nonterminals_most))

  pub longer_bytes : (s : List ℕ) → FileOf s g → longer_form s ≡ written (numbers_of g)
  longer_bytes s (inl e) = rw (e, written_long)
  longer_bytes s (inr (e, z)) = ap longer_form (e ∙ written_short) ∙ (inserts (written rest) ∙ (ap (λ k. 0 ∷ g.nonterminals ∷ k ∷ written rest) (sym z) ∙ sym written_long))

-- ── by the first byte ──

pub longer_stays : (s : List ℕ) → get_or s 0 0 ≡ 0 → longer_form s ≡ s
longer_stays [] e = refl
longer_stays (n ∷ ns) e = rw (eq-eqb n 0 e)
