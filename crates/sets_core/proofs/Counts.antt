-- The choices counted so far.
use Prim.Native.Nat.{ℕ, zero, suc, ◌+◌, ◌≤◌}
use native.Mathlib.Numerals.{add-one}
use native.Mathlib.Omega.{arith}
use mathlib.Core.Path.{◌≡◌, refl, ◌∙◌}
use mathlib.Core.Bool.{Bool, true, false}
use mathlib.Core.List.{List}
use lib.ListN.{length}
use Rattle.vpg.specs.declared.Token.{Token}
use Rattle.vpg.specs.believed.Grammar.{Grammar}
use Rattle.sets_theory.specs.ChoiceTest.{choice}
use Rattle.sets_theory.specs.believed.Sets.{one, count, choice_count}

count_most : (n : ℕ) (f : ℕ → Bool) → count n f ≤ n
unfolding count
count_most zero f = omega arith
count_most (suc n) f = go (f n) (count_most n f)
  where
    go : (b : Bool) → count n f ≤ n → one b + count n f ≤ suc n
    go true h = omega arith
    go false h = omega arith

-- so many of the first p positions are choices
pub record Choices (g : Grammar) (w : List Token) (p total : ℕ) : Type 0 where
  pub is : total ≡ count p (choice g w)

pub choices-none : {g : Grammar} {w : List Token} → Choices g w 0 0
unfolding count
choices-none = record { is = refl }

module _ {g : Grammar} {w : List Token} {p total : ℕ} (d : Choices g w p total) where
  pub choices_most : total ≤ p
  choices_most = rw d.is (count_most p (choice g w))

  pub choices-next : {total' : ℕ} {b : Bool} → choice g w p ≡ b → total' ≡ one b + total → Choices g w (p + 1) total'
  unfolding count
  choices-next e q = record { is = q ∙ rw (d.is, ← e, add-one) }

  pub choices-all : {n : ℕ} → length w ≡ n → p ≡ n + 1 → total ≡ choice_count g w
  unfolding choice_count
  choices-all e q = d.is ∙ rw (q, e, add-one)
