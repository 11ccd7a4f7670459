-- Where the number of all readings is told exactly, so is that of each rule at each position, and these add up to it.
use Prim.Native.Nat.{ℕ, ◌<◌, ◌≤◌}
use native.Mathlib.Omega.{arith}
use mathlib.Core.Path.{◌≡◌, ◌∙◌, ap}
use mathlib.Core.List.{List}
use borrow.Author.Tests.{lt-ltb, le-ltb}
use lib.ListN.{length}
use Rattle.vpg.specs.declared.Token.{Token}
use Rattle.vpg.specs.believed.Grammar.{Grammar}
use Rattle.vpg.specs.Runs.{entries}
use Rattle.history_file.specs.believed.HistoryFile.{tokens_of}
use Rattle.levels.proofs.Levels.{tokens_length}
use Rattle.files.specs.believed.Files.{accepted}
use Rattle.count_theory.specs.believed.CountAt.{count_at, sum_below}
use Rattle.count_theory.proofs.Places.{counts-add_up, count_most, no_such_rule}
use Rattle.service.specs.believed.Given.{given}
use Rattle.service.specs.believed.Opened.{files_in}
use Rattle.reading_counts.specs.believed.Numbered.{exact, told, readings_due, readings_at_due}

-- what the services tell of a position p where there are m readings
pub record CountsAt (grammar history : List ℕ) (g : Grammar) (m p : ℕ) : Type 0 where
  pub count : ℕ → ℕ
  pub said : (r : ℕ) → readings_at_due grammar history p r ≡ given (exact (count r))
  -- document 02, 2.6: "where the total isn't over, these counts add up to it at every position"
  pub sum : sum_below (length g.rules) count ≡ m
  -- and a number that is no rule's has none
  pub others : (r : ℕ) → length g.rules ≤ r → count r ≡ 0

pub counts-told : (grammar history : List ℕ) (g : Grammar) (ts : List ℕ) (m p : ℕ) → files_in grammar history ≡ accepted g ts → readings_due grammar history ≡ given (exact m) → p ≤ length ts → CountsAt grammar history g m p
counts-told grammar history g ts m p passed total h = record {
  count = count_at l p;
  said = λ r. rw (passed, le-ltb (length w) p inside) (ap given (rw (lt-ltb (count_at l p r) 18446744073709551616 (small r))));
  sum = counts-add_up g w p inside ∙ is.1;
  others = λ r k. no_such_rule g w p inside r k;
}
  where
    w : List Token
    w = tokens_of ts

    l : List (List ℕ)
    l = entries g w

    inside : p ≤ length w
    inside = rw tokens_length h

    is : (length l < 18446744073709551616) × (length l ≡ m)
    is =
        let t : given (told (length l)) ≡ given (exact m) = rw passed at total in
        grind arith

    small : (r : ℕ) → count_at l p r < 18446744073709551616
    small r = grind (arith, count_most l p r)
