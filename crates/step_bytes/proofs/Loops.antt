-- One turn and the end of the search for a step's end; and the bytes of the tokens.
use Prim.Native.Nat.{ℕ, suc, ◌+◌, ◌-◌, ◌<◌, ◌≤◌, ◌*◌}
use mathlib.Core.Path.{◌≡◌, refl, sym, ap, ◌∙◌}
use mathlib.Core.Logic.{◌≢◌}
use mathlib.Core.Bool.{Bool, true, false, cond}
use mathlib.Core.List.{List, [], ◌∷◌}
use mathlib.Core.Option.{Option, none, some}
use native.Mathlib.Omega.{arith}
use native.Mathlib.Numerals.{add-one}
use lib.Dec.{eqb}
use lib.ListN.{length, get_or, drop, length-append, drop_of_length-le}
use lib.Seq.{drop-cons}
use borrow.Author.Tests.{eq-eqb, ne_eqb}
use Rattle.std.specs.List.{sum_by}
use Rattle.std.proofs.lemmas.List.Sums.{sum_by-cons}
use Rattle.numbers.specs.Written.{shortest, written}
use Rattle.numbers.proofs.Written.{shortest_most}
use Rattle.history_file.specs.believed.HistoryFile.{kind, depth_after}
use Rattle.step_bytes.specs.believed.StepBytes.{later, step_length}

-- i more, where there is a number
abbrev pub behind : ℕ → Option ℕ → Option ℕ
behind i none = none
behind i (some k) = some (i + k)

behind-zero : (x : Option ℕ) → behind 0 x ≡ x
behind-zero none = refl
behind-zero (some k) = let e : 0 + k ≡ k = omega arith in ap some e

behind-later : (i : ℕ) (x : Option ℕ) → behind i (later x) ≡ behind (i + 1) x
behind-later i none = refl
behind-later i (some k) = let e : i + suc k ≡ i + 1 + k = omega arith in ap some e

pub depth_most : (t depth : ℕ) → depth_after t depth ≤ depth + 1
unfolding depth_after
depth_most t depth = go (eqb (kind t) 1) (eqb (kind t) 2)
  where
    go : (a b : Bool) → cond a (depth + 1) (cond b (depth - 1) depth) ≤ depth + 1
    go true b = omega arith
    go false true = omega arith
    go false false = omega arith

module _ (ts : List ℕ) where
  -- the first i tokens are looked at, and so many steps are open behind them
  abbrev pub Searched : ℕ → ℕ → Type 0
  Searched depth i = step_length 0 ts ≡ behind i (step_length depth (drop i ts))

  pub search_starts : Searched 0 0
  search_starts = sym (behind-zero (step_length 0 ts))

  module _ (depth i : ℕ) (h : i < length ts) (q : Searched depth i) where
    abbrev after : ℕ
    after = depth_after (get_or ts i 0) depth

    looked : step_length depth (drop i ts) ≡ cond (eqb after 0) (some 1) (later (step_length after (drop (i + 1) ts)))
    unfolding step_length
    looked = rw (drop-cons ts i 0 h, add-one i)

    pub search_goes : after ≢ 0 → Searched after (i + 1)
    search_goes ne =
        let e : step_length depth (drop i ts) ≡ later (step_length after (drop (i + 1) ts)) = rw (ne_eqb after 0 ne) at looked in
        q ∙ (ap (behind i) e ∙ behind-later i (step_length after (drop (i + 1) ts)))

    pub search_finds : after ≡ 0 → step_length 0 ts ≡ some (i + 1)
    search_finds z =
        let e : step_length depth (drop i ts) ≡ some 1 = rw (eq-eqb after 0 z) at looked in
        q ∙ ap (behind i) e

  pub search-ends : (depth i : ℕ) → length ts ≤ i → Searched depth i → step_length 0 ts ≡ none
  unfolding step_length
  search-ends depth i h q = q ∙ rw (drop_of_length-le ts h)

-- the bytes of the tokens, added up
pub size_of_written : (ts : List ℕ) → length (written ts) ≡ sum_by (λ t. length (shortest t)) ts
unfolding written
size_of_written [] = refl
size_of_written (t ∷ ts) =
    length-append (shortest t) (written ts) ∙ (ap (λ (n : ℕ). length (shortest t) + n) (size_of_written ts) ∙ sym (sum_by-cons (λ u. length (shortest u)) t ts))

-- three at most each
pub size_most : (ts : List ℕ) → length (written ts) ≤ 3 * length ts
unfolding written
size_most [] = omega arith
size_most (t ∷ ts) = omega (arith, length-append (shortest t) (written ts), shortest_most t, size_most ts)
