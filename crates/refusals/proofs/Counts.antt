-- The answers of the services that count, and of reading k, can be read back from number and count; their refusals are 1 to 15 and 18.
use Prim.Native.Nat.{ℕ, ◌+◌}
use native.Mathlib.Omega.{arith}
use mathlib.Core.Path.{◌≡◌, refl}
use mathlib.Core.Logic.{inl, inr}
use mathlib.Core.Bool.{cond, ◌||◌}
use mathlib.Core.List.{List}
use lib.Dec.{eqb, ltb}
use lib.ListN.{length}
use Rattle.vpg.specs.Runs.{entries}
use Rattle.count_theory.specs.believed.CountAt.{count_at}
use Rattle.service.specs.believed.Given.{Given, given, refused, untouched}
use Rattle.reading_counts.specs.believed.Numbered.{Told, exact, over, told, readings_due, readings_at_due, numbered, reading_due}
use Rattle.replies.specs.believed.Wire.{readings_wire, outcome_code}
use Rattle.refusals.specs.Codes.{CountNumbered, outcome_of, told_of}
use Rattle.refusals.proofs.Readers.{chosen}
use Rattle.refusals.proofs.Files.{OfGiven, files_of_lem, opened_of, served_of, outcome_back}

kth_numbers : (l : List (List ℕ)) (k n : ℕ) (buf : List ℕ) → OfGiven CountNumbered (numbered l k n buf).0
kth_numbers l k n buf = chosen (λ (x : Given Unit × List ℕ). OfGiven CountNumbered x.0) (eqb k 0 || ltb (length l) k) (inr refl) tt

told_back : (x : Given Told) → OfGiven CountNumbered x → told_of (readings_wire x).answer (readings_wire x).count ≡ x
told_back (given (exact n)) h = refl
told_back (given over) h = refl
told_back (refused k) h = grind arith

pub record CountsBack (grammar history : List ℕ) (p r k : ℕ) (buf : List ℕ) : Type 0 where
  pub all : told_of (readings_wire (readings_due grammar history)).answer (readings_wire (readings_due grammar history)).count ≡ readings_due grammar history
  pub at : told_of (readings_wire (readings_at_due grammar history p r)).answer (readings_wire (readings_at_due grammar history p r)).count ≡ readings_at_due grammar history p r
  pub reading : outcome_of (outcome_code (reading_due grammar history k buf).0) ≡ (reading_due grammar history k buf).0

pub counts_read_back : (grammar history : List ℕ) (p r k : ℕ) (buf : List ℕ) → CountsBack grammar history p r k buf
counts_read_back grammar history p r k buf =
    let f = files_of_lem CountNumbered (λ e h. inl (omega arith)) grammar history in
    record {
      all = told_back _ (served_of CountNumbered (OfGiven CountNumbered) refused (λ g w. given (told (length (entries g w)))) (λ e h. h) (λ g w. tt) _ f);
      at =
          told_back _
          (served_of CountNumbered (OfGiven CountNumbered) refused (λ g w. cond (ltb (length w) p) (refused 18) (given (told (count_at (entries g w) p r))))
          (λ e h. h) (λ g w. chosen (OfGiven CountNumbered) (ltb (length w) p) (inr refl) tt) _ f);
      reading =
          outcome_back CountNumbered (λ j h q. grind arith) _
          (served_of CountNumbered (λ (x : Given Unit × List ℕ). OfGiven CountNumbered x.0) (untouched buf) (λ g w. numbered (entries g w) k (length w + 1) buf)
          (λ e h. h) (λ g w. kth_numbers (entries g w) k (length w + 1) buf) _
          (opened_of CountNumbered (inl (omega arith)) 1 (length buf) _ f));
    }
