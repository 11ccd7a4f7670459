-- What a caller learns of a number that was read within its range, and that a number within its range is read.
use Prim.Native.Nat.{ℕ, ◌+◌, ◌<◌, ◌≤◌}
use mathlib.Core.Path.{◌≡◌}
use native.Mathlib.Omega.{arith}
use lib.Dec.{ltb, eqb}
use borrow.Author.Tests.{ltb-true, lt-ltb, eqb-false, ne_eqb}
use Rattle.std.specs.Prelude.{Ok, Err}
use Rattle.refusal.specs.declared.Refusal.{Refusal}
use Rattle.numbers.specs.believed.Number.{Read}
use Rattle.numbers.proofs.Results.{apart, same_read}
use Rattle.numbers.specs.believed.Field.{limited, field_at, positive, count_at}
use Rattle.laws.proofs.Bools.{chose_first, chose_second}

pub record Limited (r : Read ℕ) (limit n p : ℕ) : Type 0 where
  pub read : r ≡ Ok (n, p)
  pub below : n < limit

pub limited_read : (r : Read ℕ) (limit : ℕ) (e : Refusal) (n p : ℕ) → limited r limit e ≡ Ok (n, p) → Limited r limit n p
limited_read (Ok (m, q)) limit e n p h =
    let t = chose_first (ltb m limit) _ _ apart h in
    let (z, place) = same_read t.1 in
    record { read = rw (z, place); below = rw (← z) (ltb-true m limit t.0) }
limited_read (Err x) limit e n p h = absurd (apart h)

pub field_read : (number : ℕ → Read ℕ) (at limit : ℕ) (e : Refusal) (n p : ℕ) → field_at number at limit e ≡ Ok (n, p) → Limited (number at) limit n p
unfolding field_at
field_read number at limit e n p h = limited_read (number at) limit e n p h

pub field_reads : (number : ℕ → Read ℕ) (at limit : ℕ) (e : Refusal) (n p : ℕ) → number at ≡ Ok (n, p) → n < limit → field_at number at limit e ≡ Ok (n, p)
unfolding field_at
field_reads number at limit e n p r h = rw (r, lt-ltb n limit h)

pub record Counted (r : Read ℕ) (most n p : ℕ) : Type 0 where
  pub read : r ≡ Ok (n, p)
  pub least : 0 < n
  pub most_of : n ≤ most

positive-field : (r : Read ℕ) (e : Refusal) (n p : ℕ) → positive r e ≡ Ok (n, p) → (r ≡ Ok (n, p)) × (0 < n)
positive-field (Ok (m, q)) e n p h =
    let t = chose_second (eqb m 0) _ _ apart h in
    let (z, place) = same_read t.1 in
    let some = eqb-false m 0 t.0 in
    (t.1, rw (← z) (omega arith))
positive-field (Err x) e n p h = absurd (apart h)

pub count_read : (number : ℕ → Read ℕ) (at most : ℕ) (e : Refusal) (n p : ℕ) → count_at number at most e ≡ Ok (n, p) → Counted (number at) most n p
unfolding count_at
count_read number at most e n p h =
    let f = positive-field (field_at number at (most + 1) e) e n p h in
    let l = field_read number at (most + 1) e n p f.0 in
    record { read = l.read; least = f.1; most_of = omega (arith, l.below) }

pub count_most : (number : ℕ → Read ℕ) (at most : ℕ) (e : Refusal) (n p : ℕ) → count_at number at most e ≡ Ok (n, p) → n ≤ most
count_most number at most e n p h = (count_read number at most e n p h).most_of

pub count_reads : (number : ℕ → Read ℕ) (at most : ℕ) (e : Refusal) (n p : ℕ) → number at ≡ Ok (n, p) → 0 < n → n ≤ most → count_at number at most e ≡ Ok (n, p)
unfolding count_at
count_reads number at most e n p r l h = rw (field_reads number at (most + 1) e n p r (omega arith), ne_eqb n 0 (omega arith))
