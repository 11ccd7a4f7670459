-- What reading a number at a place of a file finds (document 01, "The two files", and refusals 1 and 2; document 02, 2.4).
-- Clauses: 5.1, 5.2 (docs/SPECIFICATION.md)
use Rattle.std.specs.Prelude.{ℕ, zero, suc, ◌+◌, ◌-◌, ◌*◌, List, Bool, cond, length, get_or, ltb, eqb, Result, Ok, Err}
use Rattle.refusal.specs.declared.Refusal.{Refusal}

-- what is read at a place, and the place behind it; or the refusal
abbrev pub Read : Type 0 → Type 0
Read A = Result (A × ℕ) Refusal

-- "groups of seven bits, lowest group first": a group, and the number that the bytes behind it make. 2: "a last byte of 0 after another
-- byte": only then is that number 0
abbrev pub with_group : ℕ → Read ℕ → Read ℕ
with_group low (Ok (high, next)) = cond (eqb high 0) (Err Refusal.NotShortest) (Ok (low + high * 128, next))
with_group low (Err e) = Err e

-- a number of so many bytes at most: "each byte but the last has its top bit (128) set". 2: the last byte that is allowed has "its top
-- bit set"; 1: "the bytes end inside a number or before one that is due"
unfoldable pub number_within : ℕ → List ℕ → ℕ → Read ℕ
number_within zero s at = Err Refusal.NotShortest
number_within (suc most) s at =
    cond (ltb at (length s))
    (cond (ltb (get_or s at 0) 128)
    (Ok (get_or s at 0, at + 1))
    (with_group (get_or s at 0 - 128) (number_within most s (at + 1))))
    (Err Refusal.Truncated)

-- document 02, 2.4: "Numbers may now take three bytes"
unfoldable pub number_at : List ℕ → ℕ → Read ℕ
number_at s at = number_within 3 s at

-- what a file is read from: the number at a place, and whether anything follows
pub record Source : Type 0 where
  pub number : ℕ → Read ℕ
  pub more : ℕ → Bool

-- a file of bytes
abbrev pub bytes : List ℕ → Source
bytes s = record { number = number_at s; more = λ at. ltb at (length s) }
