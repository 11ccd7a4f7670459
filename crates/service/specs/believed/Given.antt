-- What a service answers beside what it writes: a value of its own, or the number of the refusal.
-- Clauses: 6.1, 7.1 (docs/SPECIFICATION.md)
use Rattle.std.specs.Prelude.{ℕ, Result, Ok, Err}
use Rattle.refusal.specs.declared.Refusal.{Refusal}
use Rattle.refusal.specs.believed.Refusal.{number}

pub data Given (A : Type 0) : Type 0 where
  given : A → Given A
  refused : ℕ → Given A

-- a service that only writes has nothing more to say
abbrev pub written : Given Unit
written = given tt

-- each case of an answer
abbrev pub said : {A : Type 0} → Result A Refusal → Given A
said (Ok x) = given x
said (Err e) = refused (number e)

-- of a service that only writes
abbrev pub outcome_said : Result Unit Refusal → Given Unit
outcome_said r = said r

-- "the answer is the number alone; lent memory keeps every element": what a service that writes gives where it is refused
abbrev pub untouched : {A B : Type 0} → B → ℕ → Given A × B
untouched buffer k = (refused k, buffer)
