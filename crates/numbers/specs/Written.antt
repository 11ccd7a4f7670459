-- How numbers are written as bytes, and what it is that numbers stand in a file (document 01, "The two files"; document 02, 2.4).
-- Law: numbers_read, numbers_reads (numbers/proofs/Written.antt)
use Rattle.std.specs.Prelude.{ℕ, zero, suc, ◌+◌, ◌<◌, ◌/◌, ◌%◌, ◌≡◌, false, cond, List, [], ◌∷◌, ◌++◌, ltb, Ok}
use Rattle.numbers.specs.believed.Number.{Read, Source}

-- all numbers of the list are below the limit
abbrev pub AllBelow : ℕ → List ℕ → Type 0
AllBelow limit [] = Unit {0}
AllBelow limit (n ∷ ns) = (n < limit) × AllBelow limit ns

-- "groups of seven bits, lowest group first. Each byte but the last has its top bit (128) set. Shortest form only": with so many bytes at
-- most behind the first
unfoldable pub shortest_with : ℕ → ℕ → List ℕ
shortest_with zero n = n ∷ []
shortest_with (suc more) n = cond (ltb n 128) (n ∷ []) ((n % 128 + 128) ∷ shortest_with more (n / 128))

-- "three bytes": the bytes of a number below 128 × 128 × 128
unfoldable pub shortest : ℕ → List ℕ
shortest n = shortest_with 2 n

-- the bytes of numbers, one after another
unfoldable pub written : List ℕ → List ℕ
written [] = []
written (n ∷ ns) = shortest n ++ written ns

-- the numbers stand one after another from a place up to the next
pub data NumbersAt (number : ℕ → Read ℕ) : ℕ → List ℕ → ℕ → Type 0 where
  none : {at : ℕ} → NumbersAt number at [] at
  one : {at n p next : ℕ} {ns : List ℕ} → number at ≡ Ok (n, p) → NumbersAt number p ns next → NumbersAt number at (n ∷ ns) next

-- a file holds these numbers and nothing behind them
abbrev pub Holds : Source → List ℕ → Type 0
Holds x ns = (end : ℕ) × NumbersAt x.number 0 ns end × (x.more end ≡ false)
