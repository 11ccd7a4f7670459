-- Keys of rules, by which most rules are seen to be new at one look.
-- Law: unmarked (tables/proofs/Keys.antt)
use Rattle.std.specs.Prelude.{ℕ, ◌+◌, ◌*◌, ◌/◌, ◌%◌, ◌<◌, ◌≡◌, Bool, true, List, length, get_or, set}
use Rattle.bits.specs.Bit.{bit, add_bit}
use Rattle.vpg.specs.declared.Rule.{Rule}
use Rattle.tables.specs.declared.Six.{Six}
use Rattle.tables.specs.declared.Table.{Table}
use Rattle.tables.specs.Table.{six_of, rule_in}

-- a number below 2,048 that equal rules share
abbrev pub key_in : Six → ℕ
key_in v = (525 * v.0 + 1326 * v.1 + 1409 * v.2 + 513 * v.3 + 287 * v.4 + 1335 * v.5) % 2048

abbrev pub key_of : Rule → ℕ
key_of r = key_in (six_of r)

-- is a key marked, in words of 32 digits, a digit to a key
abbrev pub has_key : List ℕ → ℕ → Bool
has_key keys k = bit (get_or keys (k / 32) 0) (k % 32)

-- the words with a key marked
abbrev pub with_key : List ℕ → ℕ → List ℕ
with_key keys k = set keys (k / 32) (add_bit (get_or keys (k / 32) 0) (k % 32))

-- the keys of the first n rules are marked
pub record Keyed (t : Table) (n : ℕ) (keys : List ℕ) : Type 0 where
  pub size : length keys ≡ 64
  pub marked : (q : ℕ) → q < n → has_key keys (key_of (rule_in t q)) ≡ true
