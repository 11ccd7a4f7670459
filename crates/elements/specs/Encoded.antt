-- The bytes in which elements are handed to a reader.
-- Law: grammar_encoded, history_encoded (sources/proofs/Encoded.antt)
use Rattle.std.specs.Prelude.{ℕ, List, map, min, take}
use Rattle.numbers.specs.Written.{written}

-- the number, or the largest of three bytes
unfoldable pub writable : ℕ → ℕ
writable n = min n 2097151

-- of as many elements as the longest file has numbers, and one more
unfoldable pub encoded : List ℕ → List ℕ
encoded es = written (map writable (take 1026 es))
