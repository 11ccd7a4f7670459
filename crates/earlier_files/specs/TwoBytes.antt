-- A file of bytes before names went above 63: its numbers have two bytes at most (document 01, "The two files").
-- Law: grammar_keeps_its_meaning (earlier_files/proofs/WideGrammars.antt)
-- Law: history_keeps_its_meaning (earlier_files/proofs/WideHistories.antt)
use Rattle.std.specs.Prelude.{ℕ, List, ltb, length}
use Rattle.numbers.specs.believed.Number.{number_within, Source}

abbrev pub two_bytes : List ℕ → Source
two_bytes s = record { number = number_within 2 s; more = λ at. ltb at (length s) }
