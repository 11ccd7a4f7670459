-- The lines of a listing as lists of bytes (document 01, "The listing program").
-- Clauses: 9.2 to 9.6 (docs/SPECIFICATION.md)
use Rattle.std.specs.Prelude.{ℕ, zero, suc, ◌+◌, ◌/◌, ◌%◌, cond, List, [], ◌∷◌, ◌++◌, nat_lt}

-- the decimal digits of a number that has at most k
abbrev pub decimal_by : ℕ → ℕ → List ℕ
decimal_by zero n = []
decimal_by (suc k) n = cond (nat_lt n 10) [] (decimal_by k (n / 10)) ++ ((48 + n % 10) ∷ [])

-- the decimal digits of a number of 64 bits, as ASCII, with no zero in front
unfoldable pub decimal : ℕ → List ℕ
decimal n = decimal_by 20 n

abbrev pub blank : ℕ
blank = 32

abbrev pub colon : ℕ
colon = 58

abbrev pub line_end : List ℕ
line_end = 10 ∷ []

-- "tokens ", "choices ", "none", "end ", "more ", "refused grammar " and "refused history " in ASCII
abbrev pub tokens_word : List ℕ
tokens_word = 116 ∷ 111 ∷ 107 ∷ 101 ∷ 110 ∷ 115 ∷ blank ∷ []

abbrev pub choices_word : List ℕ
choices_word = 99 ∷ 104 ∷ 111 ∷ 105 ∷ 99 ∷ 101 ∷ 115 ∷ blank ∷ []

abbrev pub none_word : List ℕ
none_word = 110 ∷ 111 ∷ 110 ∷ 101 ∷ []

abbrev pub end_word : List ℕ
end_word = 101 ∷ 110 ∷ 100 ∷ blank ∷ []

abbrev pub more_word : List ℕ
more_word = 109 ∷ 111 ∷ 114 ∷ 101 ∷ blank ∷ []

abbrev pub refused_word : List ℕ
refused_word = 114 ∷ 101 ∷ 102 ∷ 117 ∷ 115 ∷ 101 ∷ 100 ∷ blank ∷ []

abbrev pub grammar_word : List ℕ
grammar_word = 103 ∷ 114 ∷ 97 ∷ 109 ∷ 109 ∷ 97 ∷ 114 ∷ blank ∷ []

abbrev pub history_word : List ℕ
history_word = 104 ∷ 105 ∷ 115 ∷ 116 ∷ 111 ∷ 114 ∷ 121 ∷ blank ∷ []

abbrev pub number_line : List ℕ → ℕ → List ℕ
number_line word n = word ++ decimal n ++ line_end

abbrev pub tokens_line : ℕ → List ℕ
tokens_line n = number_line tokens_word n

abbrev pub choices_line : ℕ → List ℕ
choices_line k = number_line choices_word k

abbrev pub none_line : List ℕ
none_line = none_word ++ line_end

abbrev pub end_line : ℕ → List ℕ
end_line k = number_line end_word k

abbrev pub more_line : ℕ → List ℕ
more_line k = number_line more_word k

abbrev pub refused_grammar_line : ℕ → List ℕ
refused_grammar_line k = number_line (refused_word ++ grammar_word) k

abbrev pub refused_history_line : ℕ → List ℕ
refused_history_line k = number_line (refused_word ++ history_word) k

-- each rule number with a blank before it
unfoldable pub reading_text : List ℕ → List ℕ
reading_text [] = []
reading_text (r ∷ e) = (blank ∷ decimal r) ++ reading_text e

-- the reading e, which stands at place k of the order
abbrev pub reading_line : ℕ → List ℕ → List ℕ
reading_line k e = decimal k ++ (colon ∷ []) ++ reading_text e ++ line_end
