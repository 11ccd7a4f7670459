-- What the services sets and choice count give (document 01, "Services"; document 02, 2.5 and 2.7).
-- Clauses: 7.6, 7.7 (docs/SPECIFICATION.md)
use Rattle.std.specs.Prelude.{ℕ, ◌+◌, ◌*◌, List, ◌++◌, length, drop, Result}
use Rattle.sets_theory.specs.believed.Sets.{choice_count, set_words}
use Rattle.refusal.specs.declared.Refusal.{Refusal}
use Rattle.service.specs.believed.Given.{Given, given, refused, said, untouched}
use Rattle.service.specs.believed.Opened.{files_in, opened, served}

-- document 02, 2.7: "one call of the sets service is to write its words and answer the count of choices". The words: "four 32-bit words for each
-- position, n + 1 positions", "elements of a lent buffer past those named keep their contents"; or the refusal, and every element as it was
abbrev pub sets_due : List ℕ → List ℕ → List ℕ → Given ℕ × List ℕ
sets_due grammar history words =
    served (untouched words) (λ g w. (given (choice_count g w), set_words g w ++ drop (4 * (length w + 1)) words)) (opened 4 (length words) (files_in grammar history))

-- each case of the answer
abbrev pub count_said : Result ℕ Refusal → Given ℕ
count_said r = said r

-- document 02, 2.5, "the count of choices"; no buffer is asked for
abbrev pub count_due : List ℕ → List ℕ → Given ℕ
count_due grammar history = served refused (λ g w. given (choice_count g w)) (files_in grammar history)
