-- What the service stop marks gives (document 01, "Services" and "Readings").
-- Clauses: 7.8 (docs/SPECIFICATION.md)
use Rattle.std.specs.Prelude.{ℕ, ◌+◌, List, ◌++◌, length, drop}
use Rattle.sets_theory.specs.believed.Sets.{stop_marks}
use Rattle.service.specs.believed.Given.{Given, written, untouched}
use Rattle.service.specs.believed.Opened.{files_in, opened, served}

-- "n + 1 bytes", one for each position, all else as it was; or the refusal, and every element as it was
abbrev pub marks_due : List ℕ → List ℕ → List ℕ → Given Unit × List ℕ
marks_due grammar history marks =
    served (untouched marks) (λ g w. (written, stop_marks g w ++ drop (length w + 1) marks)) (opened 1 (length marks) (files_in grammar history))
