-- The services' answers with any number in the place of the refusal.
-- Law: told_said, grammar_told_said, history_told_said, readings_told_said, number_told_said (replies/proofs/Told.antt)
use Rattle.std.specs.Prelude.{ℕ, List, [], ◌∷◌, Option, Some, None, Result, Ok, Err}
use Rattle.std.proofs.Math.Option.{none, some}
use Rattle.std.proofs.Math.Option as number
use Rattle.files.specs.declared.GrammarCounts.{GrammarCounts}
use Rattle.files.specs.believed.Checks.{Verdict, accepted}
use Rattle.files.specs.believed.Checks as check
use Rattle.service.specs.believed.Given.{Given, given, refused}
use Rattle.reading_counts.specs.believed.Numbered.{Told, exact, over}

-- each case of an answer
abbrev pub told : {A : Type 0} → Result A ℕ → Given A
told (Ok x) = given x
told (Err k) = refused k

-- the stage count and the rule count
abbrev pub grammar_told : Result GrammarCounts ℕ → Verdict
grammar_told (Ok c) = accepted (c.stages ∷ c.rules ∷ [])
grammar_told (Err k) = check.refused k

-- the token count
abbrev pub history_told : Result ℕ ℕ → Verdict
history_told (Ok tokens) = accepted (tokens ∷ [])
history_told (Err k) = check.refused k

-- the number of readings
abbrev pub readings_told : Result (Option ℕ) ℕ → Given Told
readings_told (Ok (Some n)) = given (exact n)
readings_told (Ok None) = given over
readings_told (Err k) = refused k

-- the number alone, if there is one
abbrev pub number_told : Result Unit ℕ → number.Option ℕ
number_told (Ok x) = none
number_told (Err k) = some k
