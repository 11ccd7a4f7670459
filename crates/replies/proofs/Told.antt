-- An answer with the number of its refusal is told as the answer itself.
use mathlib.Core.Path.{◌≡◌, refl}
use Rattle.std.specs.Prelude.{ℕ, Option, Some, None, Result, Ok, Err}
use Rattle.refusal.specs.declared.Refusal.{Refusal}
use Rattle.refusal.specs.Numbered.{numbered}
use Rattle.files.specs.declared.GrammarCounts.{GrammarCounts}
use Rattle.files.specs.believed.Checks.{grammar_said, history_said}
use Rattle.service.specs.believed.Given.{said}
use Rattle.reading_counts.specs.believed.Numbered.{readings_said}
use Rattle.step_bytes.specs.believed.StepBytes.{number_said}
use Rattle.replies.specs.Told.{told, grammar_told, history_told, readings_told, number_told}

pub told_said : {A : Type 0} (r : Result A Refusal) → told (numbered r) ≡ said r
told_said (Ok x) = refl
told_said (Err e) = refl

pub grammar_told_said : (r : Result GrammarCounts Refusal) → grammar_told (numbered r) ≡ grammar_said r
grammar_told_said (Ok c) = refl
grammar_told_said (Err e) = refl

pub history_told_said : (r : Result ℕ Refusal) → history_told (numbered r) ≡ history_said r
history_told_said (Ok tokens) = refl
history_told_said (Err e) = refl

pub readings_told_said : (r : Result (Option ℕ) Refusal) → readings_told (numbered r) ≡ readings_said r
readings_told_said (Ok (Some n)) = refl
readings_told_said (Ok None) = refl
readings_told_said (Err e) = refl

pub number_told_said : (r : Result Unit Refusal) → number_told (numbered r) ≡ number_said r
number_told_said (Ok x) = refl
number_told_said (Err e) = refl
