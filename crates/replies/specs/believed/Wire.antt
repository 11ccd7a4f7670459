-- The services' answers as C sees them: one number, or a struct with the number and the counts. 0 says that all went well; a refusal keeps
-- document 01's number, 1 to 18; 100 is "none" and 101 "no further" (`code_of` of the crate calls), 102 is "over". A part of a file is a struct
-- with its place, and its number is a function by itself. A writer's answer is a struct with the number and the length.
-- Clauses: 7.9, 10.5, 11.5, 12.5 (docs/SPECIFICATION.md)
use Rattle.std.specs.Prelude.{ℕ, List, length, get_or}
use Rattle.std.proofs.Math.Option.{Option, none, some}
use Rattle.files.specs.believed.Checks.{Verdict, accepted, refused}
use Rattle.service.specs.believed.Given.{Given, given}
use Rattle.service.specs.believed.Given as service
use Rattle.reading_counts.specs.believed.Numbered.{Told, exact, over}
use Rattle.step_bytes.specs.believed.StepBytes.{StepPart, bytes_in, start_in}
use Rattle.replies.specs.declared.GrammarReply.{GrammarReply}
use Rattle.replies.specs.declared.HistoryReply.{HistoryReply}
use Rattle.replies.specs.declared.CountReply.{CountReply}
use Rattle.replies.specs.declared.ReadingsReply.{ReadingsReply}
use Rattle.replies.specs.declared.PartReply.{PartReply}
use Rattle.replies.specs.declared.WriteReply.{WriteReply}

-- 0 with the counts, or the number of the refusal with zeros
abbrev pub grammar_wire : Verdict → GrammarReply
grammar_wire (accepted counts) = record { answer = 0; stages = get_or counts 0 0; rules = get_or counts 1 0 }
grammar_wire (refused k) = record { answer = k; stages = 0; rules = 0 }

abbrev pub history_wire : Verdict → HistoryReply
history_wire (accepted counts) = record { answer = 0; tokens = get_or counts 0 0 }
history_wire (refused k) = record { answer = k; tokens = 0 }

abbrev pub count_wire : Given ℕ → CountReply
count_wire (given n) = record { answer = 0; count = n }
count_wire (service.refused k) = record { answer = k; count = 0 }

-- document 02, 2.7: the count of choices, with the words that the call leaves in its buffer
abbrev pub sets_wire : Given ℕ × List ℕ → CountReply × List ℕ
sets_wire p = (count_wire p.0, p.1)

-- 0 with the count; 102, or the number of the refusal, with 0
abbrev pub readings_wire : Given Told → ReadingsReply
readings_wire (given (exact n)) = record { answer = 0; count = n }
readings_wire (given over) = record { answer = 102; count = 0 }
readings_wire (service.refused k) = record { answer = k; count = 0 }

-- 0, or the number of the refusal
abbrev pub outcome_code : Given Unit → ℕ
outcome_code (given x) = 0
outcome_code (service.refused k) = k

-- an answer as a number, with what the call leaves in its buffer
abbrev pub outcome_wire : Given Unit × List ℕ → ℕ × List ℕ
outcome_wire p = (outcome_code p.0, p.1)

-- an answer as a number, with the answers and the buffer that the calls leave
abbrev pub calls_wire : Given Unit × List ℕ × List ℕ → ℕ × List ℕ × List ℕ
calls_wire p = (outcome_code p.0, p.1, p.2)

-- where a part starts and how many bytes it has; a refused one is empty, at the file's first byte
abbrev pub part_wire : StepPart → PartReply
part_wire p = record { start = start_in p; length = length (bytes_in p) }

-- the number of a refusal, or 0 where there is none
abbrev pub step_code : Option ℕ → ℕ
step_code none = 0
step_code (some k) = k

-- 0 with the length of the file, or the number of the refusal with 0
abbrev pub length_wire : Given ℕ → WriteReply
length_wire (given n) = record { answer = 0; length = n }
length_wire (service.refused k) = record { answer = k; length = 0 }

-- a writer's answer, with what it leaves in its buffer
abbrev pub write_wire : Given ℕ × List ℕ → WriteReply × List ℕ
write_wire p = (length_wire p.0, p.1)
