-- The number of each refusal (document 01, "Who can be turned down, and by which number"; document 02 for 2, 7, 11, 17 and 18).
-- Clauses: 6.2 (docs/SPECIFICATION.md)
use Rattle.std.specs.Prelude.{ℕ}
use Rattle.refusal.specs.declared.Refusal.{Refusal}
use Rattle.refusal.specs.declared.Refusal.TheVariants.{Truncated, NotShortest, StageCount, RuleCount, Form, Stage, Name, RepeatedRule, BytesFollow, TokenCount, TokenNumber, CloseWithoutOpen, StepOpen, TooDeep, ShortBuffer, NotAReading, NoStep, NoSuchReading}

abbrev pub number : Refusal → ℕ
-- "the bytes end inside a number or before one that is due"
number Truncated = 1
-- "a last byte of 0 after another byte, or a third byte with its top bit set"
number NotShortest = 2
-- "stage count not 1 to 32"
number StageCount = 3
-- "rule count not 1 to 128"
number RuleCount = 4
-- "form above 2"
number Form = 5
-- "a stage number not below the stage count"
number Stage = 6
-- "names above 65,535"
number Name = 7
-- "a rule equal in form and all fields to an earlier rule"
number RepeatedRule = 8
-- "bytes follow the last rule or token"
number BytesFollow = 9
-- "token count above 1,024"
number TokenCount = 10
-- a token number with "names above 65,535", or "one that leaves 3 when divided by 4"
number TokenNumber = 11
-- "a close with no step open"
number CloseWithoutOpen = 12
-- "a step still open after the last token"
number StepOpen = 13
-- "an open while 128 steps are open"
number TooDeep = 14
-- "a lent buffer shorter than its service writes or reads"
number ShortBuffer = 15
-- "the first n + 1 bytes handed to 'next reading' are no reading of this history"
number NotAReading = 16
-- "17 when the position is not that of an open"
number NoStep = 17
-- "18 when k is 0 or above the count, or a position is above n"
number NoSuchReading = 18
