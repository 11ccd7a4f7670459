-- A list of the calls first reading and next reading on one buffer: the listing model (document 01, "The plain listing").
-- Clauses: 3.5, 8.1 to 8.6 (docs/SPECIFICATION.md)
use Rattle.std.specs.Prelude.{ℕ, zero, suc, Bool, true, false, ◌&&◌, List, [], ◌∷◌, ◌++◌, eqb, ltb, get_or, take, drop, length}
use Rattle.std.proofs.Math.Option.{Option, none, some}
use Rattle.vpg.specs.declared.Token.{Token}
use Rattle.vpg.specs.believed.Grammar.{Grammar}
use Rattle.vpg.specs.Runs.{entries}

-- "the calls first reading and next reading"
pub data Call : Type 0 where
  first next : Call

-- a reading written, "none", "no further", or the number of a refusal
pub data Answer : Type 0 where
  written no_reading no_further : Answer
  refused : ℕ → Answer

-- `due k`: a file, or the buffer, is refused by k. `over l n`: both files pass, the buffer is long enough, and the entries are l, of n numbers each
pub data Subject : Type 0 where
  due : ℕ → Subject
  over : List (List ℕ) → ℕ → Subject

-- both files pass and the buffer is long enough: g is the grammar, w are the history's tokens
abbrev pub over_entries : Grammar → List Token → Subject
over_entries g w = over (entries g w) (suc (length w))

-- "an entry number k, or no entry"; entries are "numbered 1 to m"
abbrev pub Shown : Type 0
Shown = Option ℕ

-- are two lists of numbers equal
abbrev pub same : List ℕ → List ℕ → Bool
same [] [] = true
same [] (y ∷ f) = false
same (x ∷ e) [] = false
same (x ∷ e) (y ∷ f) = eqb x y && same e f

-- the number of an entry in a list with one more entry before it
abbrev pub later : Option ℕ → Option ℕ
later none = none
later (some i) = some (suc i)

-- 1 where the first entry is the one looked for
abbrev pub found : Bool → Option ℕ → Option ℕ
found true o = some 1
found false o = later o

-- the number of the entry that e equals
abbrev pub find : List ℕ → List (List ℕ) → Shown
find e [] = none
find e (f ∷ l) = found (same e f) (find e l)

-- entry number k, from 1
abbrev pub entry : List (List ℕ) → ℕ → List ℕ
entry l zero = []
entry l (suc i) = get_or l i []

-- "it starts at the entry that the buffer's first n + 1 bytes equal, else with no entry"
abbrev pub start : Subject → List ℕ → Shown
start (due k) buf = none
start (over l n) buf = find (take n buf) l

-- "with m = 0 the answer is none and the state stays. Else k becomes 1 and the answer is a reading written"
abbrev pub model_first : ℕ → Shown → Answer × Shown
model_first zero s = (no_reading, s)
model_first (suc m) s = (written, some 1)

-- is k below m
abbrev pub onward : Bool → ℕ → Answer × Shown
onward true k = (written, some (suc k))
onward false k = (no_further, some k)

-- "with no entry, 16. With k below m, k grows by 1 and the answer is a reading written. With k = m, no further, and k stays"
abbrev pub model_next : ℕ → Shown → Answer × Shown
model_next m none = (refused 16, none)
model_next m (some k) = onward (ltb k m) k

-- one call; where a file or the buffer is refused, "the state is no entry throughout, and every call's answer is the number due"
abbrev pub model : Subject → Call → Shown → Answer × Shown
model (due k) c s = (refused k, none)
model (over l n) first s = model_first (length l) s
model (over l n) next s = model_next (length l) s

-- "with an entry k the buffer's first n + 1 elements are entry k and all others are as first lent; with no entry every element is as first lent"
abbrev pub shows : Subject → List ℕ → Shown → List ℕ
shows x buf none = buf
shows (due k) buf (some i) = buf
shows (over l n) buf (some i) = entry l i ++ drop n buf

-- the answer to each call, with what is left for the next
module _ {S : Type 0} (f : Call → S → Answer × S) where
  abbrev pub trace : List Call → S → List (Answer × S)
  trace [] s = []
  trace (c ∷ cs) s = f c s ∷ trace cs (f c s).1
