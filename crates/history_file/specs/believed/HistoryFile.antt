-- What a history file says, or the first fault met in file order (document 01, "The two files" and refusals 1, 2 and 9 to 14).
-- Clauses: 1.1, 1.2, 1.4, 5.4, 5.5, 6.5 (docs/SPECIFICATION.md)
use Rattle.std.specs.Prelude.{ℕ, zero, suc, ◌+◌, ◌-◌, ◌/◌, ◌%◌, cond, ◌&&◌, ◌||◌, List, [], ◌∷◌, ◌++◌, map, eqb, ltb, leb, Ok, Err}
use Rattle.refusal.specs.declared.Refusal.{Refusal}
use Rattle.refusal.specs.believed.Refusal.{number}
use Rattle.numbers.specs.believed.Number.{Read, Source, bytes}
use Rattle.numbers.specs.believed.Field.{field_at}
use Rattle.vpg.specs.declared.Token.{Token}

-- "each token as 4 × name + kind, kind 0 mark, 1 open, 2 close"
abbrev pub kind : ℕ → ℕ
kind t = t % 4

-- the token of a kind and a name
unfoldable pub token_with : ℕ → ℕ → Token
token_with k name =
    cond (eqb k 0) (Token.Mark (record { 0 = name }))
    (cond (eqb k 1) (Token.Open (record { 0 = name })) (Token.Close (record { 0 = name })))

-- the token of a number, and of each number of a list
unfoldable pub token_of : ℕ → Token
token_of t = token_with (kind t) (t / 4)

abbrev pub tokens_of : List ℕ → List Token
tokens_of ts = map token_of ts

-- a token number, with so many steps open before it. 11: "names above 65,535" (document 02, 2.4), or a token number "that leaves 3 when
-- divided by 4"; 12: "a close with no step open"; 14: "an open while 128 steps are open"
unfoldable pub token_judged : ℕ → ℕ → ℕ → Read ℕ
token_judged t next depth =
    cond (ltb 65535 (t / 4) || eqb (kind t) 3) (Err Refusal.TokenNumber)
    (cond (eqb (kind t) 2 && eqb depth 0) (Err Refusal.CloseWithoutOpen)
    (cond (eqb (kind t) 1 && leb 128 depth) (Err Refusal.TooDeep)
    (Ok (t, next))))

-- 1 and 2, for the number itself, go before 11, 12 and 14
abbrev pub judged : Read ℕ → ℕ → Read ℕ
judged (Ok (t, next)) depth = token_judged t next depth
judged (Err e) depth = Err e

-- the token at a place
unfoldable pub token_at : (ℕ → Read ℕ) → ℕ → ℕ → Read ℕ
token_at number at depth = judged (number at) depth

-- how many steps are open after a token
unfoldable pub depth_after : ℕ → ℕ → ℕ
depth_after t depth = cond (eqb (kind t) 1) (depth + 1) (cond (eqb (kind t) 2) (depth - 1) depth)

-- the token numbers, or the number of the refusal
pub data HistoryFile : Type 0 where
  accepted : List ℕ → HistoryFile
  refused : ℕ → HistoryFile

-- a refusal stands, and what follows it is not read
abbrev pub after : Read ℕ → (ℕ → ℕ → HistoryFile) → HistoryFile
after (Ok (n, next)) rest = rest n next
after (Err e) rest = refused (number e)

-- the tokens still due, from a place to the end, after those read so far. 13: "a step still open after the last token";
-- 9: "bytes follow the last .. token"; "13 before 9"
unfoldable pub tokens_from : Source → ℕ → ℕ → ℕ → List ℕ → HistoryFile
tokens_from x zero at depth ts = cond (ltb 0 depth) (refused 13) (cond (x.more at) (refused 9) (accepted ts))
tokens_from x (suc due) at depth ts =
    after (token_at x.number at depth) λ t next. tokens_from x due next (depth_after t depth) (ts ++ (t ∷ []))

-- "token count (0 to 1,024), then each token"; 10: "token count above 1,024"
unfoldable pub history_from : Source → HistoryFile
history_from x = after (field_at x.number 0 1025 Refusal.TokenCount) λ due at. tokens_from x due at 0 []

-- of the bytes of a file
abbrev pub history_of : List ℕ → HistoryFile
history_of s = history_from (bytes s)
