-- What a history file said while names went to 63 (document 01, "The two files"): the definitions as they stood then.
-- Law: history_widened, history_keeps_its_meaning (earlier_files/proofs/WideHistories.antt)
use Rattle.std.specs.Prelude.{ℕ, zero, suc, cond, ◌&&◌, ◌||◌, List, [], ◌∷◌, ◌++◌, eqb, ltb, leb, Ok, Err}
use Rattle.refusal.specs.declared.Refusal.{Refusal}
use Rattle.numbers.specs.believed.Number.{Read, Source}
use Rattle.numbers.specs.believed.Field.{field_at}
use Rattle.history_file.specs.believed.HistoryFile.{HistoryFile, accepted, refused, kind, depth_after, after}

-- 11: "a token number above 255, or one that leaves 3 when divided by 4"; 12: "a close with no step open"; 14: "an open while 128 steps are open"
unfoldable pub token_narrow : ℕ → ℕ → ℕ → Read ℕ
token_narrow t next depth =
    cond (leb 256 t || eqb (kind t) 3) (Err Refusal.TokenNumber)
    (cond (eqb (kind t) 2 && eqb depth 0) (Err Refusal.CloseWithoutOpen)
    (cond (eqb (kind t) 1 && leb 128 depth) (Err Refusal.TooDeep)
    (Ok (t, next))))

-- 1 and 2, for the number itself, go before 11, 12 and 14
abbrev pub judged_narrow : Read ℕ → ℕ → Read ℕ
judged_narrow (Ok (t, next)) depth = token_narrow t next depth
judged_narrow (Err e) depth = Err e

-- the tokens still due. 13: "a step still open after the last token"; 9: "bytes follow the last .. token"; "13 before 9"
unfoldable pub tokens_narrow : Source → ℕ → ℕ → ℕ → List ℕ → HistoryFile
tokens_narrow x zero at depth ts = cond (ltb 0 depth) (refused 13) (cond (x.more at) (refused 9) (accepted ts))
tokens_narrow x (suc due) at depth ts =
    after (judged_narrow (x.number at) depth) λ t next. tokens_narrow x due next (depth_after t depth) (ts ++ (t ∷ []))

-- 10: "token count above 1,024"
unfoldable pub history_narrow : Source → HistoryFile
history_narrow x = after (field_at x.number 0 1025 Refusal.TokenCount) λ due at. tokens_narrow x due at 0 []
