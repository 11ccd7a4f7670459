-- Text laid byte by byte into a buffer that is emptied whenever it is full.
-- Law: laid-written (listing_text/proofs/Sent.antt)
use Rattle.std.specs.Prelude.{ℕ, ◌+◌, ◌%◌, ◌^◌, Bool, true, false, List, [], ◌∷◌, ◌++◌, length, ◌==◌, nat_lt, slice_set}
use Rattle.lines.specs.declared.Cursor.{Cursor}

-- a cursor, and the buffer
abbrev pub Laid : Type 0
Laid = Cursor × List ℕ

-- before the first byte of the text
abbrev pub at_start : Cursor
at_start = record { before = 0; at = 0 }

-- behind a full buffer of so many bytes
abbrev pub behind_full : ℕ → ℕ → Cursor
behind_full before size = record { before = (before + size) % 2 ^ 64; at = 0 }

-- one byte: the last one that has room, another one, or left out
abbrev pub put_if : Bool → Bool → Cursor → List ℕ → ℕ → Laid
put_if true true p out b = (behind_full p.before (length out), slice_set out p.at b)
put_if true false p out b = (record { before = p.before; at = p.at + 1 }, slice_set out p.at b)
put_if false y p out b = (p, out)

abbrev pub put : Laid → ℕ → Laid
put w b = put_if (nat_lt w.0.at (length w.1)) (w.0.at + 1 == length w.1) w.0 w.1 b

unfoldable pub laid : Laid → List ℕ → Laid
laid w [] = w
laid w (b ∷ text) = laid (put w b) text

-- what goes out with one byte: the whole buffer, where the byte is the last one that has room
abbrev pub piece_if : Bool → Bool → Cursor → List ℕ → ℕ → List ℕ
piece_if true true p out b = slice_set out p.at b
piece_if true false p out b = []
piece_if false y p out b = []

abbrev pub piece : Laid → ℕ → List ℕ
piece w b = piece_if (nat_lt w.0.at (length w.1)) (w.0.at + 1 == length w.1) w.0 w.1 b

-- all that goes out while a text is laid
unfoldable pub gone : Laid → List ℕ → List ℕ
gone w [] = []
gone w (b ∷ text) = piece w b ++ gone (put w b) text
