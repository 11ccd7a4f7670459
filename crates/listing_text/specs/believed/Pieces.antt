-- A listing given out in pieces, one behind the other, each as long as there is room for.
-- Clauses: 9.8 (docs/SPECIFICATION.md)
use Rattle.std.specs.Prelude.{ℕ, ◌+◌, Bool, true, ◌&&◌, List, eqb, ltb, length}
use Rattle.lines.specs.believed.Window.{window}
use Rattle.listing_text.specs.declared.Piece.{Piece}

-- a piece that fills its buffer may be followed by another; one for which there is no room at all never is
abbrev pub goes_on : ℕ → ℕ → Bool
goes_on n size = eqb n size && ltb 0 n

-- before the first piece
abbrev pub before_all : Piece
before_all = record { end = 0; length = 0; more = true }

-- the piece that shows the text from the byte number `start` on, w: how many bytes it shows, and the buffer
abbrev pub piece_of : ℕ → ℕ → ℕ × List ℕ → Piece × List ℕ
piece_of start size w = (record { end = start + w.0; length = w.0; more = goes_on w.0 size }, w.1)

-- the piece behind p, in a buffer that holds `out`, and the buffer then
abbrev pub piece_after : Piece → List ℕ → List ℕ → Piece × List ℕ
piece_after p out text = piece_of p.end (length out) (window p.end out text)
