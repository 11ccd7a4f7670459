-- Pieces of a text written one behind the other until none is to follow.
-- Clauses: 9.8 (docs/SPECIFICATION.md)
use Rattle.std.specs.Prelude.{◌≡◌, true, false, List, [], ◌++◌, ℕ, length}
use Rattle.lines.specs.believed.Window.{shown}
use Rattle.listing_text.specs.declared.Piece.{Piece}
use Rattle.listing_text.specs.believed.Pieces.{before_all, piece_after}

-- Pieces text out₀ p out all: from the buffer out₀ on, p is the last piece so far, out the buffer with it, and all the bytes of all pieces so far
pub data Pieces (text out₀ : List ℕ) : Piece → List ℕ → List ℕ → Type 0 where
  none : Pieces text out₀ before_all out₀ []
  one_more : (p : Piece) (out all : List ℕ) → Pieces text out₀ p out all → p.more ≡ true →
      Pieces text out₀ (piece_after p out text).0 (piece_after p out text).1 (all ++ shown p.end (length out) text)

-- all pieces up to p, behind which none follows
pub record Written (text out₀ : List ℕ) (p : Piece) (out : List ℕ) : Type 0 where
  pub all : List ℕ
  pub pieces : Pieces text out₀ p out all
  pub last : p.more ≡ false
