-- A buffer as a window on a text.
-- Clauses: 9.8 (docs/SPECIFICATION.md)
use Rattle.std.specs.Prelude.{ℕ, List, ◌++◌, length, take, drop}

-- the part of the text behind its first bytes, as many as `skip`, that a buffer of `size` bytes has room for
abbrev pub shown : ℕ → ℕ → List ℕ → List ℕ
shown skip size text = take size (drop skip text)

-- how many bytes are shown, and the buffer: these bytes, and behind them what was there
abbrev pub window : ℕ → List ℕ → List ℕ → ℕ × List ℕ
window skip out text = (length (shown skip (length out) text), shown skip (length out) text ++ drop (length (shown skip (length out) text)) out)
