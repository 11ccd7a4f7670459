-- The version of the library as one number. Its one source is the file VERSION, to which `tools/figures` holds this page.
-- Clauses: 7.11 (docs/SPECIFICATION.md)
use Rattle.std.specs.Prelude.{ℕ, ◌+◌, ◌*◌}

-- version a.b.c, with b and c below 100
abbrev pub version_number : ℕ → ℕ → ℕ → ℕ
version_number a b c = a * 10000 + b * 100 + c

-- that of this library
abbrev pub version : ℕ
version = version_number 0 3 0
