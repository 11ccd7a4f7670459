-- What the opening finds, from what the two readers found.
use Prim.Native.Nat.{ℕ, ◌+◌, ◌*◌, ◌^◌, ◌<◌, ◌≤◌}
use native.Mathlib.Nat.{mul-le-mul}
use native.Mathlib.Omega.{arith}
use mathlib.Core.Path.{◌≡◌, refl}
use mathlib.Core.List.{List}
use borrow.Author.Tests.{lt-ltb, le-ltb}
use lib.ListN.{length, take}
use Rattle.tables.specs.declared.Head.{Head}
use Rattle.tables.specs.declared.Table.{Table}
use Rattle.tables.specs.Ready.{grammar_in}
use Rattle.rule_index.proofs.Kept.{grammar_kept}
use Rattle.grammar_file.specs.believed.GrammarFile.{grammar_of}
use Rattle.grammar_file.specs.believed.GrammarFile as grammar-file
use Rattle.grammar_file.proofs.Answers.{GrammarIs}
use Rattle.history_file.specs.believed.HistoryFile.{history_of}
use Rattle.history_file.specs.believed.HistoryFile as history-file
use Rattle.history_file.proofs.Answers.{HistoryIs}
use Rattle.files.specs.believed.Files.{Files, accepted, refused}
use Rattle.service.specs.believed.Opened.{files_in, opened}

-- the room for a few elements at each position of a history
pub room_small : (each n : ℕ) → each ≤ 255 → n + 1 ≤ 1025 → each * (n + 1) < 2 ^ 64
room_small each n few most = omega (arith, mul-le-mul {n₁ = each} {m₁ = n + 1} {n₂ = 255} {m₂ = 1025} few most)

-- where no room is asked for, the files alone decide
pub nothing_asked : (files : Files) → opened 0 0 files ≡ files
nothing_asked (refused e) = refl
nothing_asked (accepted g ts) = rw (le-ltb 0 (0 * (length ts + 1)) (omega arith))

module _ (each size : ℕ) (grammar history : List ℕ) where
  -- a grammar that is refused decides
  pub grammar_refuses : (e : ℕ) → grammar_of grammar ≡ grammar-file.refused e → opened each size (files_in grammar history) ≡ refused e
  grammar_refuses e h = rw h

  -- with a grammar that has passed, whose rules have been indexed
  module _ (read : Table) (head : Head) (k : GrammarIs grammar read head) (table : Table) (same : table.rules ≡ read.rules) where
    pub history_refuses : (e : ℕ) → history_of history ≡ history-file.refused e → opened each size (files_in grammar history) ≡ refused e
    history_refuses e h = rw (k.is, h)

    pub history_short : (numbers : List ℕ) (n : ℕ) → HistoryIs history numbers n → size < each * (n + 1) → opened each size (files_in grammar history) ≡ refused 15
    history_short numbers n x short = rw (k.is, x.is, x.count, lt-ltb size (each * (n + 1)) short)

    pub both-opened : (numbers : List ℕ) (n : ℕ) → HistoryIs history numbers n → each * (n + 1) ≤ size → opened each size (files_in grammar history) ≡ accepted (grammar_in table head) (take n numbers)
    both-opened numbers n x room = rw (grammar_kept read table same head, k.is, x.is, x.count, le-ltb size (each * (n + 1)) room)
