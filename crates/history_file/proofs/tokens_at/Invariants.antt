-- `history_file::tokens_at` meets its contract.
use Prim.Native.Nat.{◌≤◌, ◌-◌}
use mathlib.Core.Path.{◌≡◌}
use mathlib.Core.List.{[]}
use lib.ListN.{length, take}
use Rattle.numbers.specs.believed.Number.{bytes}
use Rattle.history_file.specs.believed.HistoryFile.{tokens_from}
use Rattle.history_file.proofs.Padded.{Cleared}
use Rattle.history_file.proofs.tokens_at.Given as goal

abbrev pub invariant-loop-k : goal.invariant-loop-k
invariant-loop-k l =
    (l.depth ≤ 128)
    × (length l.tokens ≡ 1024)
    × Cleared 1024 l.tokens l.k
    × (tokens_from (bytes l.s) (l.due - l.k) l.at l.depth (take l.k l.tokens) ≡ tokens_from (bytes l.s) l.due l.from 0 [])
