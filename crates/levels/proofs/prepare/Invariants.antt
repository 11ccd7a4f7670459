-- `levels::prepare`: before position i both arrays are right from i on.
use mathlib.Core.Path.{◌≡◌}
use lib.ListN.{length}
use Rattle.level_theory.specs.Pending.{pending_at, close_of}
use Rattle.tables.specs.Ready.{rules_of}
use Rattle.history_file.specs.believed.HistoryFile.{tokens_of}
use Rattle.levels.specs.Levels.{Matched, Leveled}
use Rattle.levels.proofs.prepare.Given as goal

abbrev pub invariant-loop-i : goal.invariant-loop-i
invariant-loop-i l =
    (length l.closes ≡ 1025)
    × (length l.masks ≡ 1025)
    × (l.top ≡ close_of (pending_at (tokens_of l.tokens) l.i) (length (tokens_of l.tokens)))
    × Matched (tokens_of l.tokens) l.closes l.i
    × Leveled l.grammar.head.well (rules_of l.grammar.table.now l.grammar.head) (tokens_of l.tokens) l.masks l.i
