-- `grammar_file::rules_at` meets its contract.
use Prim.Native.Nat.{◌-◌}
use mathlib.Core.Path.{◌≡◌}
use mathlib.Core.List.{[]}
use lib.ListN.{length}
use Rattle.numbers.specs.believed.Number.{bytes}
use Rattle.tables.specs.Table.{rules_in, table_of}
use Rattle.tables.specs.Keys.{Keyed}
use Rattle.grammar_file.specs.believed.GrammarFile.{rules_from}
use Rattle.grammar_file.proofs.rules_at.Given as goal

abbrev pub invariant-loop-k : goal.invariant-loop-k
invariant-loop-k l =
    (length l.table.rules ≡ 128)
    × (l.table ≡ table_of (rules_in l.table l.k))
    × (rules_from (bytes l.s) l.head.nonterminals l.head.start (l.head.rules - l.k) l.at (rules_in l.table l.k) ≡ rules_from (bytes l.s) l.head.nonterminals l.head.start l.head.rules l.from [])
    × Keyed l.table l.k l.keys
