-- `moves::smallest` meets its contract.
use Prim.Native.Nat.{ℕ, ◌<◌}
use mathlib.Core.Path.{◌≡◌}
use mathlib.Core.Bool.{false}
use Rattle.tables.specs.Table.{rule_in}
use Rattle.rule_index.specs.Classes.{class_at}
use Rattle.rule_index.proofs.Walk.{Along}
use Rattle.contexts.specs.Context.{token_here}
use Rattle.moves.specs.Moves.{rule_fits}
use Rattle.moves.proofs.smallest.Given as goal

abbrev pub invariant-loop-r : goal.invariant-loop-r
invariant-loop-r l =
    Along l.grammar.table.now l.grammar.head.rules (class_at (token_here l.context))
    (λ n. (q : ℕ) → q < n → rule_fits l.grammar.head.well (rule_in l.grammar.table.now q) l.nonterminal l.context ≡ false) l.r-iterator
