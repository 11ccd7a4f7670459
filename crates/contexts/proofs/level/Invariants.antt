-- `contexts::level` meets its contract.
use Prim.Native.Nat.{ℕ}
use mathlib.Core.Bool.{◌||◌}
use mathlib.Core.Path.{◌≡◌}
use Rattle.bits.specs.Bit.{bit}
use Rattle.rule_index.specs.Classes.{class_at}
use Rattle.rule_index.proofs.Walk.{Along}
use Rattle.contexts.specs.Context.{token_here, base_of, level_in}
use Rattle.contexts.proofs.level.Given as goal

abbrev pub invariant-loop-r : goal.invariant-loop-r
invariant-loop-r l =
    Along l.grammar.table.now l.grammar.head.rules (class_at (token_here l.context))
    (λ n. (L : ℕ) → bit l.set L ≡ (bit (base_of l.grammar.table.now l.context) L || bit (level_in l.grammar.head.well l.grammar.table.now l.context n) L)) l.r-iterator
