-- `one_pass`: before position p the pass stands where `Passed` says.
use mathlib.Core.Bool.{true, not}
use mathlib.Core.Path.{◌≡◌}
use lib.Dec.{eqb}
use Rattle.sets_core.proofs.Passed.{Passed}
use Rattle.sets_core.proofs.one_pass.Given as goal

abbrev pub invariant-loop-p : goal.invariant-loop-p
invariant-loop-p g l =
    Passed l.input.grammar.table.now l.input.grammar.head l.input.tokens.now (not (eqb g.row.WRITE 0) ≡ true) l.initial.words l.p l.here l.behind l.words l.count
