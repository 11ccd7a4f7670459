-- `marks`. The invariant: the words are those of a configuration, and the marks written, with those that it gives for the tokens left, are all.
use Rattle.pair_states.specs.Wide.{wide_grammar}
use Rattle.stop_marks_core.proofs.Turns.{Turn}
use Rattle.stop_marks_core.proofs.marks.Given as goal

abbrev pub invariant-loop-i : goal.invariant-loop-i
invariant-loop-i l = Turn (wide_grammar l.grammar.table.now l.grammar.head) l.tokens l.initial.out l.i l.from l.stack l.out
