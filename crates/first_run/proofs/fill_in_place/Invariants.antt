-- `first_run::fill_in_place` meets its contract.
use Rattle.first_run.proofs.Sofar.{Going}
use Rattle.first_run.proofs.fill_in_place.Given as goal

abbrev pub invariant-loop-p : goal.invariant-loop-p
invariant-loop-p l = Going l.input.grammar.table.now l.input.grammar.head l.input.tokens.now l.initial.from l.initial.out l.out l.from.behind l.nonterminal l.p
