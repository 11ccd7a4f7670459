-- `walk`: before position p the walk stands where `Walking` says.
use Rattle.kth_run.proofs.Walking.{Walking}
use Rattle.kth_run.proofs.walk.Given as goal

abbrev pub invariant-loop-p : goal.invariant-loop-p
invariant-loop-p l =
    Walking l.input.grammar.table.now l.input.grammar.head l.input.tokens.now l.number l.initial.out l.out l.behind l.dues l.sought l.p
