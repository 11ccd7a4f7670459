-- `class_search`: before rule r those below it are passed.
use Rattle.rule_index.specs.Classes.{class_at}
use Rattle.rule_index.proofs.Walk.{Along}
use Rattle.contexts.specs.Context.{token_here}
use Rattle.kth_run.proofs.Sizes.{Size, Passed}
use Rattle.kth_run.proofs.class_search.Given as goal

abbrev pub invariant-loop-rule : goal.invariant-loop-rule
invariant-loop-rule l =
    Along l.grammar.table.now l.grammar.head.rules (class_at (token_here l.context))
    (λ n. Passed (Size l.grammar.table.now l.grammar.head l.sought l.context l.rows) l.sought.number n l.number) l.rule-iterator
