-- `rule_index::ends_of` meets its contract.
use Rattle.rule_index.proofs.Building.{ends_more}
use Rattle.rule_index.proofs.ends_of.Goals as goal

pub loop-nonterminal-preserved : goal.loop-nonterminal-preserved
loop-nonterminal-preserved c =
    (λ L. rw c.with_end-word.ensures (ends_more c.args.table.now c.args.rules c.loop-nonterminal.nonterminal c.loop-nonterminal.word c.loop-nonterminal.invariant L))
