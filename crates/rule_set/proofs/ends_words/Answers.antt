-- `ends_words`: on the way through the nonterminals that have an empty rule, the words have the rules of those that are passed.
use native.Mathlib.Omega.{arith}
use Rattle.rule_set.proofs.Ends.{gathered_none, gathered_more, gathered_all, next_few}
use Rattle.rule_set.proofs.ends_words.Goals as goal

pub loop-due-init : goal.loop-due-init
loop-due-init c =
    rw c.requires.none_yet (gathered_none c.args.grammar.now.indexed c.args.ends c.requires.among c.args.here (omega arith))

pub add-requires : goal.add-requires
add-requires c = (c.loop-due.invariant.size, rw c.end.ensures (next_few c.args.grammar.now.indexed (omega arith) c.loop-due.invariant))

pub loop-due-preserved : goal.loop-due-preserved
loop-due-preserved c =
    rw (c.add.ensures, c.end.ensures)
    (gathered_more c.args.grammar.now.indexed (omega arith) c.loop-due.invariant)

pub returns : goal.returns
returns c = λ p o. gathered_all c.args.grammar.now.indexed p c.requires.among o c.args.here (rw c.loop-due-test.false at c.loop-due.invariant)
