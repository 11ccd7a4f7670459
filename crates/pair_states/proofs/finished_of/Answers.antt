-- `finished_of`: at the end the definition stays folded.
use borrow.Author.Rules.{rules}
use Rattle.pair_states.proofs.finished_of.Goals as goal

pub returns : goal.returns
returns c = search rules
