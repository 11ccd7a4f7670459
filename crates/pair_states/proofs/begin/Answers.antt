-- `begin`: the start has itself alone as context, and no other nonterminal has any.
use Rattle.pair_states.proofs.Derivatives.{single_encodes}
use Rattle.pair_states.proofs.begin.Goals as goal

pub returns : goal.returns
returns c = rw c.with.ensures (single_encodes c.args.start c.requires)
