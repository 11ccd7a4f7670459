-- `after_token`: the words behind the token.
use Rattle.pair_states.proofs.Derivatives.{token_encodes}
use Rattle.pair_states.proofs.after_token.Goals as goal

pub returns : goal.returns
returns c = λ S x. rw c.words_after.ensures (token_encodes _ _ c.args.grammar.now.indexed c.args.token c.args.words.now S x)
