-- `chain`: the list of a class begins where the index says that its first rule is.
use Rattle.rule_index.proofs.Listed.{chain_is}
use Rattle.rule_index.proofs.grammar.IndexedGrammar.chain.Goals as goal

pub returns : goal.returns
returns c = chain_is c.args.self.now.table.now c.args.self.now.head.rules c.args.class (rw c.first.ensures (c.args.self.now.indexed.firsts c.args.class c.requires))
