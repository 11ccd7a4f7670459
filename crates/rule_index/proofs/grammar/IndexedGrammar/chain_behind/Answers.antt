-- `chain_behind`: behind a rule the list of its class begins where the index says.
use Rattle.tables.specs.Table.{rule_in}
use Rattle.rule_index.specs.Classes.{class_of}
use Rattle.rule_index.proofs.Listed.{chain_is}
use Rattle.rule_index.proofs.grammar.IndexedGrammar.chain_behind.Goals as goal

pub returns : goal.returns
returns c = chain_is c.args.self.now.table.now c.args.self.now.head.rules (class_of (rule_in c.args.self.now.table.now c.args.r)) (rw c.next.ensures (c.args.self.now.indexed.nexts c.args.r c.requires))
