-- `writers::fill_grammar` meets its contract.
use Rattle.writers.proofs.Passing.{grammar_passes}
use Rattle.writers.proofs.fill_grammar.Goals as goal

pub returns : goal.returns
returns c = grammar_passes _ _ c.grammar_check.ensures c.type_inv.file c.in_ok-grammar_check.was c.fill_longer.ensures
