-- `tables::rule_of` meets its contract.
use mathlib.Core.Path.{ap, ◌∙◌}
use Rattle.tables.specs.Table.{rule_from, rule_in}
use Rattle.tables.proofs.rule_of.Goals as goal

pub returns : goal.returns
unfolding rule_in
returns c = c.rule_from.ensures ∙ ap rule_from c.six_in.ensures
