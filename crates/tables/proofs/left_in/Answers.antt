-- `tables::left_in`: the second number of a rule is its nonterminal.
use mathlib.Core.Path.{sym}
use Rattle.tables.proofs.Tables.{left_in}
use Rattle.tables.proofs.left_in.Goals as goal

pub returns : goal.returns
returns c = sym (left_in c.args.table.now c.args.k)
