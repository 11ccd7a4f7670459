-- `fill_row`: by what kind of token is here.
use native.Mathlib.Omega.{arith}
use Rattle.count_rows.proofs.Ends.{only_end}
use Rattle.count_rows.proofs.fill_row.Goals as goal

pub returns-in-End : goal.returns-in-End
returns-in-End c =
    c.ends_row.ensures (only_end c.args.grammar.now.indexed c.args.context (rw c.in-End.is (omega arith)))
