-- `writers::fill_history` meets its contract.
use Rattle.writers.proofs.Passing.{history_passes}
use Rattle.writers.proofs.fill_history.Goals as goal

pub returns : goal.returns
returns c = history_passes _ _ c.history_check.ensures c.type_inv.file c.in_ok-history_check.was c.fill.ensures
