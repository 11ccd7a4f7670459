use Rattle.lines.proofs.Laying.{lays_both}
use Rattle.lines.proofs.Text.number_line.Goals as goal

pub returns : goal.returns
returns g c = lays_both (lays_both c.put_bytes.ensures c.put_number.ensures) c.put_byte.ensures
