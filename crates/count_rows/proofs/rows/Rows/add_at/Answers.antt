-- `add_at`: it was over, it is stored, or it goes over; the shifted 1 loses no digit.
use native.Mathlib.Nat.{one-mul}
use native.Mathlib.Omega.{arith}
use mathlib.Core.Path.{sym, ◌∙◌, ap}
use lib.Bits.{bit_or}
use lib.Dec.{lit<}
use lib.Pow.{shl_exact}
use Rattle.capped.specs.Capped.{value}
use Rattle.count_rows.specs.Rows.{overs_at}
use Rattle.count_rows.proofs.Store.{goes_over}
use Rattle.count_rows.proofs.rows.Rows.add_at.Goals as goal

pub returns-in-None : goal.returns-in-None
returns-in-None c =
    goes_over c.args.self.now c.args.p c.args.l (value c.args.n) c.requires.0 c.requires.1 _
    (ap (bit_or (overs_at c.args.self.now c.args.p)) (shl_exact 1 c.args.l 64 (lit< tt) (omega (arith, c.requires.1)) ∙ one-mul _))
    (sym c.has.ensures ∙ c.if-has.false)
    (rw c.in-None.is at c.sum.ensures)
