-- `levels::derives_all` meets its contract.
use mathlib.Core.Path.{◌∙◌}
use mathlib.Core.Bool.{false}
use native.Mathlib.Omega.{arith}
use Rattle.levels.proofs.derives_all.Goals as goal

pub returns : goal.returns
returns c = λ g ts l. c.has.ensures ∙ l 0 (omega arith) (omega arith) _ c.args.input.now.setting.indexed.ready.start_small false
