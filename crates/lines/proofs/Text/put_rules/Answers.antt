use Rattle.std.proofs.Common.{arith}
use Rattle.lines.specs.believed.Text.{reading_text}
use Rattle.lines.proofs.Laying.{lays_none, lays_rule}
use Rattle.lines.proofs.Text.put_rules.Goals as goal

pub loop-rule-init : goal.loop-rule-init
unfolding reading_text
loop-rule-init g c = lays_none

pub loop-rule-preserved : goal.loop-rule-preserved
loop-rule-preserved g c = lays_rule c.args.reading.now c.loop-rule.rule-index (omega arith) c.from.ensures c.loop-rule.invariant c.put_byte.ensures c.put_number.ensures
