use Rattle.std.proofs.Common.{take}
use Rattle.lines.specs.Lays.{Lays}
use Rattle.lines.specs.believed.Text.{reading_text}
use Rattle.lines.proofs.Text.put_rules.Given as goal

abbrev pub invariant-loop-rule : goal.invariant-loop-rule
invariant-loop-rule g l = Lays g.W.Write.contents l.initial.self l.self (reading_text (take l.rule-index l.reading))
