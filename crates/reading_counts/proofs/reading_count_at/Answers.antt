-- `reading_counts::reading_count_at` meets its contract.
use mathlib.Core.Path.{sym, ◌∙◌}
use native.Mathlib.Omega.{arith}
use Rattle.std.proofs.Common.{rules}
use Rattle.service.specs.believed.Opened.{files_in}
use Rattle.service.proofs.Opens.{nothing_asked}
use Rattle.reading_counts.proofs.Told.{count_told, at_due}
use Rattle.reading_counts.proofs.reading_count_at.Goals as goal

pub returns : goal.returns
returns c =
    let k = c.in_ok-opened.ensures in
    let passed = sym (nothing_asked (files_in c.args.grammar.now c.args.history.now)) ∙ k.is in
    count_told c.count.result (search rules) ∙ at_due c.args.grammar.now c.args.history.now passed c.args.position c.args.rule (search rules) (omega (arith, c.if-opened-position.false))
