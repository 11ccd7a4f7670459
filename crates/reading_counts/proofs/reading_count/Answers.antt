-- `reading_counts::reading_count` meets its contract.
use native.Mathlib.Omega.{arith}
use Rattle.std.proofs.Common.{rules}
use mathlib.Core.Path.{sym, ◌∙◌}
use Rattle.service.specs.believed.Opened.{files_in}
use Rattle.service.proofs.Opens.{nothing_asked}
use Rattle.reading_counts.proofs.Told.{count_told, all_due}
use Rattle.reading_counts.proofs.reading_count.Goals as goal

pub returns : goal.returns
returns c =
    let k = c.in_ok-opened.ensures in
    let passed = sym (nothing_asked (files_in c.args.grammar.now c.args.history.now)) ∙ k.is in
    count_told c.count.result (search rules) ∙ all_due c.args.grammar.now c.args.history.now passed 1026 0 (search rules) (omega (arith, c.in_ok-opened.opened.passed.tokens.few))
