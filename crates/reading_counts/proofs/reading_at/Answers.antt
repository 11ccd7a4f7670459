-- `reading_counts::reading_at` meets its contract.
use mathlib.Core.Path.{ap, ◌∙◌}
use Rattle.std.proofs.Common.{rules}
use Rattle.levels.specs.Prepared.{prepared_grammar}
use Rattle.reading_counts.proofs.Told.{kth_said, reading_told}
use Rattle.reading_counts.proofs.reading_at.Goals as goal

pub returns : goal.returns
returns c =
    let k = c.in_ok-opened.ensures in
    let input = c.prepared.result in
    let told = reading_told c.args.grammar.now c.args.history.now c.args.reading.now c.args.k {g = prepared_grammar input} {ts = input.tokens.now} (rw (c.prepared.ensures.0, c.prepared.ensures.1) k.is) in
    search rules ∙ (ap kth_said c.kth-written.ensures ∙ told)
