use Rattle.std.proofs.Common.{ℕ, List, sym, ◌∙◌, length, subst}
use Rattle.tables.specs.Ready.{grammar_in}
use Rattle.lines.specs.Lays.{Lays}
use Rattle.lines.specs.believed.Text.{tokens_line}
use Rattle.lines.proofs.Laying.{lays_both}
use Rattle.listing_text.proofs.Whole.{first-none, first-some, none-listed, some-listed}
use Rattle.listing_text.proofs.list_accepted.Goals as goal

pub returns-else-is_written : goal.returns-else-is_written
returns-else-is_written g c =
    subst (λ (l : List ℕ). Lays g.W.Write.contents c.args.text.now c.none_line.new.self l)
    (none-listed (tokens_line (length c.args.input.now.tokens.now)) _ _ (first-none (grammar_in c.args.input.now.grammar.table.now c.args.input.now.grammar.head) c.args.input.now.tokens.now _ _ c.first-found.new.out (sym c.is_written.ensures ∙ c.if-is_written.false) c.first-found.ensures))
    (lays_both c.tokens_line.ensures c.none_line.ensures)

pub returns-then-is_written : goal.returns-then-is_written
returns-then-is_written g c =
    subst (λ (l : List ℕ). Lays g.W.Write.contents c.args.text.now c.list_readings.new.text l)
    (some-listed (tokens_line (length c.args.input.now.tokens.now)) _ _ (first-some (grammar_in c.args.input.now.grammar.table.now c.args.input.now.grammar.head) c.args.input.now.tokens.now _ _ c.first-found.new.out (sym c.is_written.ensures ∙ c.if-is_written.true) c.first-found.ensures))
    (lays_both c.tokens_line.ensures c.list_readings.ensures)
