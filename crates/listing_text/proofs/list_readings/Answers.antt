use Rattle.std.proofs.Common.{ℕ, sym, subst, arith}
use Rattle.tables.specs.Ready.{grammar_in}
use Rattle.lines.specs.Lays.{Lays}
use Rattle.lines.specs.believed.Text.{choices_line}
use Rattle.lines.proofs.Laying.{lays_both}
use Rattle.listing_text.proofs.Turns.{turns_start, turns_next, turns_end, turns_more}
use Rattle.listing_text.proofs.list_readings.Goals as goal

pub loop-k-init : goal.loop-k-init
loop-k-init g c = turns_start (grammar_in c.args.input.now.grammar.table.now c.args.input.now.grammar.head) c.args.input.now.tokens.now c.requires

pub loop-k-preserved : goal.loop-k-preserved
loop-k-preserved g c =
    turns_next (grammar_in c.args.input.now.grammar.table.now c.args.input.now.grammar.head) c.args.input.now.tokens.now c.loop-k.invariant (omega arith) c.reading_line.ensures _ c.next-answer.new.reading (sym c.if-not-is_written.ensures) (omega arith) c.next-answer.ensures

pub returns-then-not-is_written : goal.returns-then-not-is_written
returns-then-not-is_written g c =
    lays_both (subst (λ (n : ℕ). Lays g.W.Write.contents c.args.text.now c.choices_line.new.self (choices_line n)) c.choices-choices.ensures c.choices_line.ensures)
    (turns_end (grammar_in c.args.input.now.grammar.table.now c.args.input.now.grammar.head) c.args.input.now.tokens.now c.loop-k.invariant (omega arith) c.reading_line.ensures _ c.next-answer.new.reading
    (sym c.if-not-is_written.ensures) c.next-answer.ensures c.end_line.ensures)

pub returns : goal.returns
returns g c =
    lays_both (subst (λ (n : ℕ). Lays g.W.Write.contents c.args.text.now c.choices_line.new.self (choices_line n)) c.choices-choices.ensures c.choices_line.ensures)
    (turns_more (grammar_in c.args.input.now.grammar.table.now c.args.input.now.grammar.head) c.args.input.now.tokens.now c.loop-k.invariant (omega arith) c.more_line.ensures)
