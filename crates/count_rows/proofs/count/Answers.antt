-- `count`: the start at position 0.
use mathlib.Core.Path.{sym, ◌∙◌}
use Rattle.tables.specs.Ready.{grammar_in}
use Rattle.tables.proofs.Tables.{ready_general}
use Rattle.history_file.specs.believed.HistoryFile.{tokens_of}
use Rattle.count_theory.specs.Allowed.{passes}
use Rattle.count_rows.specs.Rows.{allowed_by}
use Rattle.count_rows.proofs.Whole.{new_sized, new_clear, count-whole, count_none}
use Rattle.count_rows.proofs.count.Goals as goal

pub rows_of-requires : goal.rows_of-requires
rows_of-requires c = new_clear

pub invariant_of-rows : goal.invariant_of-rows
invariant_of-rows c = record { sized = new_sized }

pub returns : goal.returns
returns c =
    let g = grammar_in c.args.input.now.grammar.table.now c.args.input.now.grammar.head in
    c.count_at.ensures ∙ count-whole g (ready_general c.args.input.now.grammar.table.now c.args.input.now.grammar.head c.args.input.now.setting.indexed.ready) (tokens_of c.args.input.now.tokens.now) (sym (c.if-not-derives_all.ensures g.rules c.args.input.now.tokens.now c.args.input.now.setting.leveled)) c.args.input.now.setting.indexed.ready.start_small c.rows_of.ensures

pub returns-then-not-derives_all : goal.returns-then-not-derives_all
returns-then-not-derives_all c =
    let g = grammar_in c.args.input.now.grammar.table.now c.args.input.now.grammar.head in
    count_none g (ready_general c.args.input.now.grammar.table.now c.args.input.now.grammar.head c.args.input.now.setting.indexed.ready) (tokens_of c.args.input.now.tokens.now) (passes (allowed_by c.args.alone) 0) (sym (c.if-not-derives_all.ensures g.rules c.args.input.now.tokens.now c.args.input.now.setting.leveled))
