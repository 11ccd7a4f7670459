-- `next_run::rewrite` meets its contract.
use native.Mathlib.Omega.{arith}
use native.Mathlib.Numerals.{add-one}
use Rattle.tables.specs.Table.{rule_in}
use Rattle.history_file.specs.believed.HistoryFile.{token_of, tokens_of}
use Rattle.levels.proofs.Levels.{tokens_length, tokens_at}
use Rattle.levels.proofs.Setting.{close_room}
use Rattle.next_run.proofs.Rewriting.{rewritten_on, rewritten_end}
use Rattle.next_run.proofs.rewrite.Goals as goal

pub store_later-requires : goal.store_later-requires
store_later-requires c =
    (c.requires.position_in_bounds.2, rw c.close_at-j.ensures (close_room c.args.input.now.setting c.args.branch.now.from.position (omega arith)))

pub fill_in_place-requires-clause-derives : goal.fill_in_place-requires-clause-derives
unfolding rule_in
fill_in_place-requires-clause-derives c =
    let f = c.requires.derives c.if-p-input.true in
    rw (c.store_later.ensures, c.inner_of-branch.ensures, c.close_at-j.ensures, c.six_in-rule.ensures, add-one c.args.branch.now.from.position) f

pub returns-then-p-input : goal.returns-then-p-input
unfolding rule_in
returns-then-p-input c =
    let here = tokens_at c.args.input.now.tokens.now c.args.branch.now.from.position c.if-p-input.true in
    rewritten_on c.args.input.now.grammar.table.now c.args.input.now.grammar.head (tokens_of c.args.input.now.tokens.now) c.args.input.now.closes.now c.args.branch.now c.args.reading.now (rw tokens_length c.requires.position_in_bounds.3) (token_of _) _ (rw tokens_length c.if-p-input.true) here
    (rw (c.store_later.ensures, c.inner_of-branch.ensures, c.close_at-j.ensures, c.six_in-rule.ensures, add-one c.args.branch.now.from.position) at c.fill_in_place.ensures)

pub returns-else-p-input : goal.returns-else-p-input
returns-else-p-input c =
    rewritten_end c.args.input.now.grammar.table.now c.args.input.now.grammar.head (tokens_of c.args.input.now.tokens.now) c.args.input.now.closes.now c.args.branch.now c.args.reading.now (rw tokens_length c.requires.position_in_bounds.3) (omega (arith, tokens_length c.args.input.now.tokens.now))
