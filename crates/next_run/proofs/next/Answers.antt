-- `next_run::next` meets its contract.
use Rattle.next_run.proofs.Successor.{none-refused, each_fits, no_further_is, rewrite_derives, written_is}
use Rattle.next_run.proofs.next.Goals as goal

pub returns-in_default : goal.returns-in_default
returns-in_default c =
    none-refused c.args.input.now.setting c.args.reading.now c.requires.tokens_in_bounds (rw c.in_default.is at c.replay-read.ensures)

pub last_position-requires-clause-each_fits : goal.last_position-requires-clause-each_fits
last_position-requires-clause-each_fits c =
    each_fits c.args.input.now.setting c.args.reading.now c.requires.tokens_in_bounds (rw c.in-Some.is at c.replay-read.ensures)

pub returns-in_default-last_position : goal.returns-in_default-last_position
returns-in_default-last_position c =
    no_further_is c.args.input.now.setting c.args.reading.now c.requires.tokens_in_bounds (rw c.in-Some.is at c.replay-read.ensures) c.in_default-last_position.ensures

pub rewrite-requires-clause-derives : goal.rewrite-requires-clause-derives
rewrite-requires-clause-derives c =
    rewrite_derives c.args.input.now.setting c.args.reading.now c.requires.tokens_in_bounds (rw c.in-Some.is at c.replay-read.ensures) _ _ c.in-Some-last_position.ensures

pub returns : goal.returns
returns c =
    written_is c.args.input.now.setting c.args.reading.now c.requires.tokens_in_bounds (rw c.in-Some.is at c.replay-read.ensures) _ _ c.in-Some-last_position.ensures _ c.rewrite.ensures
