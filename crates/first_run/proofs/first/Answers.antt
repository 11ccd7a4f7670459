-- `first_run::first` meets its contract.
use mathlib.Core.Path.{sym, ◌∙◌}
use lib.ListN.{replicate}
use Rattle.first_run.proofs.Whole.{start_derives, first_is, none_is}
use Rattle.first_run.proofs.first.Goals as goal

pub returns-then-not-derives_all : goal.returns-then-not-derives_all
returns-then-not-derives_all c =
    none_is c.args.input.now.setting c.args.out.now (sym (c.derives_all.ensures _ c.args.input.now.tokens.now c.args.input.now.setting.leveled) ∙ c.if-not-derives_all.true)

pub fill-requires-clause-derives : goal.fill-requires-clause-derives
fill-requires-clause-derives c =
    start_derives c.args.input.now.setting (replicate 1025 0) (sym (c.derives_all.ensures _ c.args.input.now.tokens.now c.args.input.now.setting.leveled) ∙ c.if-not-derives_all.false)

pub returns : goal.returns
returns c =
    let h = sym (c.derives_all.ensures _ c.args.input.now.tokens.now c.args.input.now.setting.leveled) ∙ c.if-not-derives_all.false in
    first_is c.args.input.now.setting (replicate 1025 0) c.args.out.now _ h c.fill.ensures
