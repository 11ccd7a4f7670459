-- `contexts::applies`: the first number of a rule says its form.
use mathlib.Core.Path.{sym, ◌∙◌}
use Rattle.contexts.proofs.Forms.{empty_applies, form_at, form_apart}
use Rattle.contexts.proofs.applies.Goals as goal

pub returns-then-v-eq0 : goal.returns-then-v-eq0
returns-then-v-eq0 c =
    c.may_end.ensures ∙ empty_applies c.args.grammar.now.head.well c.args.context c.args.grammar.now.table.now c.args.r _ c.six_in-v.ensures c.if-v-eq0.true

pub takes-requires : goal.takes-requires
takes-requires c =
    (c.requires, form_at c.args.grammar.now.head.well c.args.context c.args.grammar.now.table.now c.args.r _ c.six_in-v.ensures c.if-v-eq0.false (sym c.kind_fits.ensures ∙ c.if-kind_fits.true))

pub returns : goal.returns
returns c =
    form_apart c.args.grammar.now.head.well c.args.context c.args.grammar.now.table.now c.args.r _ c.six_in-v.ensures c.if-v-eq0.false (sym c.kind_fits.ensures ∙ c.if-kind_fits.false)
