-- `contexts::takes`: by the name, then by the digits that the index has of the rule.
use mathlib.Core.Path.{sym, ◌∙◌}
use Rattle.contexts.proofs.Forms.{other_name, step-takes, alone-takes}
use Rattle.contexts.proofs.takes.Goals as goal

pub returns-then-v-eq2 : goal.returns-then-v-eq2
returns-then-v-eq2 c =
    let q = rw c.inside.ensures at (sym c.has.ensures ∙ c.if-has.true) in
    c.closes.ensures ∙ step-takes c.args.grammar.now.head.well c.args.context c.args.grammar.now.table.now c.args.r _ c.six_in-v.ensures (c.args.grammar.now.indexed.ready.forms _ c.requires.0) c.requires.1 (c.args.grammar.now.indexed.goals.inside _ c.requires.0, c.args.grammar.now.indexed.goals.after _ c.requires.0) c.if-v-context.true q c.if-v-eq2.true

pub returns-then-has : goal.returns-then-has
returns-then-has c =
    let q = rw c.inside.ensures at (sym c.has.ensures ∙ c.if-has.true) in
    alone-takes c.args.grammar.now.head.well c.args.context c.args.grammar.now.table.now c.args.r _ c.six_in-v.ensures (c.args.grammar.now.indexed.ready.forms _ c.requires.0) c.requires.1 (c.args.grammar.now.indexed.goals.inside _ c.requires.0, c.args.grammar.now.indexed.goals.after _ c.requires.0) c.if-v-context.true q c.if-v-eq2.false

pub returns-else-v-context : goal.returns-else-v-context
returns-else-v-context c =
    other_name c.args.grammar.now.head.well c.args.context c.args.grammar.now.table.now c.args.r _ c.six_in-v.ensures (c.args.grammar.now.indexed.ready.forms _ c.requires.0) c.requires.1 (c.args.grammar.now.indexed.goals.inside _ c.requires.0, c.args.grammar.now.indexed.goals.after _ c.requires.0) c.if-v-context.false
