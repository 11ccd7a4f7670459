-- `gain` at a token: the rule has the token's name, and a word gains what it gives; or nothing changes.
use mathlib.Core.Path.{refl, sym, ◌∙◌}
use Rattle.pair_words.proofs.Sixes.{begins_below, gains, gains_none}
use Rattle.pair_words.proofs.AtTokenGivers.gain.Goals as goal

pub bounds-self-own : goal.bounds-self-own
bounds-self-own c = (begins_below _ _ c.args.self.now.token _ c.six_in-v.ensures c.requires.k_bound.2 c.requires.k_bound.1).0

pub contexts-requires : goal.contexts-requires
contexts-requires c = (begins_below _ _ c.args.self.now.token _ c.six_in-v.ensures c.requires.k_bound.2 c.requires.k_bound.1).1

pub bounds-out-next : goal.bounds-out-next
bounds-out-next c = (begins_below _ _ c.args.self.now.token _ c.six_in-v.ensures c.requires.k_bound.2 c.requires.k_bound.1).1

pub bounds-out-next-then-v-name_of : goal.bounds-out-next-then-v-name_of
bounds-out-next-then-v-name_of c = (begins_below _ _ c.args.self.now.token _ c.six_in-v.ensures c.requires.k_bound.2 c.requires.k_bound.1).1

pub returns-then-v-name_of : goal.returns-then-v-name_of
returns-then-v-name_of c =
    gains c.args.grammar.now.table.now c.args.k c.args.self.now.token _ c.six_in-v.ensures c.requires.k_bound.2 c.args.self.now.from.now c.args.out.now _ _ _
    (c.if-v-name_of.true ∙ c.name_of.ensures)
    refl
    refl
    c.contexts.ensures

pub returns-else-v-name_of : goal.returns-else-v-name_of
returns-else-v-name_of c =
    gains_none c.args.grammar.now.table.now c.args.k c.args.self.now.token _ c.six_in-v.ensures c.requires.k_bound.2 c.args.self.now.from.now c.args.out.now (λ e. c.if-v-name_of.false (e ∙ sym c.name_of.ensures))
