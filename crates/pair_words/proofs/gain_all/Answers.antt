-- `gain_all`. The invariant: the words are what the rules before rule k give.
use native.Mathlib.Omega.{arith}
use mathlib.Core.Path.{◌∙◌, ap}
use Rattle.rule_index.specs.Chain.{rules_from}
use Rattle.rule_index.proofs.Walk.{along}
use Rattle.pair_words.proofs.Walks.{words_none, words_over, words_length, words_turn}
use Rattle.pair_words.proofs.gain_all.Goals as goal

pub chain-k-items-requires : goal.chain-k-items-requires
chain-k-items-requires g c = rw c.class.ensures (g.met.G.Givers.small c.args.givers.now)

pub loop-k-init : goal.loop-k-init
loop-k-init g c =
    along (words_over (g.G.Givers.gives c.args.givers.now) c.args.out.now c.args.grammar.now.table.now (g.G.Givers.class c.args.givers.now) (g.met.G.Givers.one_class c.args.givers.now)) 0 (omega arith) (c.into_iter-k-iterator.ensures.into_iter_gives ∙ c.chain-k-items.ensures ∙ ap (λ class. rules_from c.args.grammar.now.table.now c.args.grammar.now.head.rules class 0) c.class.ensures)
    (words_none (g.G.Givers.gives c.args.givers.now) c.args.out.now c.args.grammar.now.table.now (g.G.Givers.class c.args.givers.now) (g.met.G.Givers.one_class c.args.givers.now))

pub gain-requires-clause-k_bound : goal.gain-requires-clause-k_bound
gain-requires-clause-k_bound g c =
    let w = c.loop-k.invariant.turn _ _ c.in-Some.ensures.steps in
    (omega (arith, w.below, c.args.grammar.now.indexed.ready.few), c.args.grammar.now.indexed.ready.small _ w.below, w.of_class)

pub gain-requires-clause-out_len : goal.gain-requires-clause-out_len
gain-requires-clause-out_len g c =
    let w = c.loop-k.invariant.turn _ _ c.in-Some.ensures.steps in
    words_length (g.G.Givers.gives c.args.givers.now) c.args.out.now c.args.grammar.now.table.now (g.G.Givers.class c.args.givers.now) (g.met.G.Givers.one_class c.args.givers.now) c.in-Some.k c.loop-k.out c.requires.out_len w.held

pub loop-k-preserved : goal.loop-k-preserved
loop-k-preserved g c =
    let w = c.loop-k.invariant.turn _ _ c.in-Some.ensures.steps in
    along (words_over (g.G.Givers.gives c.args.givers.now) c.args.out.now c.args.grammar.now.table.now (g.G.Givers.class c.args.givers.now) (g.met.G.Givers.one_class c.args.givers.now)) _ w.below w.rest (words_turn (g.G.Givers.gives c.args.givers.now) c.args.out.now c.args.grammar.now.table.now (g.G.Givers.class c.args.givers.now) (g.met.G.Givers.one_class c.args.givers.now) c.in-Some.k c.loop-k.out _ w.held c.gain.ensures)

pub returns : goal.returns
returns g c = c.loop-k.invariant.ended c.in-None.ensures.steps.0
