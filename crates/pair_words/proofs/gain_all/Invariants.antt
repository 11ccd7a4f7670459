-- `gain_all`. The invariant: the words are what the rules before rule k give.
use mathlib.Core.Path.{◌≡◌}
use Rattle.rule_index.proofs.Walk.{Along}
use Rattle.pair_words.specs.Words.{words_by}
use Rattle.pair_words.proofs.gain_all.Given as goal

abbrev pub invariant-loop-k : goal.invariant-loop-k
invariant-loop-k g l =
    Along l.grammar.table.now l.grammar.head.rules (g.G.Givers.class l.givers) (λ n. l.out ≡ words_by (g.G.Givers.gives l.givers) l.initial.out l.grammar.table.now n) l.k-iterator
