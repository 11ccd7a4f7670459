-- `after_close`: the words after a close that is taken alone, and those after the step, from those before its open, by the contexts that may be finished.
use Rattle.pair_states.proofs.Derivatives.{close_encodes}
use Rattle.pair_states.proofs.after_close.Goals as goal

pub returns : goal.returns
returns c = λ S S₁ x y.
    rw (c.words_behind.ensures, c.words_after.ensures, c.finished_of-done.ensures, c.ends.ensures)
    (close_encodes _ _ c.args.grammar.now.indexed c.args.name c.args.opened.now.name c.args.words.now c.args.opened.now.words S S₁ x y)
