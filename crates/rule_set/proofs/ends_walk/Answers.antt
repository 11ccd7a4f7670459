-- `ends_walk` meets its contract.
use mathlib.Core.Path.{sym, ◌∙◌}
use mathlib.Core.Bool.{false≢true}
use Rattle.rule_set.proofs.Ends.{ways_ends}
use Rattle.rule_set.proofs.ends_walk.Goals as goal
use Rattle.rule_set.proofs.ends_walk.Goals.{then-this-ne0, else-this-ne0}

pub returns : goal.returns
returns g c = λ p o. (
  sym (ways_ends c.args.grammar.now.indexed p c.requires.among o c.args.here),
  λ e. elim c.if-this-ne0.branch [
    | then-this-ne0 w ↦ w.words-is ∙ w.ends_words.ensures p o
    | else-this-ne0 w ↦ absurd (false≢true (rw w.if-this-ne0.false at e))
  ],
)
