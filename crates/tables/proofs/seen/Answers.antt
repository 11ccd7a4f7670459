-- `tables::seen`: a rule whose key isn't marked is no earlier one.
use mathlib.Core.Path.{sym, ap, ◌∙◌}
use Rattle.tables.specs.declared.Six.{Six}
use Rattle.tables.specs.Keys.{key_in, has_key}
use Rattle.tables.proofs.Keys.{unmarked}
use Rattle.tables.proofs.seen.Goals as goal

pub returns-else-has_key : goal.returns-else-has_key
returns-else-has_key c =
    c.if-has_key.false ∙ sym (unmarked _ _ c.args.keys.now _ c.requires.1 (ap (λ (v : Six). has_key c.args.keys.now (key_in v)) (sym c.six_of.ensures) ∙ (sym c.has_key.ensures ∙ c.if-has_key.false)))
