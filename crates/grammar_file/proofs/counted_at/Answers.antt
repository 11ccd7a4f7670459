-- `grammar_file::counted_at` meets its contract.
use mathlib.Core.Path.{refl, sym, ◌∙◌}
use Rattle.refusal.specs.declared.Refusal.{Refusal}
use Rattle.numbers.proofs.Fields.{count_most}
use Rattle.grammar_file.proofs.counted_at.Goals as goal

pub returns-clause-head : goal.returns-clause-head
returns-clause-head c =
    (count_most _ _ 128 Refusal.RuleCount _ _ (sym c.count_at.ensures ∙ c.in_ok-due.was), refl)
