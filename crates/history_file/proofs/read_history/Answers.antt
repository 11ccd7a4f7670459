-- `history_file::read_history` meets its contract.
use mathlib.Core.Path.{sym, ◌∙◌}
use native.Mathlib.Omega.{arith}
use Rattle.refusal.specs.declared.Refusal.{Refusal}
use Rattle.numbers.proofs.Fields.{field_read}
use Rattle.history_file.proofs.read_history.Goals as goal

pub tokens_at-answer-requires : goal.tokens_at-answer-requires
tokens_at-answer-requires c =
    let below = (field_read _ _ 1025 Refusal.TokenCount _ _ (sym c.field_at.ensures ∙ c.in_ok-due.was)).below in
    (omega arith, c.requires)
