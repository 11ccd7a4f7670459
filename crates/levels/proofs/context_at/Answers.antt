-- `levels::context_at` meets its contract.
use mathlib.Core.Path.{sym, ◌∙◌}
use Rattle.history_file.specs.believed.HistoryFile.{tokens_of}
use Rattle.levels.proofs.Levels.{tokens_length, stands_end}
use Rattle.levels.proofs.context_at.Goals as goal

pub returns-then-p-input : goal.returns-then-p-input
returns-then-p-input c =
    rw c.end_context.ensures (λ W. stands_end W (tokens_of c.args.input.now.tokens.now) c.args.input.now.masks.now c.args.p (c.if-p-input.true ∙ sym (tokens_length c.args.input.now.tokens.now)))
