-- `listing_text::list_refused` meets its contract.
use Rattle.std.proofs.Common.{ℕ, List, subst}
use Rattle.lines.specs.Lays.{Lays}
use Rattle.listing_text.proofs.Whole.{grammar_told, history_told}
use Rattle.listing_text.proofs.list_refused.Goals as goal

pub returns-in-Err : goal.returns-in-Err
returns-in-Err g c h e = subst (λ (l : List ℕ). Lays g.W.Write.contents c.args.text.now c.refused_grammar_line.new.self l) (grammar_told _ h _ c.in-Err.field-0 c.in-Err.ensures _ e c.into-number.ensures) c.refused_grammar_line.ensures

pub returns-in-Ok : goal.returns-in-Ok
returns-in-Ok g c h e = subst (λ (l : List ℕ). Lays g.W.Write.contents c.args.text.now c.refused_history_line.new.self l) (history_told _ h _ c.in-Ok.field-0 c.in-Ok.ensures _ e c.into-number.ensures) c.refused_history_line.ensures
