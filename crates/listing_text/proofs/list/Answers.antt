-- `listing_text::list` meets its contract.
use Rattle.std.proofs.Common.{List, ℕ, sym, ◌∙◌, subst}
use Rattle.grammar_file.specs.believed.GrammarFile.{grammar_of}
use Rattle.history_file.specs.believed.HistoryFile.{history_of}
use Rattle.levels.specs.Prepared.{prepared_grammar}
use Rattle.lines.specs.Lays.{Lays}
use Rattle.service.specs.believed.Opened.{files_in}
use Rattle.service.proofs.Opens.{nothing_asked}
use Rattle.listing_text.proofs.Whole.{accepted_listed}
use Rattle.listing_text.proofs.list.Goals as goal

pub returns-in-Ok : goal.returns-in-Ok
returns-in-Ok g c =
    let input = c.prepared.result in
    let passed = sym (nothing_asked (files_in c.args.grammar.now c.args.history.now)) ∙ c.in-Ok.ensures.is in
    let listed = accepted_listed (grammar_of c.args.grammar.now) (history_of c.args.history.now) (prepared_grammar input) input.tokens.now (rw (c.prepared.ensures.0, c.prepared.ensures.1) passed) in
    subst (λ (l : List ℕ). Lays g.W.Write.contents c.args.text.now c.list_accepted.new.text l) listed c.list_accepted.ensures
