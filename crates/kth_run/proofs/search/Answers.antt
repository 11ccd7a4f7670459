-- `search`: the empty rule, or one of the class.
use mathlib.Core.Path.{sym}
use Rattle.moves.proofs.Walking.{empty_smallest}
use Rattle.kth_run.proofs.Sizes.{end_finds}
use Rattle.kth_run.proofs.search.Goals as goal

pub returns : goal.returns
returns c =
    let h = sym c.if-not-may_end.ensures in
    end_finds c.args.grammar.now.indexed c.args.sought c.args.context c.args.rows.now c.empty_rule.result h (empty_smallest c.args.grammar.now.table.now c.args.grammar.now.head c.args.sought.nonterminal c.args.context c.empty_rule.result h c.empty_rule.ensures)
