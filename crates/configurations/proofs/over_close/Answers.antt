-- `over_close`: the state and the name of the last step.
use Rattle.configurations.proofs.Stacks.{close_step}
use Rattle.configurations.proofs.over_close.Goals as goal

pub returns-in-Some : goal.returns-in-Some
returns-in-Some c =
    let last = c.in-Some.ensures.some in
    close_step c.args.grammar.now.table.now c.args.grammar.now.head c.args.from.now c.args.stack.now c.args.name _ c.pop.new.self last.0 c.pop.ensures.0 c.pop.ensures.1 (rw last.1 at c.after_close.ensures)
