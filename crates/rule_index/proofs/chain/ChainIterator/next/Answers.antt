-- `next` of a chain: it hands out the rule at which it stands.
use native.Mathlib.Omega.{arith}
use mathlib.Core.Path.{sym, ◌∙◌, ap}
use lib.ListN.{length}
use Rattle.rule_index.proofs.Listed.{hands_out}
use Rattle.rule_index.proofs.chain.ChainIterator.next.Goals as goal

pub returns-then-rule-self-clause-steps : goal.returns-then-rule-self-clause-steps
returns-then-rule-self-clause-steps c = sym c.self.view_is ∙ hands_out c.self.inside.grammar.indexed c.self.inside.rule c.next-self-inside.result c.if-rule-self.true c.next-self-inside.ensures

pub returns-then-rule-self-clause-goes : goal.returns-then-rule-self-clause-goes
returns-then-rule-self-clause-goes c =
    let steps = sym c.self.view_is ∙ hands_out c.self.inside.grammar.indexed c.self.inside.rule c.next-self-inside.result c.if-rule-self.true c.next-self-inside.ensures in
    record { on = λ _. (tt, tt, omega (arith, ap length steps)); keeps = tt; rests = λ _. tt }
