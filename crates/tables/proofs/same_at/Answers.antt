-- `tables::same_at`: two rules for different nonterminals are two.
use mathlib.Core.Path.{refl, sym, ap, ◌∙◌}
use borrow.Author.Tests.{ne_eqb}
use Rattle.tables.specs.declared.Six.{Six}
use Rattle.tables.specs.Table.{same_rule, rule_in}
use Rattle.tables.proofs.Earlier.{other_left, left_six}
use Rattle.tables.proofs.same_at.Goals as goal

pub returns-then-left_in-six : goal.returns-then-left_in-six
unfolding same_rule
returns-then-left_in-six c rule e = rw (c.eq.ensures, c.six_of.ensures, c.rule_of.ensures, e) refl

pub returns-else-left_in-six : goal.returns-else-left_in-six
returns-else-left_in-six c rule e =
    let second = ap (λ (v : Six). v.1) e ∙ left_six rule in
    ne_eqb _ _ c.if-left_in-six.false
    ∙ sym (other_left rule (rule_in c.args.table.now c.args.j) (λ d. c.if-left_in-six.false (c.left_in.ensures ∙ (sym d ∙ sym second))))
