-- The grammar that pair states have is proper: its start and the insides of its steps are below 32.
use mathlib.Core.Path.{◌≡◌, sym, ◌∙◌, subst}
use mathlib.Core.Option.{some-injective}
use Rattle.vpg.specs.declared.Rule.{Rule}
use Rattle.pair_theory.specs.Pairs.{Proper}
use Rattle.tables.specs.declared.Head.{Head}
use Rattle.tables.specs.declared.Table.{Table}
use Rattle.tables.specs.Ready.{Below, Ready}
use Rattle.tables.specs.Table.{rule_in}
use Rattle.tables.proofs.Tables.{ready_general, rules_at, rules_below}
use Rattle.pair_states.specs.Wide.{wide_grammar}

pub proper : (table : Table) (head : Head) → Ready table head → Proper (wide_grammar table head)
proper table head ready = record {
  form = ready_general table head ready;
  start_in = ready.start_small;
  inside_in = λ r L a L₁ b L₂ e.
      let l = rules_below table head.rules r e in
      let is : rule_in table r ≡ Rule.Step L a L₁ b L₂ = some-injective _ _ (sym (rules_at table head.rules r l) ∙ e) in
      (subst (Below 32) is (ready.small r l)).1;
}
