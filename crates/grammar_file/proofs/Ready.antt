-- The table of a well-formed grammar is what the layers above take for granted.
use Prim.Native.Nat.{ℕ, ◌≤◌}
use native.Mathlib.Omega.{arith}
use mathlib.Core.Path.{sym, ◌∙◌}
use lib.ListN.{get_or}
use Rattle.laws.proofs.Lists.{at_member, at_distinct}
use Rattle.rules.specs.RuleNumbers.{Fits}
use Rattle.tables.specs.Ready.{Below, Ready, head_of}
use Rattle.tables.specs.Table.{table_of}
use Rattle.tables.proofs.Tables.{table_rule}
use Rattle.vpg.specs.declared.Rule.{Rule}
use Rattle.vpg.specs.believed.Grammar.{Grammar, InForm}
use Rattle.grammar_file.specs.Wellformed.{Wellformed}

fits_below : (n : ℕ) (r : Rule) → n ≤ 32 → Fits n r → Below 32 r
fits_below n (Rule.Empty l) h f = omega arith
fits_below n (Rule.Next l i l1) h f = omega arith
fits_below n (Rule.Step l a l1 b l2) h f = omega arith

-- where every nonterminal is well matched
fits_form : (n : ℕ) (r : Rule) → Fits n r → InForm n r
fits_form n (Rule.Empty l) f = tt
fits_form n (Rule.Next l i l1) f = λ h. (f.3, f.2)
fits_form n (Rule.Step l a l1 b l2) f = (f.2, λ h. f.4)

pub wellformed_ready : (g : Grammar) → Wellformed g → Ready (table_of g.rules) (head_of g)
wellformed_ready g w = record {
  few = w.rules_most;
  small =
      λ k h.
      let r = get_or g.rules k (Rule.Empty 0) in
      rw (table_rule g.rules k (Rule.Empty 0) w.rules_most h)
      (fits_below g.nonterminals r w.nonterminals_most (w.fits r (at_member g.rules k (Rule.Empty 0) h)));
  start_small = omega (arith, w.start_below, w.nonterminals_most);
  well_small = omega (arith, w.well_all, w.nonterminals_most);
  forms =
      λ k h.
      let r = get_or g.rules k (Rule.Empty 0) in
      rw (table_rule g.rules k (Rule.Empty 0) w.rules_most h, w.well_all) (fits_form g.nonterminals r (w.fits r (at_member g.rules k (Rule.Empty 0) h)));
  distinct =
      λ q r less h e.
      at_distinct g.rules q r (Rule.Empty 0) w.distinct less h
      (sym (table_rule g.rules q (Rule.Empty 0) w.rules_most (omega (arith, less, h))) ∙ (e ∙ table_rule g.rules r (Rule.Empty 0) w.rules_most h));
}
