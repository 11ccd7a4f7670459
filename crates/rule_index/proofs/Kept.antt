-- What a table says of its rules stays where its rules stay.
use Prim.Native.Nat.{ℕ, zero, suc}
use mathlib.Core.Path.{◌≡◌, refl, sym, ap, ◌∙◌}
use mathlib.Core.List.{List}
use lib.ListN.{get_or}
use Rattle.vpg.specs.believed.Grammar.{Rules}
use Rattle.tables.specs.declared.Head.{Head}
use Rattle.tables.specs.declared.Six.{Six}
use Rattle.tables.specs.declared.Table.{Table}
use Rattle.tables.specs.Table.{no_six, rule_from, rule_in, rules_in}
use Rattle.tables.specs.Ready.{Ready, grammar_in}
use Rattle.rule_index.specs.Building.{SameRules}

pub rule_kept : (t u : Table) → u.rules ≡ t.rules → (q : ℕ) → rule_in u q ≡ rule_in t q
unfolding rule_in
rule_kept t u e q = ap (λ (rules : List Six). rule_from (get_or rules q no_six)) e

rules_kept : (t u : Table) → u.rules ≡ t.rules → (n : ℕ) → rules_in u n ≡ rules_in t n
unfolding rules_in
rules_kept t u e zero = refl
rules_kept t u e (suc n) = rw (rules_kept t u e n, rule_kept t u e n)

pub grammar_kept : (t u : Table) → u.rules ≡ t.rules → (head : Head) → grammar_in u head ≡ grammar_in t head
grammar_kept t u e head =
    ap (λ (rules : Rules). record { nonterminals = head.nonterminals; well = head.well; start = head.start; rules = rules }) (rules_kept t u e head.rules)

pub same_on : {t u v : Table} → SameRules t u → SameRules u v → SameRules t v
same_on a b = record { size = b.size; rules = b.rules ∙ a.rules }

pub ready_kept : (t u : Table) → u.rules ≡ t.rules → (head : Head) → Ready t head → Ready u head
ready_kept t u same head k = record {
  few = k.few;
  small = λ r l. rw (rule_kept t u same r) (k.small r l);
  start_small = k.start_small;
  well_small = k.well_small;
  forms = λ r l. rw (rule_kept t u same r) (k.forms r l);
  distinct = λ q r less l e. k.distinct q r less l (sym (rule_kept t u same q) ∙ (e ∙ rule_kept t u same r));
}
