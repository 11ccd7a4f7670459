-- The grammars that a grammar file can say, and the numbers that the file of a grammar holds (document 01, "The two files" and refusals
-- 3, 4, 6, 7 and 8).
-- Law: grammar_both_ways (grammar_file/proofs/BothWays.antt)
use Rattle.std.specs.Prelude.{ℕ, ◌<◌, ◌≤◌, ◌≡◌, length}
use mathlib.Core.List.{List, [], ◌∷◌, ◌++◌, Memᴰ}
use Rattle.rules.specs.RuleNumbers.{rule_numbers, Fits}
use Rattle.vpg.specs.declared.Rule.{Rule}
use Rattle.vpg.specs.believed.Grammar.{Grammar}
use Rattle.laws.specs.Distinct.{Distinct}

-- "stage count (1 to 32), rule count (1 to 128), then each rule"
pub record Wellformed (g : Grammar) : Type 0 where
  pub nonterminals_least : 1 ≤ g.nonterminals
  pub nonterminals_most : g.nonterminals ≤ 32
  pub well_all : g.well ≡ g.nonterminals
  pub start_below : g.start < g.nonterminals
  pub rules_least : 1 ≤ length g.rules
  pub rules_most : length g.rules ≤ 128
  pub fits : (r : Rule) → Memᴰ r g.rules → Fits g.nonterminals r
  pub distinct : Distinct g.rules

abbrev pub rules_numbers : List Rule → List ℕ
rules_numbers [] = []
rules_numbers (r ∷ rs) = rule_numbers r ++ rules_numbers rs

-- the longer form, which says the start: "a 0; then come stage count, start stage, rule count and rules" (document 02, 2.3)
abbrev pub numbers_of : Grammar → List ℕ
numbers_of g = 0 ∷ g.nonterminals ∷ g.start ∷ length g.rules ∷ rules_numbers g.rules

-- the form without the start, for a grammar whose start is 0
abbrev pub numbers_without_start : Grammar → List ℕ
numbers_without_start g = g.nonterminals ∷ length g.rules ∷ rules_numbers g.rules
