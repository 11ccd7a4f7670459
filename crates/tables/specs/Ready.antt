-- What the layers above may take for granted of a table of rules.
-- Law: wellformed_ready (grammar_file/proofs/Ready.antt)
use Rattle.std.specs.Prelude.{ℕ, ◌<◌, ◌≤◌, ◌≢◌, length}
use Rattle.std.proofs.Math.Option.{Option, none, some}
use Rattle.vpg.specs.declared.Rule.{Rule}
use Rattle.vpg.specs.believed.Grammar.{Rules, Grammar, InForm, left}
use Rattle.vpg.specs.Parts.{onward, beyond}
use Rattle.tables.specs.declared.Head.{Head}
use Rattle.tables.specs.declared.Table.{Table}
use Rattle.tables.specs.Table.{rule_in, rules_in}

-- the nonterminal, where there is one, is below n
abbrev pub Small : ℕ → Option ℕ → Type 0
Small n none = Unit
Small n (some L) = L < n

-- every nonterminal of the rule is below n
abbrev pub Below : ℕ → Rule → Type 0
Below n R = (left R < n) × Small n (onward R) × Small n (beyond R)

-- at most 128 rules, none of them twice, whose nonterminals are below 32, and so is the start; the rules are as Definition 2.2 has them
pub record Ready (table : Table) (head : Head) : Type 0 where
  pub few : head.rules ≤ 128
  pub small : (r : ℕ) → r < head.rules → Below 32 (rule_in table r)
  pub start_small : head.start < 32
  pub well_small : head.well ≤ 32
  pub forms : (r : ℕ) → r < head.rules → InForm head.well (rule_in table r)
  pub distinct : (q r : ℕ) → q < r → r < head.rules → rule_in table q ≢ rule_in table r

-- the rules of a table
abbrev pub rules_of : Table → Head → Rules
rules_of table head = rules_in table head.rules

-- the grammar of a head and a table
abbrev pub grammar_in : Table → Head → Grammar
grammar_in table head = record { nonterminals = head.nonterminals; well = head.well; start = head.start; rules = rules_of table head }

-- the head of a grammar
abbrev pub head_of : Grammar → Head
head_of g = record { nonterminals = g.nonterminals; well = g.well; start = g.start; rules = length g.rules }
