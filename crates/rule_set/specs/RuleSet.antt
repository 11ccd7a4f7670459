-- The set of rules at a position, rule by rule.
-- Law: words_held (rule_set/proofs/RuleSet.antt)
-- Law: sum_most, choice-sum (rule_set/proofs/Sums.antt)
use Rattle.std.specs.Prelude.{ℕ, zero, suc, ◌+◌, ◌^◌, Bool, cond, ◌&&◌, List, replicate}
use Rattle.std.proofs.Math.Option.{Option, none, some}
use Rattle.bits.specs.Bit.{bit, add_bit}
use Rattle.vpg.specs.declared.Rule.{Rule}
use Rattle.vpg.specs.believed.Grammar.{left}
use Rattle.vpg.specs.Parts.{onward, beyond}
use Rattle.tables.specs.declared.Table.{Table}
use Rattle.tables.specs.Table.{rule_in}
use Rattle.contexts.specs.declared.Context.{Context}
use Rattle.contexts.specs.Context.{applies_to}
use Rattle.rule_set.specs.declared.Ways.{Ways}
use Rattle.rule_set.specs.Words.{add_in}

-- is the rule in the set, where the nonterminals `here` can stand; those below W are the well-matched ones
abbrev pub keeps_at : ℕ → ℕ → Context → Rule → Bool
keeps_at W here context R = bit here (left R) && applies_to W R context

-- the set with a nonterminal, where there is one
abbrev pub with_some : ℕ → Option ℕ → ℕ
with_some x none = x
with_some x (some M) = add_bit x M

-- the nonterminals at the next position, and those behind the close, with the rule's
abbrev pub next_with : ℕ → Rule → ℕ
next_with x R = with_some x (onward R)

abbrev pub behind_with : ℕ → Rule → ℕ
behind_with x R = with_some x (beyond R)

-- the sum of 2^L over the rules, with one rule more, which is for L
abbrev pub sum_with : ℕ → ℕ → ℕ
sum_with sum L = sum + 2 ^ L

abbrev pub ways_with : Ways → Rule → Ways
ways_with x R = record { sum = sum_with x.sum (left R); next = next_with x.next R; behind = behind_with x.behind R }

abbrev pub ways_turn : ℕ → Ways → ℕ → Context → Rule → Ways
ways_turn W x here context R = cond (keeps_at W here context R) (ways_with x R) x

abbrev pub no_ways : Ways
no_ways = record { sum = 0; next = 0; behind = 0 }

-- the ways on of those of the first n rules of a table that are in the set
unfoldable pub ways_in : ℕ → Table → ℕ → Context → ℕ → Ways
ways_in W t here context zero = no_ways
ways_in W t here context (suc n) = ways_turn W (ways_in W t here context n) here context (rule_in t n)

-- and the set of them in words
unfoldable pub words_in : ℕ → Table → ℕ → Context → ℕ → List ℕ
words_in W t here context zero = replicate 4 0
words_in W t here context (suc n) = cond (keeps_at W here context (rule_in t n)) (add_in 32 (words_in W t here context n) n) (words_in W t here context n)
