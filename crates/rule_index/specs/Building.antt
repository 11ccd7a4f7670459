-- The index on the way: the rules from some number on are in it. It is built from the last rule to the first.
-- Inner: index_rules (rule_index/src/lib.rt)
use Rattle.std.specs.Prelude.{ℕ, ◌+◌, ◌<◌, ◌≤◌, ◌≡◌, cond, ◌&&◌, ltb, set}
use Rattle.bits.specs.Bit.{bit, add_bit}
use Rattle.tables.specs.declared.Table.{Table}
use Rattle.tables.specs.Table.{Sized, rule_in}
use Rattle.rule_index.specs.Classes.{class_of}
use Rattle.rule_index.specs.Index.{FirstFrom, first_in, next_in, end_in}

-- two tables with the same rules
pub record SameRules (t u : Table) : Type 0 where
  pub size : Sized u
  pub rules : u.rules ≡ t.rules

-- the rules from number k on are in their chains
pub record IndexedFrom (t : Table) (rules k : ℕ) : Type 0 where
  pub firsts : (c : ℕ) → c < 256 → FirstFrom t rules c k (first_in t c)
  pub nexts : (q : ℕ) → k ≤ q → q < rules → FirstFrom t rules (class_of (rule_in t q)) (q + 1) (next_in t q)

-- rule r before the chain of its class
abbrev pub linked : Table → ℕ → ℕ → Table
linked t class r = record {
  rules = t.rules;
  first = set t.first class r;
  next = set t.next r (first_in t class);
  ends = t.ends;
  low_ends = t.low_ends;
  inside = t.inside;
  after = t.after;
}

-- the digits that rule r asks for, written down
abbrev pub with_goals : Table → ℕ → ℕ → ℕ → Table
with_goals t r inside after = record {
  rules = t.rules;
  first = t.first;
  next = t.next;
  ends = t.ends;
  low_ends = t.low_ends;
  inside = set t.inside r inside;
  after = set t.after r after;
}

-- the word with nonterminal L, where L has an empty rule
abbrev pub with_end : Table → ℕ → ℕ → ℕ → ℕ
with_end t rules word L = cond (ltb (end_in t L) rules) (add_bit word L) word

-- the nonterminals below n that have an empty rule
abbrev pub EndsBelow : Table → ℕ → ℕ → ℕ → Type 0
EndsBelow t rules n word = (L : ℕ) → bit word L ≡ (ltb L n && ltb (end_in t L) rules)
