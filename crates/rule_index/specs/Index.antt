-- The index beside the rules of a table: for each class its rules in rising order, each with the next one.
-- Law: passed (rule_index/proofs/Chains.antt)
use Rattle.std.specs.Prelude.{ℕ, ◌+◌, ◌<◌, ◌≤◌, ◌≡◌, ◌≢◌, ◌&&◌, ltb, get_or}
use Rattle.bits.specs.Bit.{bit}
use Rattle.vpg.specs.declared.Rule.{Rule}
use Rattle.tables.specs.declared.Head.{Head}
use Rattle.tables.specs.declared.Table.{Table}
use Rattle.tables.specs.Table.{Sized, rule_in}
use Rattle.tables.specs.Ready.{Ready}
use Rattle.rule_index.specs.Classes.{empty_class, class_of}
use Rattle.rule_index.specs.Goals.{inside_goal, after_goal}

-- the first rule of a class
abbrev pub first_in : Table → ℕ → ℕ
first_in t c = get_or t.first c 0

-- the rule behind rule r in its class
abbrev pub next_in : Table → ℕ → ℕ
next_in t r = get_or t.next r 0

-- the empty rule of a nonterminal
abbrev pub end_in : Table → ℕ → ℕ
end_in t L = first_in t (empty_class L)

-- the nonterminals that have an empty rule, as the digits of a word
abbrev pub ends_in : Table → ℕ
ends_in t = t.ends

-- the well-matched ones among them: those that can end before a close
abbrev pub low_ends_in : Table → ℕ
low_ends_in t = t.low_ends

-- which digits rule r asks for, behind its token and behind the close of its step
abbrev pub inside_in : Table → ℕ → ℕ
inside_in t r = get_or t.inside r 0

abbrev pub after_in : Table → ℕ → ℕ
after_in t r = get_or t.after r 0

-- n is the first rule from number k on that is of class c; where there is none, it is the number of rules
pub record FirstFrom (t : Table) (rules c k n : ℕ) : Type 0 where
  pub from : k ≤ n
  pub most : n ≤ rules
  pub of_class : n < rules → class_of (rule_in t n) ≡ c
  pub none : (q : ℕ) → k ≤ q → q < n → class_of (rule_in t q) ≢ c

-- n is the first empty rule of L; where there is none, it is the number of rules
pub record FirstEmpty (t : Table) (rules L n : ℕ) : Type 0 where
  pub most : n ≤ rules
  pub found : n < rules → rule_in t n ≡ Rule.Empty L
  pub none : (q : ℕ) → q < n → rule_in t q ≢ Rule.Empty L

-- the digits that the first n rules ask for
pub record Goals (t : Table) (head : Head) (n : ℕ) : Type 0 where
  pub inside : (r : ℕ) → r < n → inside_in t r ≡ inside_goal head.well (rule_in t r)
  pub after : (r : ℕ) → r < n → after_in t r ≡ after_goal head.well (rule_in t r)

-- a table that the layers above can work on, and its index
pub record Indexed (t : Table) (head : Head) : Type 0 where
  pub ready : Ready t head
  pub size : Sized t
  pub firsts : (c : ℕ) → c < 256 → FirstFrom t head.rules c 0 (first_in t c)
  pub nexts : (r : ℕ) → r < head.rules → FirstFrom t head.rules (class_of (rule_in t r)) (r + 1) (next_in t r)
  pub ends : (L : ℕ) → L < 32 → FirstEmpty t head.rules L (end_in t L)
  pub mask : (L : ℕ) → bit (ends_in t) L ≡ (ltb L 32 && ltb (end_in t L) head.rules)
  pub low : (L : ℕ) → bit (low_ends_in t) L ≡ (ltb L head.well && ltb (end_in t L) head.rules)
  pub goals : Goals t head head.rules
