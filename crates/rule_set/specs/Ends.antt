-- The ways on where empty rules alone can stand.
-- Law: ways_ends (rule_set/proofs/Ends.antt)
use Rattle.std.specs.Prelude.{ℕ, ◌<◌, ◌≡◌, true, ◌&&◌, eqb}
use Rattle.std.specs.Int.Bits.{bit_and}
use Rattle.bits.specs.Bit.{bit}
use Rattle.vpg.specs.declared.Rule.{Rule}
use Rattle.vpg.specs.believed.Grammar.{left}
use Rattle.tables.specs.declared.Head.{Head}
use Rattle.tables.specs.declared.Table.{Table}
use Rattle.tables.specs.Table.{rule_in}
use Rattle.rule_index.specs.Index.{ends_in}
use Rattle.contexts.specs.declared.Context.{Context}
use Rattle.contexts.specs.Context.{applies_to}
use Rattle.rule_set.specs.declared.Ways.{Ways}

-- `ends` are the nonterminals that have an empty rule: one rule for each of them that can stand here, and it leads nowhere
abbrev pub end_ways : ℕ → ℕ → Ways
end_ways here ends = record { sum = bit_and here ends; next = 0; behind = 0 }

-- the nonterminals of a word have empty rules
abbrev pub Among : Table → ℕ → Type 0
Among t ends = (L : ℕ) → bit ends L ≡ true → bit (ends_in t) L ≡ true

-- only the empty rules of these nonterminals can stand here
pub record Only (t : Table) (head : Head) (p : Context) (ends : ℕ) : Type 0 where
  pub only : (q L : ℕ) → q < head.rules → (eqb (left (rule_in t q)) L && applies_to head.well (rule_in t q) p) ≡ true → (rule_in t q ≡ Rule.Empty L) × (bit ends L ≡ true)
  pub fits : (q L : ℕ) → rule_in t q ≡ Rule.Empty L → bit ends L ≡ true → (eqb (left (rule_in t q)) L && applies_to head.well (rule_in t q) p) ≡ true
