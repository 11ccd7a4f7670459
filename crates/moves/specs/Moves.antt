-- Which rules for a nonterminal can stand at a position, and the smallest of them.
-- Law: empty_smallest (moves/proofs/Walking.antt)
use Rattle.std.specs.Prelude.{ℕ, ◌<◌, ◌≤◌, ◌≡◌, Bool, true, false, ◌&&◌, eqb}
use Rattle.vpg.specs.declared.Rule.{Rule}
use Rattle.vpg.specs.believed.Grammar.{left}
use Rattle.contexts.specs.declared.Context.{Context}
use Rattle.contexts.specs.Context.{applies_to}
use Rattle.tables.specs.declared.Head.{Head}
use Rattle.tables.specs.declared.Table.{Table}
use Rattle.tables.specs.Table.{rule_in}

-- the rule is for L and can stand here; the nonterminals below W are the well-matched ones
abbrev pub rule_fits : ℕ → Rule → ℕ → Context → Bool
rule_fits W R L context = eqb (left R) L && applies_to W R context

-- r is the smallest rule that is for L and can stand here; where there is none, it is the number of rules
pub record Smallest (t : Table) (head : Head) (L : ℕ) (context : Context) (r : ℕ) : Type 0 where
  pub most : r ≤ head.rules
  pub found : r < head.rules → rule_fits head.well (rule_in t r) L context ≡ true
  pub least : (q : ℕ) → q < r → rule_fits head.well (rule_in t q) L context ≡ false
