-- The search over the rules at one position.
-- Law: chosen (kth_run/proofs/Chosen.antt)
use Rattle.std.specs.Prelude.{ℕ, ◌+◌, ◌*◌, ◌<◌, ◌≡◌}
use Rattle.capped.specs.Capped.{cap, value}
use Rattle.tables.specs.declared.Head.{Head}
use Rattle.tables.specs.declared.Table.{Table}
use Rattle.tables.specs.Table.{rule_in}
use Rattle.contexts.specs.declared.Context.{Context}
use Rattle.moves.specs.Moves.{rule_fits}
use Rattle.count_theory.specs.believed.CountAt.{sum_below}
use Rattle.count_theory.specs.Counts.{given}
use Rattle.count_rows.specs.declared.rows.Rows.{Rows}
use Rattle.count_rows.specs.Rows.{parts_at}
use Rattle.kth_run.specs.declared.Sought.{Sought}
use Rattle.kth_run.specs.declared.Found.{Found}

-- how many runs have rule q of a table at a position, capped: none where it doesn't fit; the nonterminals below W are the well-matched ones
abbrev pub size_in : Table → ℕ → Sought → Context → Rows → ℕ → ℕ
size_in t W sought context rows q = given (rule_fits W (rule_in t q) sought.nonterminal context) (cap (parts_at rows context (rule_in t q) * value sought.due))

-- number k among those of all rules is number i among those of rule r, where rule q has f q of them
pub record LocatedIn (rules : ℕ) (f : ℕ → ℕ) (k r i : ℕ) : Type 0 where
  pub below : r < rules
  pub skipped : sum_below r f + i ≡ k
  pub inside : i < f r

-- what a search finds, if there are so many
abbrev pub Finds : Table → Head → Sought → Context → Rows → Found → Type 0
Finds t head sought context rows x =
    sought.number < sum_below head.rules (size_in t head.well sought context rows) → LocatedIn head.rules (size_in t head.well sought context rows) sought.number x.rule x.number
