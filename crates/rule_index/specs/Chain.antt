-- The rules of a class as a list, in rising order.
-- Law: begins, chain_is, hands_out (rule_index/proofs/Listed.antt)
use Rattle.std.specs.Prelude.{ℕ, zero, suc, ◌-◌, cond, List, [], ◌∷◌}
use lib.Dec.{eqb}
use Rattle.tables.specs.declared.Table.{Table}
use Rattle.tables.specs.Table.{rule_in}
use Rattle.rule_index.specs.Classes.{class_of}

-- those among the d rules from number k on
abbrev pub rules_among : Table → ℕ → ℕ → ℕ → List ℕ
rules_among t c k zero = []
rules_among t c k (suc d) = cond (eqb (class_of (rule_in t k)) c) (k ∷ rules_among t c (suc k) d) (rules_among t c (suc k) d)

-- those among the rules of a table from number k on
abbrev pub rules_from : Table → (rules c k : ℕ) → List ℕ
rules_from t rules c k = rules_among t c k (rules - k)
