-- The walk over the tokens: what is due behind each pending close.
-- Law: walking_next (kth_run/proofs/Walking.antt)
use Rattle.std.specs.Prelude.{ℕ, suc, ◌*◌, ◌<◌, ◌≡◌, Bool, true, false, cond, Option, Some, List, [], ◌∷◌, ltb, length, drop, get_or}
use Rattle.vpg.specs.declared.Rule.{Rule}
use Rattle.vpg.specs.declared.Token.{Token}
use Rattle.vpg.specs.believed.Grammar.{Rules}
use Rattle.vpg.specs.Runs.{Stack, runs}
use Rattle.capped.specs.Capped.{limit, cap, value}
use Rattle.level_theory.specs.Masks.{Calm}
use Rattle.level_theory.specs.Pending.{Closes}
use Rattle.count_theory.specs.Allowed.{Allowed}
use Rattle.count_theory.specs.Counts.{Counts, counts, weight}
use Rattle.count_theory.specs.Kth.{Free, size}
use Rattle.count_theory.specs.Kth as kth
use Rattle.count_rows.specs.declared.rows.Rows.{Rows}
use Rattle.count_rows.specs.Rows.{Complete}
use Rattle.kth_run.specs.declared.Sought.{Sought}
use Rattle.kth_run.specs.declared.Found.{Found}

-- what is due at the next position, where rule R is chosen. Behind the close of a step stand x M₂ derivations of its level's rest, each with all that
-- is due behind that; old: what was due behind the close that ends the level there
abbrev pub due_with : Rule → Counts → ℕ → ℕ → ℕ
due_with (Rule.Empty M) x due old = old
due_with (Rule.Next M i M₁) x due old = due
due_with (Rule.Step M a M₁ b M₂) x due old = cap (x M₂ * due)

-- the rule that the run of a number has at position p, by arrays of counts of all runs, whatever stack is due, if its count is known
abbrev pub Chosen : ℕ → Rules → List Token → Rows → ℕ → Sought → Found → Type 0
Chosen W g w rows p sought x =
    (ok : Allowed) (s : Stack) → Calm W sought.nonterminal s → Complete ok W g w rows → Free ok W g w (suc p) →
    value sought.due ≡ cap (weight W sought.nonterminal s (counts ok W g p (drop p w)).1) →
    sought.number < limit → sought.number < length (runs g (sought.nonterminal, s) (drop p w)) →
    kth.Located (size ok W g w p (sought.nonterminal, s)) g sought.number x.rule x.number

-- ── what is due behind the pending closes ──

-- f: the nonterminal behind each close, C: the counts of each position; the product over the levels that are due below L
abbrev pub due_product : ℕ → (ℕ → Counts) → (ℕ → ℕ) → Closes → ℕ → ℕ
due_product W C f [] L = 1
due_product W C f (d ∷ l) L = cond (ltb L W) (C (suc d.1) (f d.1) * due_product W C f l (f d.1)) 1

abbrev pub IfTrue : Bool → Type 0 → Type 0
IfTrue true P = P
IfTrue false P = Unit

-- v has it, capped, for the first pending close and for each behind it that is due; at n there is none
abbrev pub Dues : ℕ → (ℕ → Counts) → (ℕ → ℕ) → (ℕ → ℕ) → ℕ → Closes → ℕ → Type 0
Dues W C f v n [] L = v n ≡ 1
Dues W C f v n (d ∷ l) L = (v d.1 ≡ cap (due_product W C f (d ∷ l) L)) × IfTrue (ltb L W) (Dues W C f v n l (f d.1))

-- the values of counts in an array, and the numbers of another
abbrev pub count_in : List (Option ℕ) → ℕ → ℕ
count_in dues j = value (get_or dues j (Some 0))

abbrev pub number_in : List ℕ → ℕ → ℕ
number_in f j = get_or f j 0
