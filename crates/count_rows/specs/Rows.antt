-- Counts of each position and nonterminal: 32 numbers a position, and beside them a word a position.
-- Law: counted_next (count_rows/proofs/Pass.antt)
use Rattle.std.specs.Prelude.{ℕ, suc, ◌+◌, ◌*◌, ◌<◌, ◌≤◌, ◌≡◌, ◌⊎◌, Bool, true, false, cond, ◌&&◌, Option, Some, None, List, [], eqb, ltb, length, get_or}
use Rattle.bits.specs.Bit.{bit}
use Rattle.vpg.specs.declared.Rule.{Rule}
use Rattle.vpg.specs.declared.Token.{Token}
use Rattle.vpg.specs.believed.Grammar.{Rules, left}
use Rattle.capped.specs.Capped.{limit, cap}
use Rattle.count_theory.specs.believed.CountAt.{sum_below}
use Rattle.count_theory.specs.Allowed.{Allowed, alone_at, anywhere}
use Rattle.count_theory.specs.Counts.{Counts, given, counts_at}
use Rattle.tables.specs.declared.Head.{Head}
use Rattle.tables.specs.declared.Table.{Table}
use Rattle.tables.specs.Table.{rule_in}
use Rattle.contexts.specs.declared.Context.{Context}
use Rattle.contexts.specs.Context.{applies_to}
use Rattle.count_rows.specs.declared.Alone.{Alone}
use Rattle.count_rows.specs.declared.rows.Overs.{Overs}
use Rattle.count_rows.specs.declared.rows.Rows.{Rows}

-- the nonterminals whose count at position p is over, as the digits of a word
abbrev pub overs_at : Rows → ℕ → ℕ
overs_at rows p = get_or rows.overs p 0

-- the words of the position behind p and of that behind the close j
abbrev pub OversBehind : Rows → ℕ → ℕ → Overs → Type 0
OversBehind rows p j o = (o.inside ≡ overs_at rows (suc p)) × (o.after ≡ overs_at rows (suc j))

-- the count of L at position p; there are 1,026 positions
abbrev pub value_at : Rows → ℕ → Counts
value_at rows p L = cond (ltb p 1026) (cond (bit (overs_at rows p) L) limit (get_or (get_or rows.counts p []) L 0)) 0

-- n more for L at position p
abbrev pub added_at : (ℕ → Counts) → ℕ → ℕ → ℕ → ℕ → Counts
added_at v p L n q M = cond (eqb q p && eqb M L) (cap (v q M + n)) (v q M)

pub record Added (rows : Rows) (p L n : ℕ) (rows' : Rows) : Type 0 where
  pub values : (q M : ℕ) → M < 32 → value_at rows' q M ≡ added_at (value_at rows) p L n q M
  pub words : (q : ℕ) → (q ≡ p → ⊥) → overs_at rows' q ≡ overs_at rows q

-- any derivation of each part of a right side, by counts that are capped
abbrev pub capped_parts : Counts → Counts → Rule → ℕ
capped_parts x y (Rule.Empty M) = 1
capped_parts x y (Rule.Next M i M₁) = x M₁
capped_parts x y (Rule.Step M a M₁ b M₂) = cap (x M₁ * y M₂)

-- of a rule at position p, by the counts of the position behind it and of that behind the close j
abbrev pub parts_behind : Rows → ℕ → ℕ → Rule → ℕ
parts_behind rows p j R = capped_parts (value_at rows (suc p)) (value_at rows (suc j)) R

abbrev pub parts_at : Rows → Context → Rule → ℕ
parts_at rows p R = parts_behind rows p.position p.closing R

-- n more for L at position p where a test passes, else all as it was
abbrev pub AddedIf : Bool → Rows → ℕ → ℕ → ℕ → Rows → Type 0
AddedIf b rows p L n rows' = ((b ≡ true) × Added rows p L n rows') ⊎ ((b ≡ false) × (rows' ≡ rows))

-- which rules may stand where: one alone at its position, or any everywhere
abbrev pub allowed_by : Option Alone → Allowed
allowed_by (Some alone) = alone_at alone.position alone.rule
allowed_by None = anywhere

-- the sum of what each of the first n rules of a table that can stand here counts for; ok: which rules are allowed
unfoldable pub row_in : ℕ → Table → (ℕ → Bool) → Context → Counts → Counts → ℕ → Counts
row_in W t ok context x y n M = sum_below n (λ q. given (eqb (left (rule_in t q)) M && (ok q && applies_to W (rule_in t q) context)) (capped_parts x y (rule_in t q)))

-- position p has these counts, and all others are as they were
pub record InRow (rows : Rows) (p : ℕ) (c : Counts) (rows' : Rows) : Type 0 where
  pub here : (M : ℕ) → M < 32 → value_at rows' p M ≡ cap (c M)
  pub others : (q M : ℕ) → M < 32 → (q ≡ p → ⊥) → value_at rows' q M ≡ value_at rows q M
  pub words : (q : ℕ) → (q ≡ p → ⊥) → overs_at rows' q ≡ overs_at rows q

-- before position p there is nothing
abbrev pub Clear : Rows → ℕ → Type 0
Clear rows p = (k M : ℕ) → k < p → M < 32 → value_at rows k M ≡ 0

-- from position p on there are the counts
abbrev pub Counted : Allowed → ℕ → Rules → List Token → Rows → ℕ → Type 0
Counted ok W g w rows p = (k M : ℕ) → p ≤ k → k ≤ length w → M < 32 → value_at rows k M ≡ cap (counts_at ok W g w k M)

-- what a function that fills one position may take for granted: the position is empty, and its close stands behind it
pub record Empty (p : Context) (rows : Rows) : Type 0 where
  pub near : p.position ≤ p.closing
  pub far : p.closing < 1025
  pub none : (M : ℕ) → M < 32 → value_at rows p.position M ≡ 0

-- only the empty rules of the first n nonterminals can stand here
pub record EndsOnly (t : Table) (head : Head) (p : Context) (n : ℕ) : Type 0 where
  pub only : (q L : ℕ) → q < head.rules → (eqb (left (rule_in t q)) L && applies_to head.well (rule_in t q) p) ≡ true → (rule_in t q ≡ Rule.Empty L) × (L < n)
  pub fits : (q L : ℕ) → rule_in t q ≡ Rule.Empty L → L < n → (eqb (left (rule_in t q)) L && applies_to head.well (rule_in t q) p) ≡ true

-- and what it makes of it: the counts of the rules that can stand there, by those of the position behind the token and of that behind the close
abbrev pub Filled : Table → Head → Context → Option Alone → Rows → Rows → Type 0
Filled t head p alone rows rows' =
    InRow rows p.position
    (row_in head.well t (allowed_by alone p.position) p (value_at rows (suc p.position)) (value_at rows (suc p.closing)) head.rules)
    rows'

-- the arrays have the counts of every position
pub record Complete (ok : Allowed) (W : ℕ) (g : Rules) (w : List Token) (rows : Rows) : Type 0 where
  pub counted : Counted ok W g w rows 0
