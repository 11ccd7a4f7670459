-- What a table of numbers says of the rules that were written into it.
use Prim.Native.Nat.{ℕ, zero, suc, ◌+◌, ◌<◌, ◌≤◌}
use mathlib.Core.Path.{◌≡◌, refl, sym, ap, ◌∙◌}
use mathlib.Core.Logic.{⊎_elim}
use mathlib.Core.Bool.{Bool, true, false, cond}
use mathlib.Core.List.{List, [], ◌∷◌, ◌++◌}
use mathlib.Core.Option.{some, some-injective}
use native.Mathlib.Omega.{arith}
use native.Mathlib.Numerals.{add-one}
use native.Mathlib.Nat.{add-zero, zero-add, eq-or-lt_of_le, le_of_suc-le-suc}
use borrow.Author.Tests.{eq-eqb, ne_eqb}
use lib.Dec.{eqb}
use lib.ListN.{length, get_or, get_elem?, length-set, length-append, get_or-append}
use lib.Seq.{get_or-set_same, get_or-set_other, ext_get_or}
use Rattle.vpg.specs.declared.Rule.{Rule}
use Rattle.vpg.specs.declared.Token.{Token}
use Rattle.vpg.specs.believed.Grammar.{General, left}
use Rattle.laws.proofs.Lists.{at_left, at_below}
use Rattle.tables.specs.declared.Head.{Head}
use Rattle.tables.specs.declared.Six.{Six}
use Rattle.tables.specs.declared.Table.{Table}
use Rattle.tables.specs.Ready.{Ready}
use Rattle.tables.specs.Table.{token_by, six_of, no_table, no_six, six_in, rule_from, rule_in, rules_in, put_six, fill, table_of}

six_low : (t : Table) (k j : ℕ) (v : Six) → j < k → six_in (put_six t k v) j ≡ six_in t j
six_low t k j v h = get_or-set_other t.rules k j v no_six (omega arith)

six_same : (t : Table) (k : ℕ) (v : Six) → k < length t.rules → six_in (put_six t k v) k ≡ v
six_same t k v h = get_or-set_same t.rules k v no_six h

-- a rule comes back from its six numbers
pub from_of : (r : Rule) → rule_from (six_of r) ≡ r
from_of (Rule.Empty l) = refl
from_of (Rule.Next l (Token.Mark c) l1) = refl
from_of (Rule.Next l (Token.Open a) l1) = refl
from_of (Rule.Next l (Token.Close b) l1) = refl
from_of (Rule.Step l a l1 b l2) = refl

-- the nonterminal that a rule is for is the second of its numbers
left-from : (v : Six) → left (rule_from v) ≡ v.1
left-from v = go (eqb v.0 0) (eqb v.0 2)
  where
    go : (empty step : Bool) → left (cond empty (Rule.Empty v.1) (cond step (Rule.Step v.1 (record { 0 = v.2 }) v.3 (record { 0 = v.4 }) v.5) (Rule.Next v.1 (token_by v.0 v.2) v.3))) ≡ v.1
    go true step = refl
    go false true = refl
    go false false = refl

pub left_in : (t : Table) (k : ℕ) → left (rule_in t k) ≡ (six_in t k).1
unfolding rule_in
left_in t k = left-from (six_in t k)

-- what the first number says of a rule
pub rule_empty : (t : Table) (k : ℕ) (v : Six) → v ≡ six_in t k → v.0 ≡ 0 → rule_in t k ≡ Rule.Empty v.1
unfolding rule_in
rule_empty t k v e z = sym (ap rule_from e) ∙ rw (eq-eqb v.0 0 z)

pub rule_step : (t : Table) (k : ℕ) (v : Six) → v ≡ six_in t k → v.0 ≡ 2 → rule_in t k ≡ Rule.Step v.1 (record { 0 = v.2 }) v.3 (record { 0 = v.4 }) v.5
unfolding rule_in
rule_step t k v e z = sym (ap rule_from e) ∙ rw z

pub rule_next : (t : Table) (k : ℕ) (v : Six) → v ≡ six_in t k → (v.0 ≡ 0 → ⊥) → (v.0 ≡ 2 → ⊥) → rule_in t k ≡ Rule.Next v.1 (token_by v.0 v.2) v.3
unfolding rule_in
rule_next t k v e y z = sym (ap rule_from e) ∙ rw (ne_eqb v.0 0 y, ne_eqb v.0 2 z)

pub left_of_six : (r : Rule) → (six_of r).1 ≡ left r
left_of_six (Rule.Empty l) = refl
left_of_six (Rule.Next l i l1) = refl
left_of_six (Rule.Step l a l1 b l2) = refl

pub rule_low : (t : Table) (k j : ℕ) (v : Six) → j < k → rule_in (put_six t k v) j ≡ rule_in t j
unfolding rule_in
rule_low t k j v h = ap rule_from (six_low t k j v h)

pub rule_same : (t : Table) (k : ℕ) (r : Rule) → k < length t.rules → rule_in (put_six t k (six_of r)) k ≡ r
unfolding rule_in
rule_same t k r h = ap rule_from (six_same t k (six_of r) h) ∙ from_of r

rules_low : (t : Table) (k : ℕ) (v : Six) (n : ℕ) → n ≤ k → rules_in (put_six t k v) n ≡ rules_in t n
unfolding rules_in
rules_low t k v zero h = refl
rules_low t k v (suc n) h = rw (rules_low t k v n (omega arith), rule_low t k n v h)

-- a rule written behind the first k
pub rules_put : (t : Table) (k : ℕ) (r : Rule) → k < length t.rules → rules_in (put_six t k (six_of r)) (k + 1) ≡ rules_in t k ++ (r ∷ [])
unfolding rules_in
rules_put t k r h = rw (add-one k, rules_low t k (six_of r) k (omega arith), rule_same t k r h)

pub length_rules : (t : Table) (n : ℕ) → length (rules_in t n) ≡ n
unfolding rules_in
length_rules t zero = refl
length_rules t (suc n) = rw (length-append, length_rules t n, add-one)

fill_snoc : (t : Table) (k : ℕ) (rs : List Rule) (r : Rule) → fill t k (rs ++ (r ∷ [])) ≡ put_six (fill t k rs) (k + length rs) (six_of r)
unfolding fill
fill_snoc t k [] r = rw add-zero
fill_snoc t k (x ∷ rs) r =
    let e : k + suc (length rs) ≡ k + 1 + length rs = omega arith in
    rw e (fill_snoc (put_six t k (six_of x)) (k + 1) rs r)

pub table_snoc : (rs : List Rule) (r : Rule) → table_of (rs ++ (r ∷ [])) ≡ put_six (table_of rs) (length rs) (six_of r)
unfolding table_of
table_snoc rs r = rw (← zero-add (length rs)) (fill_snoc _ 0 rs r)

-- the table after a turn
pub table_next : (t u : Table) (k : ℕ) (r : Rule) → k < length t.rules → t ≡ table_of (rules_in t k) → u ≡ put_six t k (six_of r) → u ≡ table_of (rules_in u (k + 1))
table_next t u k r h e p = rw (p, rules_put t k r h, table_snoc, length_rules, ← e)

pub length-put : (t : Table) (k : ℕ) (v : Six) → length (put_six t k v).rules ≡ length t.rules
length-put t k v = length-set t.rules k v

fill_low : (rs : List Rule) (t : Table) (k j : ℕ) → j < k → rule_in (fill t k rs) j ≡ rule_in t j
unfolding fill
fill_low [] t k j h = refl
fill_low (r ∷ rs) t k j h = fill_low rs (put_six t k (six_of r)) (k + 1) j (omega arith) ∙ rule_low t k j (six_of r) h

fill-at : (rs : List Rule) (t : Table) (k j : ℕ) (d : Rule) → k + length rs ≤ length t.rules → j < length rs → rule_in (fill t k rs) (k + j) ≡ get_or rs j d
unfolding fill
fill-at [] t k j d room h = absurd (omega arith)
fill-at (r ∷ rs) t k zero d room h = rw add-zero (fill_low rs (put_six t k (six_of r)) (k + 1) k (omega arith) ∙ rule_same t k r (omega arith))
fill-at (r ∷ rs) t k (suc j) d room h =
    let e : k + suc j ≡ k + 1 + j = omega arith in
    rw e (fill-at rs (put_six t k (six_of r)) (k + 1) j d (rw length-put (omega arith)) (omega arith))

-- the k-th rule of a table is the k-th of the list
pub table_rule : (rs : List Rule) (k : ℕ) (d : Rule) → length rs ≤ 128 → k < length rs → rule_in (table_of rs) k ≡ get_or rs k d
unfolding table_of
table_rule rs k d few h = rw (zero-add k) at (fill-at rs no_table 0 k d (omega arith) h)

-- the last of a list with one element more
at_seam : {A : Type 0} (l : List A) (x : A) (r : ℕ) → r ≡ length l → get_elem? (l ++ (x ∷ [])) r ≡ some x
at_seam [] x r e = rw e
at_seam (y ∷ l) x r e = rw e (at_seam l x (length l) refl)

get_or-seam : {A : Type 0} (l : List A) (x d : A) (r : ℕ) → r ≡ length l → get_or (l ++ (x ∷ [])) r d ≡ x
get_or-seam [] x d r e = rw e
get_or-seam (y ∷ l) x d r e = rw e (get_or-seam l x d (length l) refl)

-- rule r of the first n
pub rules_at : (t : Table) (n r : ℕ) → r < n → get_elem? (rules_in t n) r ≡ some (rule_in t r)
unfolding rules_in
rules_at t zero r h = absurd (omega arith)
rules_at t (suc n) r h =
    ⊎_elim (λ e. at_seam (rules_in t n) (rule_in t n) r (e ∙ sym (length_rules t n)) ∙ ap (λ (k : ℕ). some (rule_in t k)) (sym e)) (λ l. at_left (rules_in t n) (rule_in t n ∷ []) r (rules_at t n r l)) (eq-or-lt_of_le (le_of_suc-le-suc h))

pub rules_below : (t : Table) (n r : ℕ) {R : Rule} → get_elem? (rules_in t n) r ≡ some R → r < n
rules_below t n r e = rw length_rules at (at_below (rules_in t n) r e)

rules_get_d : (t : Table) (n r : ℕ) (d : Rule) → r < n → get_or (rules_in t n) r d ≡ rule_in t r
unfolding rules_in
rules_get_d t zero r d h = absurd (omega arith)
rules_get_d t (suc n) r d h =
    ⊎_elim (λ e. get_or-seam (rules_in t n) (rule_in t n) d r (e ∙ sym (length_rules t n)) ∙ ap (rule_in t) (sym e))
    (λ l. get_or-append (rules_in t n) (rule_in t n ∷ []) d r (rw length_rules l) ∙ rules_get_d t n r d l)
    (eq-or-lt_of_le (le_of_suc-le-suc h))

-- a table of rules has these rules
pub rules_table : (rs : List Rule) → length rs ≤ 128 → rules_in (table_of rs) (length rs) ≡ rs
rules_table rs few =
    ext_get_or (Rule.Empty 0) (rules_in (table_of rs) (length rs)) rs (length_rules (table_of rs) (length rs))
    (λ i h. let l : i < length rs = rw length_rules at h in rules_get_d (table_of rs) (length rs) i (Rule.Empty 0) l ∙ table_rule rs i (Rule.Empty 0) few l)

-- the rules of a table that is ready are as Definition 2.2 has them
pub ready_general : (t : Table) (head : Head) → Ready t head → General head.well (rules_in t head.rules)
ready_general t head h r R e =
    let l = rules_below t head.rules r e in
    rw (some-injective (rule_in t r) R (sym (rules_at t head.rules r l) ∙ e)) at (h.forms r l)
