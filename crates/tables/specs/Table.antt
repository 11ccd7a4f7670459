-- A table of rules, six numbers to a rule: the form, the fields in file order, and zeros.
-- Law: earlier_is (tables/proofs/Earlier.antt)
use Rattle.std.specs.Prelude.{ℕ, zero, suc, ◌+◌, ◌≡◌, List, [], ◌∷◌, ◌++◌, Bool, false, cond, ◌&&◌, ◌||◌, length, get_or, set, replicate, eqb}
use Rattle.vpg.specs.declared.Rule.{Rule}
use Rattle.vpg.specs.declared.Token.{Token}
use Rattle.vpg.specs.Forms.{form_of, name_of}
use Rattle.tables.specs.declared.Six.{Six}
use Rattle.tables.specs.declared.Table.{Table}

abbrev pub six_of : Rule → Six
six_of (Rule.Empty l) = record { 0 = 0; 1 = l; 2 = 0; 3 = 0; 4 = 0; 5 = 0 }
six_of (Rule.Next l i l1) = record { 0 = form_of i; 1 = l; 2 = name_of i; 3 = l1; 4 = 0; 5 = 0 }
six_of (Rule.Step l a l1 b l2) = record { 0 = 2; 1 = l; 2 = a.0; 3 = l1; 4 = b.0; 5 = l2 }

-- the token that a rule of the form takes alone
abbrev pub token_by : ℕ → ℕ → Token
token_by form name = cond (eqb form 3) (Token.Open (record { 0 = name })) (cond (eqb form 4) (Token.Close (record { 0 = name })) (Token.Mark (record { 0 = name })))

abbrev pub rule_from : Six → Rule
rule_from v =
    cond (eqb v.0 0)
    (Rule.Empty v.1)
    (cond (eqb v.0 2)
    (Rule.Step v.1 (record { 0 = v.2 }) v.3 (record { 0 = v.4 }) v.5)
    (Rule.Next v.1 (token_by v.0 v.2) v.3))

abbrev pub no_six : Six
no_six = record { 0 = 0; 1 = 0; 2 = 0; 3 = 0; 4 = 0; 5 = 0 }

-- the table of no rules and no index
abbrev pub no_table : Table
no_table = record {
  rules = replicate 128 no_six;
  first = replicate 256 0;
  next = replicate 128 0;
  ends = 0;
  low_ends = 0;
  inside = replicate 128 0;
  after = replicate 128 0;
}

-- so many places as the type of a table says
pub record Sized (t : Table) : Type 0 where
  pub rules : length t.rules ≡ 128
  pub first : length t.first ≡ 256
  pub next : length t.next ≡ 128
  pub inside : length t.inside ≡ 128
  pub after : length t.after ≡ 128

-- the six numbers of rule k
abbrev pub six_in : Table → ℕ → Six
six_in t k = get_or t.rules k no_six

-- the rule of number k
unfoldable pub rule_in : Table → ℕ → Rule
rule_in t k = rule_from (six_in t k)

-- the first n rules
unfoldable pub rules_in : Table → ℕ → List Rule
rules_in t zero = []
rules_in t (suc n) = rules_in t n ++ (rule_in t n ∷ [])

-- the table with other rules and the same index
abbrev pub with_rules : Table → List Six → Table
with_rules t rules = record { rules = rules; first = t.first; next = t.next; ends = t.ends; low_ends = t.low_ends; inside = t.inside; after = t.after }

abbrev pub put_six : Table → ℕ → Six → Table
put_six t k v = with_rules t (set t.rules k v)

-- the rules from number k on, written one after another
unfoldable pub fill : Table → ℕ → List Rule → Table
fill t k [] = t
fill t k (r ∷ rs) = fill (put_six t k (six_of r)) (k + 1) rs

-- the table of at most 128 rules
unfoldable pub table_of : List Rule → Table
table_of rs = fill no_table 0 rs

abbrev pub same_six : Six → Six → Bool
same_six a b =
    eqb a.0 b.0 && (eqb a.1 b.1 && (eqb a.2 b.2 && (eqb a.3 b.3 && (eqb a.4 b.4 && eqb a.5 b.5))))

-- 8: "equal in form and all fields" (`same_rule_is`: the two rules are one)
unfoldable pub same_rule : Rule → Rule → Bool
same_rule r x = same_six (six_of r) (six_of x)

-- r is one of the rules
unfoldable pub earlier : Rule → List Rule → Bool
earlier r [] = false
earlier r (x ∷ xs) = same_rule r x || earlier r xs
