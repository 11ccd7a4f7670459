-- What a grammar file says, or the first fault met in file order (document 01, "The two files" and refusals 1 to 9; document 02, 2.3).
-- Clauses: 2.1, 2.3, 5.3, 5.5, 6.4 (docs/SPECIFICATION.md)
use Rattle.std.specs.Prelude.{ℕ, zero, suc, cond, List, [], ◌∷◌, ◌++◌, eqb, Ok, Err}
use Rattle.refusal.specs.declared.Refusal.{Refusal}
use Rattle.refusal.specs.believed.Refusal.{number}
use Rattle.numbers.specs.believed.Number.{Read, Source, bytes}
use Rattle.numbers.specs.believed.Field.{field_at, count_at}
use Rattle.rules.specs.believed.Rule.{rule_at}
use Rattle.tables.specs.Table.{earlier}
use Rattle.vpg.specs.declared.Rule.{Rule}
use Rattle.vpg.specs.believed.Grammar.{Grammar}

-- the grammar, or the number of the refusal
pub data GrammarFile : Type 0 where
  accepted : Grammar → GrammarFile
  refused : ℕ → GrammarFile

-- a refusal stands, and what follows it is not read
abbrev pub after : {A : Type 0} → Read A → (A → ℕ → GrammarFile) → GrammarFile
after (Ok (x, next)) rest = rest x next
after (Err e) rest = refused (number e)

-- the rules still due, from a place to the end, after those read so far. 8: "a rule equal in form and all fields to an earlier rule",
-- "8 after a rule's last field"; 9: "bytes follow the last rule"
unfoldable pub rules_from : Source → ℕ → ℕ → ℕ → ℕ → List Rule → GrammarFile
rules_from x nonterminals start zero at rules =
    cond (x.more at) (refused 9) (accepted (record { nonterminals = nonterminals; well = nonterminals; start = start; rules = rules }))
rules_from x nonterminals start (suc due) at rules =
    after (rule_at x.number at nonterminals) λ r next.
    cond (earlier r rules) (refused 8) (rules_from x nonterminals start due next (rules ++ (r ∷ [])))

-- "rule count (1 to 128), then each rule". 4: "rule count not 1 to 128"
abbrev pub counted_from : Source → ℕ → ℕ → ℕ → GrammarFile
counted_from x at nonterminals start = after (count_at x.number at 128 Refusal.RuleCount) λ due next. rules_from x nonterminals start due next []

-- "stage count (1 to 32)", rule count, rules; "stage 0 is the start". 3: "stage count not 1 to 32"
abbrev pub without_start : Source → GrammarFile
without_start x = after (count_at x.number 0 32 Refusal.StageCount) λ nonterminals next. counted_from x next nonterminals 0

-- behind a leading 0: "stage count, start stage, rule count and rules" (document 02, 2.3). 6: "a start not below the stage count"; "a stage
-- count of 0 after the leading 0 still gets 3"
abbrev pub with_start : Source → ℕ → GrammarFile
with_start x at =
    after (count_at x.number at 32 Refusal.StageCount) λ nonterminals next.
    after (field_at x.number next nonterminals Refusal.Stage) λ start behind.
    counted_from x behind nonterminals start

-- whether the first number is the 0
abbrev pub either : Read ℕ → (ℕ → GrammarFile) → GrammarFile → GrammarFile
either (Ok (n, next)) long short = cond (eqb n 0) (long next) short
either (Err e) long short = short

-- "a grammar file may begin with a 0 ..; files without the 0 still start at stage 0" (document 02, 2.3)
unfoldable pub grammar_from : Source → GrammarFile
grammar_from x = either (x.number 0) (with_start x) (without_start x)

-- of the bytes of a file
abbrev pub grammar_of : List ℕ → GrammarFile
grammar_of s = grammar_from (bytes s)
