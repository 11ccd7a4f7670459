-- What reading a rule at a place finds, over any way to read the number at a place (document 01, "The two files": "each rule: its form,
-- then L; or L c L1; or L a L1 b L2", and refusals 5, 6 and 7).
-- Clauses: 5.3, 6.4 (docs/SPECIFICATION.md)
use Rattle.std.specs.Prelude.{ℕ, cond, eqb, Result, Ok, Err}
use Rattle.refusal.specs.declared.Refusal.{Refusal}
use Rattle.numbers.specs.believed.Number.{Read}
use Rattle.numbers.specs.believed.Field.{field_at}
use Rattle.vpg.specs.declared.Rule.{Rule}
use Rattle.vpg.specs.declared.Token.{Token}

-- two numbers and the place behind them; or the refusal
abbrev pub PairRead : Type 0
PairRead = Result (ℕ × ℕ × ℕ) Refusal

-- 7: "names above 65,535" (document 02, 2.4)
abbrev pub names : ℕ
names = 65536

-- 5: "form above 2"
abbrev pub forms : ℕ
forms = 3

-- "the first fault met in file order is the one given": a refusal stands, and what follows it is not read. So too `second`, `after`
abbrev pub first : Read ℕ → (ℕ → ℕ → PairRead) → PairRead
first (Ok (a, p)) rest = rest a p
first (Err e) rest = Err e

abbrev pub second : ℕ → Read ℕ → PairRead
second a (Ok (b, p)) = Ok (a, b, p)
second a (Err e) = Err e

-- a number below the limit, then a nonterminal; 6: "a stage number not below the stage count"
unfoldable pub pair_at : (ℕ → Read ℕ) → ℕ → ℕ → Refusal → ℕ → PairRead
pair_at number at limit refusal nonterminals =
    first (field_at number at limit refusal) λ a next. second a (field_at number next nonterminals Refusal.Stage)

abbrev pub after : PairRead → (ℕ → ℕ → ℕ → Read Rule) → Read Rule
after (Ok (a, b, p)) rest = rest a b p
after (Err e) rest = Err e

-- L a L₁ is read: b L₂
unfoldable pub step_at : (ℕ → Read ℕ) → ℕ → ℕ → ℕ → ℕ → ℕ → Read Rule
step_at number at nonterminals from name to =
    after (pair_at number at names Refusal.Name nonterminals) λ close last next.
    Ok (Rule.Step from (record { 0 = name }) to (record { 0 = close }) last, next)

-- the form and L are read: c L₁, or a L₁ and the rest
unfoldable pub body_at : (ℕ → Read ℕ) → ℕ → ℕ → ℕ → ℕ → Read Rule
body_at number at nonterminals form from =
    after (pair_at number at names Refusal.Name nonterminals) λ name to next.
    cond (eqb form 1) (Ok (Rule.Next from (Token.Mark (record { 0 = name })) to, next)) (step_at number next nonterminals from name to)

-- "its form, then L; or L c L1; or L a L1 b L2": the form and L, then what the form asks for
unfoldable pub rule_at : (ℕ → Read ℕ) → ℕ → ℕ → Read Rule
rule_at number at nonterminals =
    after (pair_at number at forms Refusal.Form nonterminals) λ form from next.
    cond (eqb form 0) (Ok (Rule.Empty from, next)) (body_at number next nonterminals form from)
