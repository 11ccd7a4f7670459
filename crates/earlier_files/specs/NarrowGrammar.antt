-- What a grammar file said while names went to 63 (documents 01, "The two files", and 02, 2.3): the definitions as they stood then.
-- Law: grammar_widened, grammar_keeps_its_meaning (earlier_files/proofs/WideGrammars.antt)
use Rattle.std.specs.Prelude.{ℕ, zero, suc, cond, List, [], ◌∷◌, ◌++◌, eqb, Ok}
use Rattle.refusal.specs.declared.Refusal.{Refusal}
use Rattle.numbers.specs.believed.Number.{Read, Source}
use Rattle.numbers.specs.believed.Field.{field_at, count_at}
use Rattle.rules.specs.believed.Rule.{forms, pair_at, after}
use Rattle.tables.specs.Table.{earlier}
use Rattle.vpg.specs.declared.Rule.{Rule}
use Rattle.vpg.specs.declared.Token.{Token}
use Rattle.grammar_file.specs.believed.GrammarFile.{GrammarFile, accepted, refused, after as after_read, either}

-- 7: "a name above 63"
abbrev pub narrow_names : ℕ
narrow_names = 64

-- "L a L1 b L2": b L2
unfoldable pub step_narrow : (ℕ → Read ℕ) → ℕ → ℕ → ℕ → ℕ → ℕ → Read Rule
step_narrow number at nonterminals from name to =
    after (pair_at number at narrow_names Refusal.Name nonterminals) λ close last next.
    Ok (Rule.Step from (record { 0 = name }) to (record { 0 = close }) last, next)

-- c L1, or a L1 and the rest
unfoldable pub body_narrow : (ℕ → Read ℕ) → ℕ → ℕ → ℕ → ℕ → Read Rule
body_narrow number at nonterminals form from =
    after (pair_at number at narrow_names Refusal.Name nonterminals) λ name to next.
    cond (eqb form 1) (Ok (Rule.Next from (Token.Mark (record { 0 = name })) to, next)) (step_narrow number next nonterminals from name to)

-- "its form, then L; or L c L1; or L a L1 b L2"
unfoldable pub rule_narrow : (ℕ → Read ℕ) → ℕ → ℕ → Read Rule
rule_narrow number at nonterminals =
    after (pair_at number at forms Refusal.Form nonterminals) λ form from next.
    cond (eqb form 0) (Ok (Rule.Empty from, next)) (body_narrow number next nonterminals form from)

-- the rules still due. 8: "a rule equal in form and all fields to an earlier rule"; 9: "bytes follow the last rule"
unfoldable pub rules_narrow : Source → ℕ → ℕ → ℕ → ℕ → List Rule → GrammarFile
rules_narrow x nonterminals start zero at rules =
    cond (x.more at) (refused 9) (accepted (record { nonterminals = nonterminals; well = nonterminals; start = start; rules = rules }))
rules_narrow x nonterminals start (suc due) at rules =
    after_read (rule_narrow x.number at nonterminals) λ r next.
    cond (earlier r rules) (refused 8) (rules_narrow x nonterminals start due next (rules ++ (r ∷ [])))

-- 4: "rule count not 1 to 128"
abbrev pub counted_narrow : Source → ℕ → ℕ → ℕ → GrammarFile
counted_narrow x at nonterminals start = after_read (count_at x.number at 128 Refusal.RuleCount) λ due next. rules_narrow x nonterminals start due next []

-- 3: "stage count not 1 to 32"; "stage 0 is the start"
abbrev pub without_start_narrow : Source → GrammarFile
without_start_narrow x = after_read (count_at x.number 0 32 Refusal.StageCount) λ nonterminals next. counted_narrow x next nonterminals 0

-- behind a leading 0. 6: "a start not below the stage count"
abbrev pub with_start_narrow : Source → ℕ → GrammarFile
with_start_narrow x at =
    after_read (count_at x.number at 32 Refusal.StageCount) λ nonterminals next.
    after_read (field_at x.number next nonterminals Refusal.Stage) λ start behind.
    counted_narrow x behind nonterminals start

unfoldable pub grammar_narrow : Source → GrammarFile
grammar_narrow x = either (x.number 0) (with_start_narrow x) (without_start_narrow x)
