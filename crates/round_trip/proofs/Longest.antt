-- How long the files can be that pass, and so what a writer writes: 1,285 bytes for a grammar, 3,074 for a history.
use Prim.Native.Nat.{ℕ, ◌+◌, ◌*◌, ◌<◌, ◌≤◌}
use mathlib.Core.Path.{◌≡◌, refl, ap, ◌∙◌}
use mathlib.Core.Logic.{inl, inr}
use mathlib.Core.Bool.{Bool, true, false}
use mathlib.Core.List.{List, [], ◌∷◌, Memᴰ}
use native.Mathlib.Omega.{arith}
use borrow.Author.Tests.{ltb-true, ltb-false}
use lib.Dec.{ltb}
use lib.ListN.{length, length-append}
use Rattle.numbers.specs.Written.{AllBelow, shortest, written}
use Rattle.numbers.proofs.Written.{one_byte, two_bytes, shortest_most, written-append}
use Rattle.rules.specs.RuleNumbers.{rule_numbers, Fits}
use Rattle.vpg.specs.declared.Rule.{Rule}
use Rattle.vpg.specs.declared.Token.{Token}
use Rattle.vpg.specs.believed.Grammar.{Grammar}
use Rattle.vpg.specs.Forms.{form_of, name_of}
use Rattle.grammar_file.specs.believed.GrammarFile
use Rattle.grammar_file.specs.believed.GrammarFile.{GrammarFile, grammar_of}
use Rattle.grammar_file.specs.Wellformed.{Wellformed, rules_numbers}
use Rattle.grammar_file.proofs.BothWays.{FileOf, grammar_both_ways}
use Rattle.history_file.specs.believed.HistoryFile
use Rattle.history_file.specs.believed.HistoryFile.{HistoryFile, history_of}
use Rattle.history_file.proofs.BothWays.{history_both_ways}
use Rattle.writers.proofs.Longer.{written_long, written_short}

written_next : (n : ℕ) (ns : List ℕ) → length (written (n ∷ ns)) ≡ length (shortest n) + length (written ns)
unfolding written
written_next n ns = length-append (shortest n) (written ns)

-- a number below 128 has a byte, one below 128 × 128 two at most
size-one : (n : ℕ) → n < 128 → length (shortest n) ≡ 1
size-one n h = ap length (one_byte n h)

size-two : (n : ℕ) → n < 16384 → length (shortest n) ≤ 2
size-two n h = go (ltb n 128) refl
  where
    go : (b : Bool) → ltb n 128 ≡ b → length (shortest n) ≤ 2
    go true e = omega (arith, size-one n (ltb-true n 128 e))
    go false e = omega (arith, ap length (two_bytes n (ltb-false n 128 e) h))

written_most : (ns : List ℕ) → length (written ns) ≤ 3 * length ns
unfolding written
written_most [] = omega arith
written_most (n ∷ ns) = omega (arith, written_next n ns, shortest_most n, written_most ns)

form_small : (i : Token) → form_of i < 128
form_small (Token.Mark c) = omega arith
form_small (Token.Open a) = omega arith
form_small (Token.Close b) = omega arith

-- form and nonterminals have a byte each, names three at most
rule_longest : (n : ℕ) (r : Rule) → n ≤ 32 → Fits n r → length (written (rule_numbers r)) ≤ 10
unfolding written
rule_longest n (Rule.Empty l) h f =
    omega (arith, written_next 0 (l ∷ []), size-one 0 (omega arith), written_next l [], size-one l (omega arith))
rule_longest n (Rule.Next l i l1) h f =
    omega (
      arith,
      written_next (form_of i) (l ∷ name_of i ∷ l1 ∷ []),
      size-one (form_of i) (form_small i),
      written_next l (name_of i ∷ l1 ∷ []),
      size-one l (omega (arith, f.0)),
      written_next (name_of i) (l1 ∷ []),
      shortest_most (name_of i),
      written_next l1 [],
      size-one l1 (omega (arith, f.2)),
    )
rule_longest n (Rule.Step l a l1 b l2) h f =
    omega (
      arith,
      written_next 2 (l ∷ a.0 ∷ l1 ∷ b.0 ∷ l2 ∷ []),
      size-one 2 (omega arith),
      written_next l (a.0 ∷ l1 ∷ b.0 ∷ l2 ∷ []),
      size-one l (omega (arith, f.0)),
      written_next a.0 (l1 ∷ b.0 ∷ l2 ∷ []),
      shortest_most a.0,
      written_next l1 (b.0 ∷ l2 ∷ []),
      size-one l1 (omega (arith, f.2)),
      written_next b.0 (l2 ∷ []),
      shortest_most b.0,
      written_next l2 [],
      size-one l2 (omega (arith, f.4)),
    )

rules_longest : (n : ℕ) (rs : List Rule) → n ≤ 32 → ((r : Rule) → Memᴰ r rs → Fits n r) → length (written (rules_numbers rs)) ≤ 10 * length rs
unfolding written
rules_longest n [] h f = omega arith
rules_longest n (r ∷ rs) h f =
    let e : length (written (rules_numbers (r ∷ rs))) ≡ length (written (rule_numbers r)) + length (written (rules_numbers rs)) =
    ap length (written-append (rule_numbers r) (rules_numbers rs)) ∙ length-append (written (rule_numbers r)) (written (rules_numbers rs)) in
    omega (arith, e, rule_longest n r h (f r (Memᴰ.head refl)), rules_longest n rs h (λ q m. f q (Memᴰ.tail m)))

-- a rule count of two bytes at most, and the rules
rest_longest : (g : Grammar) → Wellformed g → length (written (length g.rules ∷ rules_numbers g.rules)) ≤ 1282
rest_longest g w =
    let rs = g.rules in
    omega (
      arith,
      written_next (length rs) (rules_numbers rs),
      size-two (length rs) (omega (arith, w.rules_most)),
      rules_longest g.nonterminals rs w.nonterminals_most w.fits,
      w.rules_most,
    )

pub grammar_longest : (s : List ℕ) → AllBelow 256 s → (g : Grammar) → grammar_of s ≡ GrammarFile.accepted g → length s ≤ 1285
grammar_longest s b g h = let (f, w) = (grammar_both_ways s b g).0 h in go w f
  where
    go : Wellformed g → FileOf s g → length s ≤ 1285
    go w (inl e) = omega (arith, ap length (e ∙ written_long g w), rest_longest g w)
    go w (inr (e, z)) = omega (arith, ap length (e ∙ written_short g w), rest_longest g w)

pub history_longest : (s : List ℕ) → AllBelow 256 s → (ts : List ℕ) → history_of s ≡ HistoryFile.accepted ts → length s ≤ 3074
history_longest s b ts h =
    let p = (history_both_ways s b ts).0 h in
    let few = p.1.few in
    omega (arith, ap length p.0, written_next (length ts) ts, size-two (length ts) (omega arith), written_most ts)
