-- A grammar file is accepted exactly where its bytes are the writing of a well-formed grammar, with its start or, if that is 0, without it
-- (document 01, "The two files"; document 02, 2.3).
use Prim.Native.Nat.{ℕ, ◌≤◌}
use mathlib.Core.Path.{◌≡◌, refl}
use mathlib.Core.Logic.{◌↔◌, ◌⊎◌, inl, inr}
use mathlib.Core.List.{List, [], ◌∷◌, Memᴰ}
use native.Mathlib.Omega.{arith}
use lib.ListN.{length}
use Rattle.numbers.specs.believed.Number.{bytes}
use Rattle.numbers.specs.Written.{AllBelow, written}
use Rattle.numbers.proofs.Written.{below_append, holds_is}
use Rattle.rules.specs.RuleNumbers.{rule_numbers, Fits}
use Rattle.vpg.specs.declared.Rule.{Rule}
use Rattle.vpg.specs.declared.Token.{Token}
use Rattle.vpg.specs.believed.Grammar.{Grammar}
use Rattle.grammar_file.specs.believed.GrammarFile.{accepted, grammar_of}
use Rattle.grammar_file.specs.Wellformed.{Wellformed, rules_numbers, numbers_of, numbers_without_start}
use Rattle.grammar_file.proofs.Accepted.{Said, grammar_is}

-- every number of a well-formed grammar has three bytes at most
rule_small : (n : ℕ) (r : Rule) → n ≤ 32 → Fits n r → AllBelow 2097152 (rule_numbers r)
rule_small n (Rule.Empty l) h f = omega arith
rule_small n (Rule.Next l (Token.Mark c) l1) h f = omega arith
rule_small n (Rule.Next l (Token.Open a) l1) h f = omega arith
rule_small n (Rule.Next l (Token.Close b) l1) h f = omega arith
rule_small n (Rule.Step l a l1 b l2) h f = omega arith

rules_small : (n : ℕ) (rs : List Rule) → n ≤ 32 → ((r : Rule) → Memᴰ r rs → Fits n r) → AllBelow 2097152 (rules_numbers rs)
rules_small n [] h f = tt
rules_small n (r ∷ rs) h f =
    below_append 2097152 (rule_numbers r) (rules_numbers rs) (rule_small n r h (f r (Memᴰ.head refl)))
    (rules_small n rs h (λ x m. f x (Memᴰ.tail m)))

rest_small : (g : Grammar) → Wellformed g → AllBelow 2097152 (length g.rules ∷ rules_numbers g.rules)
rest_small g w = (omega (arith, w.rules_most), rules_small g.nonterminals g.rules w.nonterminals_most w.fits)

pub numbers_small : (g : Grammar) → Wellformed g → AllBelow 2097152 (numbers_of g)
numbers_small g w = (omega arith, (omega (arith, w.nonterminals_most), (omega (arith, w.start_below, w.nonterminals_most), rest_small g w)))

short_small : (g : Grammar) → Wellformed g → AllBelow 2097152 (numbers_without_start g)
short_small g w = (omega (arith, w.nonterminals_most), rest_small g w)

-- the bytes of a grammar's file, with or without its start
abbrev pub FileOf : List ℕ → Grammar → Type 0
FileOf s g = (s ≡ written (numbers_of g)) ⊎ ((s ≡ written (numbers_without_start g)) × (g.start ≡ 0))

pub grammar_both_ways : (s : List ℕ) → AllBelow 256 s → (g : Grammar)
    → (grammar_of s ≡ accepted g) ↔ (((s ≡ written (numbers_of g)) ⊎ ((s ≡ written (numbers_without_start g)) × (g.start ≡ 0))) × Wellformed g)
grammar_both_ways s b g = (λ h. let a = (grammar_is (bytes s) g).0 h in (there a.1 a.0, a.1), λ (f, w). (grammar_is (bytes s) g).1 (back w f, w))
  where
    there : Wellformed g → Said (bytes s) g → FileOf s g
    there w (inl h) = inl ((holds_is s b (numbers_of g) (numbers_small g w)).0 h)
    there w (inr (h, z)) = inr ((holds_is s b (numbers_without_start g) (short_small g w)).0 h, z)

    back : Wellformed g → FileOf s g → Said (bytes s) g
    back w (inl e) = inl ((holds_is s b (numbers_of g) (numbers_small g w)).1 e)
    back w (inr (e, z)) = inr ((holds_is s b (numbers_without_start g) (short_small g w)).1 e, z)
