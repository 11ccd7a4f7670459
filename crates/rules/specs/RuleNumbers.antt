-- The numbers of a rule in a grammar file, and their ranges (document 01, "The two files" and refusals 6 and 7; document 02, 2.4).
-- Law: grammar_both_ways (grammar_file/proofs/BothWays.antt)
use Rattle.std.specs.Prelude.{ℕ, ◌<◌, List, [], ◌∷◌}
use Rattle.vpg.specs.declared.Rule.{Rule}
use Rattle.vpg.specs.believed.Grammar.{Plain}
use Rattle.vpg.specs.Forms.{form_of, name_of}

-- "each rule: its form, then L; or L c L1; or L a L1 b L2"
abbrev pub rule_numbers : Rule → List ℕ
rule_numbers (Rule.Empty l) = 0 ∷ l ∷ []
rule_numbers (Rule.Next l i l1) = form_of i ∷ l ∷ name_of i ∷ l1 ∷ []
rule_numbers (Rule.Step l a l1 b l2) = 2 ∷ l ∷ a.0 ∷ l1 ∷ b.0 ∷ l2 ∷ []

-- no "stage number not below the stage count" and no "names above 65,535"; no file holds a rule that takes an open or a close alone
abbrev pub Fits : ℕ → Rule → Type 0
Fits nonterminals (Rule.Empty l) = l < nonterminals
Fits nonterminals (Rule.Next l i l1) = (l < nonterminals) × (name_of i < 65536) × (l1 < nonterminals) × Plain i
Fits nonterminals (Rule.Step l a l1 b l2) =
    (l < nonterminals) × (a.0 < 65536) × (l1 < nonterminals) × (b.0 < 65536) × (l2 < nonterminals)
