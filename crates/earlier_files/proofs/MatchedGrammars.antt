-- Every grammar file that passes says a grammar of Definition 2.1: all its nonterminals are well matched and no rule takes an open or a close
-- alone. So its readings are those of that definition.
use Prim.Native.Nat.{ℕ}
use mathlib.Core.Path.{◌≡◌}
use mathlib.Core.Logic.{◌↔◌}
use mathlib.Core.List.{List, Memᴰ}
use Rattle.vpg.specs.declared.Rule.{Rule}
use Rattle.vpg.specs.declared.Token.{Token}
use Rattle.vpg.specs.believed.Grammar.{Grammar, Reading}
use Rattle.vpg.specs.believed.Matched.{PlainRule, PlainRules, MatchedReading}
use Rattle.vpg.specs.Runs.{entries}
use Rattle.vpg.proofs.Matched.{matched_readings, entries_matched}
use Rattle.numbers.specs.believed.Number.{bytes}
use Rattle.rules.specs.RuleNumbers.{Fits}
use Rattle.grammar_file.specs.believed.GrammarFile.{accepted, grammar_of}
use Rattle.grammar_file.specs.Wellformed.{Wellformed}
use Rattle.grammar_file.proofs.Accepted.{member, grammar_wellformed}

fits_plain : (n : ℕ) (R : Rule) → Fits n R → PlainRule R
fits_plain n (Rule.Empty L) f = tt
fits_plain n (Rule.Next L i L₁) f = f.3
fits_plain n (Rule.Step L a L₁ b L₂) f = tt

module _ (s : List ℕ) (g : Grammar) (passed : grammar_of s ≡ accepted g) where
  pub file_plain : PlainRules g.rules
  file_plain r R h = fits_plain g.nonterminals R (w.fits R (member g.rules r h))
    where
      w : Wellformed g
      w = grammar_wellformed (bytes s) g passed

  pub file_well : g.well ≡ g.nonterminals
  file_well = (grammar_wellformed (bytes s) g passed).well_all

  pub file_readings : (w : List Token) (e : List ℕ) → Reading g w e ↔ MatchedReading g w e
  file_readings w e = matched_readings g file_plain w e

  pub file_entries : (w : List Token) (e : List ℕ) → Memᴰ e (entries g w) ↔ MatchedReading g w e
  file_entries w e = entries_matched g file_plain w e
