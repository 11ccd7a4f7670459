-- What a grammar file said before it could say its start (document 01, "The two files"): the definition as it stood then.
-- Law: grammar_kept, grammar_means_what_it_meant (earlier_files/proofs/Grammars.antt)
use Rattle.std.specs.Prelude.{[]}
use Rattle.refusal.specs.declared.Refusal.{Refusal}
use Rattle.numbers.specs.believed.Number.{Source}
use Rattle.numbers.specs.believed.Field.{count_at}
use Rattle.grammar_file.specs.believed.GrammarFile.{GrammarFile, after}
use Rattle.earlier_files.specs.NarrowGrammar.{rules_narrow}

-- "stage count (1 to 32), rule count (1 to 128), then each rule"; "stage 0 is the start". 3: "stage count not 1 to 32"; 4: "rule count not 1 to 128"
unfoldable pub grammar_before : Source → GrammarFile
grammar_before x =
    after (count_at x.number 0 32 Refusal.StageCount) λ nonterminals at1.
    after (count_at x.number at1 128 Refusal.RuleCount) λ due at2.
    rules_narrow x nonterminals 0 due at2 []
