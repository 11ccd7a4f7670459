-- What sets answers and writes on single files, each by computing what the definition gives.
use mathlib.Core.Path.{refl}
use Rattle.numbers.specs.believed.Number.{number_within, number_at}
use Rattle.numbers.specs.believed.Field.{field_at, count_at}
use Rattle.rules.specs.believed.Rule.{pair_at, step_at, body_at, rule_at}
use Rattle.tables.specs.Table.{same_rule, earlier}
use Rattle.grammar_file.specs.believed.GrammarFile.{rules_from, grammar_from}
use Rattle.history_file.specs.believed.HistoryFile.{token_with, token_of, token_judged, token_at, depth_after, tokens_from, history_from}
use Rattle.vpg.specs.Runs.{runs}
use Rattle.sets_theory.specs.ChoiceTest.{choice}
use Rattle.sets_theory.specs.KeptTest.{kept}
use Rattle.sets_theory.specs.believed.Sets.{count, choice_count, word_of, set_word, set_words}
use Rattle.examples.specs.Sets.{Sets}

pub sets : Sets
unfolding number_within number_at field_at count_at pair_at step_at body_at rule_at same_rule earlier rules_from grammar_from token_judged token_at depth_after tokens_from history_from token_of token_with runs kept choice count choice_count word_of set_word set_words
sets = record {
  one = refl;
  both = refl;
  none = refl;
  short = refl;
  turned_down = refl;
}
