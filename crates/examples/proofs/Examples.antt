-- Document 01's checked examples hold, each by computing what the definition gives.
use mathlib.Core.Path.{refl}
use Rattle.numbers.specs.believed.Number.{number_within, number_at}
use Rattle.numbers.specs.believed.Field.{field_at, count_at}
use Rattle.rules.specs.believed.Rule.{pair_at, step_at, body_at, rule_at}
use Rattle.tables.specs.Table.{same_rule, earlier}
use Rattle.grammar_file.specs.believed.GrammarFile.{rules_from, grammar_from}
use Rattle.history_file.specs.believed.HistoryFile.{token_with, token_of, token_judged, token_at, depth_after, tokens_from, history_from}
use Rattle.vpg.specs.Runs.{runs}
use Rattle.sets_theory.specs.ChoiceTest.{choice}
use Rattle.sets_theory.specs.KeptTest.{kept}
use Rattle.sets_theory.specs.believed.Sets.{count, choice_count, stop_mark, stop_marks}
use Rattle.examples.specs.Examples.{Examples}

pub examples : Examples
unfolding number_within number_at field_at count_at pair_at step_at body_at rule_at same_rule earlier rules_from grammar_from token_judged token_at depth_after tokens_from history_from token_of token_with runs kept choice count choice_count stop_mark stop_marks
examples = record {
  G-is = refl;
  history_3_1_0_2 = refl;
  history_1_2 = refl;
  history_1_1 = refl;
  history_1_3 = refl;
  history_128 = refl;
  history_128_0 = refl;
  grammar_1_2_0_0_0_0 = refl;
  grammar_1_0 = refl;
  history_0 = refl;
  history_0_marks = refl;
  step = refl;
  step-choices = refl;
  step-marks = refl;
  empty_step = refl;
  two_steps = refl;
  after_last = refl;
  after_none = refl;
  mark = refl;
  mark-marks = refl;
  no_end = refl;
}
