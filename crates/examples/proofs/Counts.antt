-- The counts of single files and their readings by number, each by computing what the definition gives.
use mathlib.Core.Path.{refl}
use Rattle.numbers.specs.believed.Number.{number_within, number_at}
use Rattle.numbers.specs.believed.Field.{field_at, count_at}
use Rattle.rules.specs.believed.Rule.{pair_at, step_at, body_at, rule_at}
use Rattle.tables.specs.Table.{same_rule, earlier}
use Rattle.grammar_file.specs.believed.GrammarFile.{rules_from, grammar_from}
use Rattle.history_file.specs.believed.HistoryFile.{token_with, token_of, token_judged, token_at, depth_after, tokens_from, history_from}
use Rattle.vpg.specs.Runs.{runs}
use Rattle.examples.specs.Counts.{Counts}

pub counts : Counts
unfolding number_within number_at field_at count_at pair_at step_at body_at rule_at same_rule earlier rules_from grammar_from token_judged token_at depth_after tokens_from history_from token_of token_with runs
counts = record {
  top = refl;
  above = refl;
  all = refl;
  all_two = refl;
  none = refl;
  turned_down = refl;
  at_open = refl;
  at_end = refl;
  no_rule = refl;
  behind = refl;
  second = refl;
  third = refl;
  zeroth = refl;
  too_many = refl;
  no_first = refl;
  short = refl;
}
