-- The examples of wide names hold, each by computing what the definition gives.
use mathlib.Core.Path.{refl}
use Rattle.numbers.specs.believed.Number.{number_within, number_at}
use Rattle.numbers.specs.believed.Field.{field_at, count_at}
use Rattle.rules.specs.believed.Rule.{pair_at, step_at, body_at, rule_at}
use Rattle.tables.specs.Table.{same_rule, earlier}
use Rattle.grammar_file.specs.believed.GrammarFile.{rules_from, grammar_from}
use Rattle.history_file.specs.believed.HistoryFile.{token_with, token_of, token_judged, token_at, depth_after, tokens_from, history_from}
use Rattle.vpg.specs.Runs.{runs}
use Rattle.examples.specs.WideNames.{WideNames}

pub wide-names : WideNames
unfolding number_within number_at field_at count_at pair_at step_at body_at rule_at same_rule earlier rules_from grammar_from token_judged token_at depth_after tokens_from history_from token_of token_with runs
wide-names = record {
  two_bytes-zero = refl;
  three_bytes-zero = refl;
  third_top_bit = refl;
  two_bytes_cut = refl;
  token_count = refl;
  token_16384 = refl;
  largest_names = refl;
  token_262143 = refl;
  token_262144 = refl;
  name_65535 = refl;
  name_65536 = refl;
  mark_1 = refl;
  mark_257 = refl;
  mark_16385 = refl;
  mark_65281 = refl;
  close_65535 = refl;
  close_32767 = refl;
  close_65279 = refl;
}
