-- What stands in a prepared input: its grammar, the rules of that, and its tokens.
-- Law: closing (levels/proofs/Setting.antt)
use Rattle.std.specs.Prelude.{List}
use Rattle.vpg.specs.declared.Token.{Token}
use Rattle.vpg.specs.believed.Grammar.{Rules, Grammar}
use Rattle.tables.specs.Ready.{rules_of, grammar_in}
use Rattle.history_file.specs.believed.HistoryFile.{tokens_of}
use Rattle.levels.specs.declared.prepared.Prepared.{Prepared}

abbrev pub prepared_grammar : Prepared → Grammar
prepared_grammar input = grammar_in input.grammar.table.now input.grammar.head

abbrev pub prepared_rules : Prepared → Rules
prepared_rules input = rules_of input.grammar.table.now input.grammar.head

abbrev pub prepared_tokens : Prepared → List Token
prepared_tokens input = tokens_of input.tokens.now
