-- `service::open_files` meets its contract.
use native.Mathlib.Omega.{arith}
use Rattle.std.proofs.lemmas.Result.{err_from_is_err_and}
use Rattle.grammar_file.proofs.Answers.{grammar_accepted}
use Rattle.history_file.proofs.Answers.{history_accepted, history_refused}
use Rattle.service.proofs.Opens.{history_refuses, history_short, both-opened}
use Rattle.service.proofs.open_files.Goals as goal

pub index_rules-requires : goal.index_rules-requires
index_rules-requires c =
    let k = grammar_accepted _ c.read_grammar.ensures _ c.in_ok-head.was in
    (k.size, k.ready)

pub returns-in_err-count : goal.returns-in_err-count
returns-in_err-count c =
    let k = grammar_accepted _ c.read_grammar.ensures _ c.in_ok-head.was in
    let h = history_refused _ c.read_history.ensures _ c.in_err-count.was in
    let p = err_from_is_err_and c.from_residual-in_err-count.result c.from_residual-in_err-count.ensures.1 in
    rw (p.1, p.2) (history_refuses c.args.each c.args.size c.args.grammar.now c.args.history.now _ _ k c.index_rules.new.table c.index_rules.ensures.0 _ h)

pub returns-then-size-each : goal.returns-then-size-each
returns-then-size-each c =
    let k = grammar_accepted _ c.read_grammar.ensures _ c.in_ok-head.was in
    let h = history_accepted _ c.read_history.ensures _ c.in_ok-count.was in
    history_short c.args.each c.args.size c.args.grammar.now c.args.history.now _ _ k c.index_rules.new.table c.index_rules.ensures.0 _ _ h c.if-size-each.true

pub invariant_of-result : goal.invariant_of-result
invariant_of-result c =
    let h = history_accepted _ c.read_history.ensures _ c.in_ok-count.was in
    record { passed = record { tokens = h.tokens; wellformed = h.wellformed } }

pub returns : goal.returns
returns c =
    let k = grammar_accepted _ c.read_grammar.ensures _ c.in_ok-head.was in
    let h = history_accepted _ c.read_history.ensures _ c.in_ok-count.was in
    record {
      is = both-opened c.args.each c.args.size c.args.grammar.now c.args.history.now _ _ k c.index_rules.new.table c.index_rules.ensures.0 _ _ h (omega (arith, c.if-size-each.false));
      room = rw h.count (omega (arith, c.if-size-each.false));
    }
