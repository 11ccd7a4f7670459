-- `ends_row`: before nonterminal l the empty rules of those below it are added.
use native.Mathlib.Omega.{arith}
use native.Mathlib.Numerals.{add-one}
use Rattle.count_rows.specs.Rows.{allowed_by}
use Rattle.count_rows.proofs.Ends.{ends_next, ends-filled}
use Rattle.count_rows.proofs.ends_row.Goals as goal

pub loop-l-preserved : goal.loop-l-preserved
loop-l-preserved c =
    rw (add-one c.loop-l.l) (ends_next c.args.grammar.now.table.now c.args.grammar.now.head.rules (allowed_by c.args.alone c.args.context.position) c.loop-l.l (omega (arith, c.loop-l-test.true, c.requires.n_bound)) c.loop-l.invariant c.add_end.ensures)

pub returns : goal.returns
returns c =
    λ o. ends-filled c.args.grammar.now.table.now c.args.grammar.now.head c.args.context c.args.grammar.now.indexed o (allowed_by c.args.alone c.args.context.position) _ _ _ (omega (arith, c.loop-l.auto.l-end)) c.loop-l.invariant
