-- `files::grammar_check` meets its contract.
use native.Mathlib.Omega.{arith}
use Rattle.grammar_file.proofs.Answers.{grammar_accepted}
use Rattle.files.proofs.grammar_check.Goals as goal

pub overflow_cast-rules : goal.overflow_cast-rules
overflow_cast-rules c =
    let g = grammar_accepted c.args.grammar.now c.read_grammar.ensures _ c.in_ok-head.was in
    omega (arith, g.ready.few)
