-- `grammar_file::read_grammar` meets its contract.
use Prim.Native.Nat.{ℕ}
use mathlib.Core.Path.{◌≡◌, sym, ◌∙◌}
use mathlib.Core.Bool.{true}
use native.Mathlib.Omega.{arith}
use Rattle.std.specs.Prelude.{Result, Ok, Err, is_err}
use Rattle.std.proofs.lemmas.Result.{err_from_is_err_and}
use Rattle.refusal.specs.declared.Refusal.{Refusal}
use Rattle.refusal.specs.Numbered.{numbered}
use Rattle.tables.specs.declared.Head.{Head}
use Rattle.tables.specs.declared.Table.{Table}
use Rattle.tables.specs.Table.{no_table}
use Rattle.grammar_file.specs.believed.GrammarFile.{GrammarFile, accepted, refused}
use Rattle.grammar_file.specs.GrammarTable.{grammar_read}
use Rattle.grammar_file.proofs.read_grammar.Goals as goal

-- a refusal leaves zeros
refusal_leaves : (r : Result Head Refusal) (f : GrammarFile) → is_err r ≡ true → numbered r ≡ (grammar_read f).0 → ◌≡◌ {A = Result Head ℕ × Table} (numbered r, no_table) (grammar_read f)
refusal_leaves (Err e) (refused k) h told = rw told
refusal_leaves (Err e) (accepted g) h told = absurd (let z : ◌≡◌ {A = ℕ} 0 1 = cc in omega arith)
refusal_leaves (Ok x) f h told = absurd (let z : ◌≡◌ {A = ℕ} 0 1 = cc in omega arith)

pub returns-in_err-head : goal.returns-in_err-head
returns-in_err-head c =
    let (e, is, same) = err_from_is_err_and c.from_residual.result c.from_residual.ensures.1 in
    rw (is, same, ← c.head_at.ensures.told, c.in_err-head.was, c.requires)

pub returns-then-is_err : goal.returns-then-is_err
returns-then-is_err c =
    rw (← c.head_at.ensures.told, c.in_ok-head.was, c.new.ensures) (refusal_leaves c.rules_at-answer.result _ (sym c.is_err.ensures.value ∙ c.if-is_err.true) c.rules_at-answer.ensures.told)
