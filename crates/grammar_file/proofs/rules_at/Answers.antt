-- `grammar_file::rules_at` meets its contract.
use Prim.Native.Nat.{ℕ, ◌<◌, ◌-◌}
use mathlib.Core.Path.{◌≡◌, sym, ap, ◌∙◌}
use borrow.Author.Tests.{le-ltb}
use native.Mathlib.Omega.{arith}
use native.Mathlib.Nat.{sub-zero}
use lib.ListN.{length, length-replicate}
use Rattle.std.specs.Prelude.{Ok}
use Rattle.std.proofs.lemmas.Result.{err_from_is_err_and}
use Rattle.laws.proofs.Lists.{one_due}
use Rattle.tables.specs.declared.Six.{Six}
use Rattle.tables.specs.declared.Table.{Table}
use Rattle.tables.specs.Table.{rules_in, table_of, fill, put_six, six_of}
use Rattle.tables.specs.Keys.{key_in, key_of, with_key}
use Rattle.tables.proofs.Keys.{none_keyed, key_marked}
use Rattle.tables.proofs.Tables.{length-put, length_rules, rules_put, table_next}
use Rattle.grammar_file.specs.believed.GrammarFile.{rules_from}
use Rattle.grammar_file.proofs.rules_at.Goals as goal

pub loop-k-init : goal.loop-k-init
unfolding table_of fill rules_in
loop-k-init c = (ap (λ (t : Table). length t.rules) c.requires.1, c.requires.1, rw sub-zero, none_keyed _ _ (length-replicate {A = ℕ} 64 0))

pub returns-in_err-rule-clause-told : goal.returns-in_err-rule-clause-told
unfolding rules_from
returns-in_err-rule-clause-told c =
    let (e, is, same) = err_from_is_err_and c.from_residual.result c.from_residual.ensures.1 in
    rw (is, same, ← c.loop-k.invariant.2, one_due _ _ c.loop-k-test.true, sym c.rule_at.ensures ∙ c.in_err-rule.was)

pub returns-then-seen-clause-told : goal.returns-then-seen-clause-told
unfolding rules_from
returns-then-seen-clause-told c =
    rw (
      ← c.loop-k.invariant.2,
      one_due _ _ c.loop-k-test.true,
      sym c.rule_at.ensures ∙ c.in_ok-rule.was,
      sym c.seen.ensures ∙ c.if-seen.true,
    )

pub loop-k-preserved : goal.loop-k-preserved
unfolding rules_from
loop-k-preserved c =
    let room : c.loop-k.k < length c.loop-k.table.rules = omega arith in
    let e : c.put.new.table ≡ put_six c.loop-k.table c.loop-k.k (six_of c.in_ok-rule.rule) = rw c.six_of-six.ensures at c.put.ensures in
    let marked : c.mark_key.new.keys ≡ with_key c.loop-k.keys (key_of c.in_ok-rule.rule) = c.mark_key.ensures ∙ ap (λ (v : Six). with_key c.loop-k.keys (key_in v)) c.six_of-six.ensures in (
      ap (λ (t : Table). length t.rules) e ∙ (length-put c.loop-k.table c.loop-k.k (six_of c.in_ok-rule.rule) ∙ c.loop-k.invariant.0),
      table_next c.loop-k.table c.put.new.table c.loop-k.k c.in_ok-rule.rule room c.loop-k.invariant.1 e,
      rw (e, rules_put c.loop-k.table c.loop-k.k c.in_ok-rule.rule room)
          (rw (one_due _ _ c.loop-k-test.true, sym c.rule_at.ensures ∙ c.in_ok-rule.was, sym c.seen.ensures ∙ c.if-seen.false) at c.loop-k.invariant.2),
      rw (e, marked) (key_marked c.loop-k.table c.loop-k.keys c.loop-k.k c.in_ok-rule.rule room c.loop-k.invariant.3),
    )

pub returns-clause-told : goal.returns-clause-told
unfolding rules_from
returns-clause-told c =
    let none : c.args.head.rules - c.loop-k.k ≡ 0 = omega arith in
    let all : c.loop-k.k ≡ c.args.head.rules = omega arith in
    ap (λ (w : ℕ). Ok (record { nonterminals = c.args.head.nonterminals; well = w; start = c.args.head.start; rules = c.args.head.rules })) c.requires.0.1
    ∙ rw (← c.loop-k.invariant.2, none, le-ltb _ _ c.if-at-s.false, length_rules, all)
