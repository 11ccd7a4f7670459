-- `step_bytes::place_in` meets its contract.
use mathlib.Core.Path.{sym, ap, ◌∙◌}
use Rattle.std.proofs.lemmas.Result.{err_from_is_err_and}
use Rattle.step_bytes.specs.Places.{placed}
use Rattle.step_bytes.proofs.Steps.{count_found, none_found, no_step}
use Rattle.step_bytes.proofs.place_in.Goals as goal

pub returns-then-not-is_open : goal.returns-then-not-is_open
returns-then-not-is_open c =
    sym (ap placed (no_step _ _ (sym c.is_open.ensures ∙ c.if-not-is_open.true)))

pub returns-in_err-count : goal.returns-in_err-count
returns-in_err-count c =
    let none_is = none_found _ _ c.is_open.ensures c.if-not-is_open.false c.step_end.ensures _ (sym c.ok_or.ensures.value ∙ c.in_err-count.was) in
    let p = err_from_is_err_and c.from_residual.result c.from_residual.ensures.1 in
    rw (p.1, p.2) (sym (ap placed none_is))

pub part_at-requires : goal.part_at-requires
part_at-requires c =
    (c.requires, (count_found _ _ c.is_open.ensures c.if-not-is_open.false c.step_end.ensures _ (sym c.ok_or.ensures.value ∙ c.in_ok-count.was)).0)

pub returns : goal.returns
returns c =
    let found = count_found _ _ c.is_open.ensures c.if-not-is_open.false c.step_end.ensures _ (sym c.ok_or.ensures.value ∙ c.in_ok-count.was) in
    c.part_at.ensures ∙ sym (ap placed found.1)
