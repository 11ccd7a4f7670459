-- `step_bytes::step_bytes` meets its contract.
use Prim.Native.Nat.{ℕ, ◌+◌, ◌-◌}
use mathlib.Core.Path.{◌≡◌, ap, ◌∙◌}
use native.Mathlib.Omega.{arith}
use lib.ListN.{take, drop}
use Rattle.std.proofs.Common.{rules}
use Rattle.step_bytes.proofs.Parts.{place_within}
use Rattle.step_bytes.proofs.step_bytes.Goals as goal

pub overflow_add-result : goal.overflow_add-result
overflow_add-result c =
    let w = place_within c.args.history.now c.type_inv.history c.args.position c.locate.ensures c.in-Ok.is in
    search (rules, w.inside)

pub slice_bounds-result-end : goal.slice_bounds-result-end
slice_bounds-result-end c =
    let w = place_within c.args.history.now c.type_inv.history c.args.position c.locate.ensures c.in-Ok.is in
    search (rules, w.inside)

pub returns-in-Ok : goal.returns-in-Ok
returns-in-Ok c =
    let w = place_within c.args.history.now c.type_inv.history c.args.position c.locate.ensures c.in-Ok.is in
    let e : c.in-Ok.part.start + c.in-Ok.part.length - c.in-Ok.part.start ≡ c.in-Ok.part.length = omega arith in
    (ap (λ (n : ℕ). take n (drop c.in-Ok.part.start c.args.history.now)) e ∙ w.holds, ap (λ (o : ℕ). (c.args.history.ref_ptr.0, o + c.args.history.ref_ptr.1)) w.starts)
