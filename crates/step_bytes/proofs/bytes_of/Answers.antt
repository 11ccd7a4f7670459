-- `step_bytes::bytes_of` meets its contract.
use Prim.Native.Nat.{◌^◌, ◌<◌}
use native.Mathlib.Omega.{arith}
use mathlib.Core.Path.{◌≡◌, sym, ◌∙◌}
use lib.ListN.{length}
use Rattle.std.proofs.Common.{rules}
use Rattle.std.specs.List.{sum_by}
use Rattle.std.proofs.lemmas.Iterator.{YieldsList-from_slice, YieldsList-from_map}
use Rattle.std.proofs.lemmas.Iterator.Consumers.{YieldsList-at, fits_by_from_yields_list, sum_by_from_yields_List}
use Rattle.numbers.specs.Written.{shortest}
use Rattle.step_bytes.proofs.Loops.{size_of_written, size_most}
use Rattle.step_bytes.proofs.bytes_of.Goals as goal

pub sum-requires-clause-fits : goal.sum-requires-clause-fits
sum-requires-clause-fits c =
    let ts = c.args.tokens.now in
    let size : sum_by (λ t. length (shortest t)) ts < 2 ^ 64 = omega (arith, c.requires, size_of_written ts, size_most ts) in
    fits_by_from_yields_list (λ t. length (shortest t)) ts _ _ (YieldsList-from_map _ (λ t. length (shortest t)) (YieldsList-at c.map.ensures.source (YieldsList-from_slice ts (cc))) c.map.ensures.closure (λ x r q k. search rules)) size

pub returns : goal.returns
returns c =
    let ts = c.args.tokens.now in
    let e : c.sum.result ≡ sum_by (λ t. length (shortest t)) ts = sum_by_from_yields_List (λ t. length (shortest t)) ts c.map.result _ c.sum.ensures.ran (YieldsList-from_map _ (λ t. length (shortest t)) (YieldsList-at c.map.ensures.source (YieldsList-from_slice ts (cc))) c.map.ensures.closure (λ x r q k. search rules)) in
    let size = e ∙ sym (size_of_written ts) in
    (size, omega (arith, c.requires, size, size_most ts))
