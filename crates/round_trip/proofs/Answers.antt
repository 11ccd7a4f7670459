-- A writer's answer is a length or a number, never both.
use Prim.Native.Nat.{ℕ}
use mathlib.Core.Path.{◌≡◌, ap}
use mathlib.Core.List.{List}
use native.Mathlib.Omega.{arith}
use Rattle.service.specs.believed.Given.{Given, given, refused}

pub apart : {A : Type 0} {n e : ℕ} {x y : List ℕ} → ◌≡◌ {A = Given ℕ × List ℕ} (given n, x) (refused e, y) → A
apart h =
    let q : ◌≡◌ {A = Given ℕ} (given _) (refused _) = ap (λ p. p.0) h in
    absurd (let z : ◌≡◌ {A = ℕ} 0 1 = cc in omega arith)
