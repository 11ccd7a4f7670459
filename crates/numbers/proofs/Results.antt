-- What is read at a place: a value, or a refusal, and never both.
use Prim.Native.Nat.{ℕ}
use mathlib.Core.Path.{◌≡◌, ap}
use mathlib.Core.Logic.{◌≢◌}
use native.Mathlib.Omega.{arith}
use Rattle.std.specs.Prelude.{Result, Ok, Err}
use Rattle.refusal.specs.declared.Refusal.{Refusal}

pub apart : {A : Type 0} {e : Refusal} {x : A} → ◌≢◌ {A = Result A Refusal} (Err e) (Ok x)
apart h = let z : ◌≡◌ {A = ℕ} 0 1 = cc in omega arith

pub same_read : {A B : Type 0} {a b : A} {p q : B} → ◌≡◌ {A = Result (A × B) Refusal} (Ok (a, p)) (Ok (b, q)) → (a ≡ b) × (p ≡ q)
same_read {A} {B} {a} {b} {p} {q} h =
    let z : ◌≡◌ {A = A × B} (a, p) (b, q) = cc in
    (ap (λ x. x.0) z, ap (λ x. x.1) z)
