-- Numbers that stand one after another in a file.
use Prim.Native.Nat.{ℕ}
use mathlib.Core.Path.{◌≡◌, refl}
use mathlib.Core.List.{List, [], ◌∷◌, ◌++◌}
use Rattle.std.specs.Prelude.{Ok}
use Rattle.numbers.specs.believed.Number.{Read}
use Rattle.numbers.specs.Written.{NumbersAt, none, one}

module _ {number : ℕ → Read ℕ} where
  pub none_left : {at next : ℕ} → NumbersAt number at [] next → at ≡ next
  none_left none = refl

  pub one_left : {at n next : ℕ} {ns : List ℕ} → NumbersAt number at (n ∷ ns) next → (p : ℕ) × (number at ≡ Ok (n, p)) × NumbersAt number p ns next
  one_left (one {p} e rest) = (p, e, rest)

  pub join : {at p next : ℕ} {ns ms : List ℕ} → NumbersAt number at ns p → NumbersAt number p ms next → NumbersAt number at (ns ++ ms) next
  join none rest = rest
  join (one e ns) rest = one e (join ns rest)

  pub part : {at next : ℕ} (ns : List ℕ) {ms : List ℕ} → NumbersAt number at (ns ++ ms) next → (p : ℕ) × NumbersAt number at ns p × NumbersAt number p ms next
  part {at} [] rest = (at, none, rest)
  part {at = at} {next = next} (n ∷ ns) {ms = ms} i =
      let h = one_left i in
      let s = part {at = h.0} {next = next} ns {ms = ms} h.2 in
      (s.0, one h.1 s.1, s.2)
