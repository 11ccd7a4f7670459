-- A list of numbers that is filled from the front, with zeros behind.
use Prim.Native.Nat.{ℕ, suc, ◌+◌, ◌-◌, ◌<◌, ◌≤◌}
use mathlib.Core.Path.{◌≡◌, sym, ◌∙◌}
use mathlib.Core.List.{List, [], ◌∷◌, ◌++◌}
use native.Mathlib.Numerals.{add-one}
use native.Mathlib.Omega.{arith}
use lib.ListN.{length, take, drop, set, replicate, take-append-drop}
use lib.Seq.{drop-cons, drop-set-lt, take-suc-set, length-take-le}
use Rattle.laws.proofs.Lists.{tails}

-- all from place k on are zeros
abbrev pub Cleared : ℕ → List ℕ → ℕ → Type 0
Cleared n l k = drop k l ≡ replicate (n - k) 0

pub cleared_next : (n : ℕ) (l : List ℕ) (k v : ℕ) → k < length l → k < n → Cleared n l k → Cleared n (set l k v) (k + 1)
cleared_next n l k v h m p =
    let e : n - k ≡ suc (n - suc k) = omega arith in
    rw (add-one k, drop-set-lt (suc k) l k v (omega arith)) (tails (rw (drop-cons l k 0 h, e) at p))

pub front_next : (l : List ℕ) (k v : ℕ) → k < length l → take (k + 1) (set l k v) ≡ take k l ++ (v ∷ [])
front_next l k v h = rw add-one (take-suc-set l k v h)

pub front_length : (l : List ℕ) (k : ℕ) → k ≤ length l → length (take k l) ≡ k
front_length l k h = length-take-le k l h

-- a list is its front and zeros
pub front_padded : (n : ℕ) (l : List ℕ) (k : ℕ) → k ≤ length l → Cleared n l k → l ≡ take k l ++ replicate (n - length (take k l)) 0
front_padded n l k h p = sym (take-append-drop k l) ∙ rw (p, front_length l k h)
