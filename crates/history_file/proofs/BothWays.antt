-- A history file is accepted exactly where its bytes are the writing of the count and of well-formed tokens (document 01, "The two files").
use Prim.Native.Nat.{ℕ}
use mathlib.Core.Path.{◌≡◌, refl}
use mathlib.Core.Logic.{◌↔◌}
use mathlib.Core.List.{List, [], ◌∷◌, Memᴰ}
use native.Mathlib.Omega.{arith}
use lib.ListN.{length}
use Rattle.numbers.specs.believed.Number.{bytes}
use Rattle.numbers.specs.Written.{AllBelow, written}
use Rattle.numbers.proofs.Written.{holds_is}
use Rattle.history_file.specs.believed.HistoryFile.{accepted, history_of}
use Rattle.history_file.specs.Wellformed.{TokenNumber, Wellformed}
use Rattle.history_file.proofs.Accepted.{history_is}

-- every number of well-formed tokens has three bytes at most
tokens_small : (ts : List ℕ) → ((t : ℕ) → Memᴰ t ts → TokenNumber t) → AllBelow 2097152 ts
tokens_small [] h = tt
tokens_small (t ∷ ts) h =
    let k = h t (Memᴰ.head refl) in
    (omega arith, tokens_small ts (λ u m. h u (Memᴰ.tail m)))

pub numbers_small : (ts : List ℕ) → Wellformed ts → AllBelow 2097152 (length ts ∷ ts)
numbers_small ts w = (omega arith, tokens_small ts w.tokens)

pub history_both_ways : (s : List ℕ) → AllBelow 256 s → (ts : List ℕ) → (history_of s ≡ accepted ts) ↔ ((s ≡ written (length ts ∷ ts)) × Wellformed ts)
history_both_ways s b ts = (
  λ h.
      let a = (history_is (bytes s) ts).0 h in
      ((holds_is s b (length ts ∷ ts) (numbers_small ts a.1)).0 a.0, a.1),
  λ (e, w). (history_is (bytes s) ts).1 ((holds_is s b (length ts ∷ ts) (numbers_small ts w)).1 e, w),
)
