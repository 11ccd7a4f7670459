-- What `entries` is: the only ascending list of the readings, each of one number more than there are tokens, one for each derivation tree.
use Prim.Native.Nat.{ℕ, suc}
use native.Mathlib.Omega.{arith}
use mathlib.Core.Path.{◌≡◌, refl, sym, ◌∙◌, ap}
use mathlib.Core.Logic.{◌↔◌}
use mathlib.Core.List.{List, Memᴰ}
use lib.ListN.{length, length-append}
use Rattle.vpg.specs.declared.Token.{Token}
use Rattle.vpg.specs.believed.Grammar.{Rules, Grammar, Tree, code, Derives, by_empty, by_next, by_step, Reading}
use Rattle.vpg.specs.believed.Order.{Ascending}
use Rattle.vpg.specs.Runs.{entries}
use Rattle.vpg.proofs.Ascends.{entries_ascending}
use Rattle.vpg.proofs.Inject.{code_injective}
use Rattle.vpg.proofs.Order.{one_list}
use Rattle.vpg.proofs.Sound.{entries_readings}

-- "a history of n tokens gives n + 1"
pub code-length : {g : Rules} {L : ℕ} {w : List Token} {t : Tree} → Derives g L w t → length (code t) ≡ suc (length w)
code-length (by_empty p) = refl
code-length (by_next p d) = ap suc (code-length d)
code-length (by_step p d d') = simp (length-append, code-length d, code-length d') (omega arith)

pub reading_length : (g : Grammar) (w : List Token) (e : List ℕ) → Reading g w e → length e ≡ suc (length w)
reading_length g w e h = rw (← h.2) (code-length h.1)

pub entry_length : (g : Grammar) (w : List Token) (e : List ℕ) → Memᴰ e (entries g w) → length e ≡ suc (length w)
entry_length g w e m = reading_length g w e ((entries_readings g w e).0 m)

pub entries-only : (g : Grammar) (w : List Token) (l : List (List ℕ)) → Ascending l → ((e : List ℕ) → Memᴰ e l ↔ Reading g w e) → l ≡ entries g w
entries-only g w l p h =
    one_list l (entries g w) p (entries_ascending g w) (λ e. (λ m. (entries_readings g w e).1 ((h e).0 m), λ m. (h e).1 ((entries_readings g w e).0 m)))

-- the tree of an entry
pub record TreeOf (g : Grammar) (w : List Token) (e : List ℕ) : Type 0 where
  pub tree : Tree
  pub derives : Derives g.rules g.start w tree
  pub is : code tree ≡ e
  pub only : (t : Tree) → Derives g.rules g.start w t → code t ≡ e → t ≡ tree

-- "one entry for each derivation": an entry has one tree, and each tree's code is an entry. No entry stands twice (`entries_ascending`)
pub readings_trees : (g : Grammar) (w : List Token) →
    ((e : List ℕ) → Memᴰ e (entries g w) → TreeOf g w e) × ((t : Tree) → Derives g.rules g.start w t → Memᴰ (code t) (entries g w))
readings_trees g w = (
  λ e m.
      let h = (entries_readings g w e).0 m in
      record { tree = h.0; derives = h.1; is = h.2; only = λ t d p. code_injective g.rules d h.1 (p ∙ sym h.2) },
  λ t d. (entries_readings g w (code t)).1 (t, d, refl),
)
