-- The count at position 0 is that of the readings.
use Prim.Native.Nat.{ℕ, suc, ◌<◌}
use native.Mathlib.Omega.{arith}
use mathlib.Core.Path.{◌≡◌, refl, sym, ◌∙◌, ap}
use mathlib.Core.Bool.{Bool, true, false, false≢true}
use mathlib.Core.List.{List, [], ◌∷◌, map, Memᴰ}
use borrow.Author.Tests.{lt-ltb}
use lib.Dec.{leb}
use lib.ListN.{drop, replicate, length-replicate, get_or, get_or-replicate}
use Rattle.laws.proofs.Bools.{and_right}
use Rattle.bits.proofs.Bits.{bit-zero}
use Rattle.vpg.specs.declared.Token.{Token}
use Rattle.vpg.specs.declared.CloseName.{CloseName}
use Rattle.vpg.specs.believed.Grammar.{Grammar, General}
use Rattle.vpg.specs.Runs.{entries}
use Rattle.capped.specs.Capped.{cap}
use Rattle.level_theory.specs.Masks.{Nonterminals, floor, masks}
use Rattle.level_theory.specs.Pending.{Closes, pending_at}
use Rattle.level_theory.proofs.Alive.{fits_all, run_fits}
use Rattle.level_theory.proofs.Pending.{masks-outer}
use Rattle.levels.specs.Levels.{derives_all}
use Rattle.count_theory.specs.believed.CountAt.{tally}
use Rattle.count_theory.specs.Allowed.{Allowed, passes}
use Rattle.count_theory.specs.Counts.{Counts, counts, counts_at}
use Rattle.count_theory.proofs.Counting.{all-weight, tally-runs}
use Rattle.count_theory.proofs.Here.{counts-outer}
use Rattle.count_rows.specs.declared.rows.Rows.{Rows}
use Rattle.count_rows.specs.Sized.{Sized}
use Rattle.count_rows.specs.Rows.{value_at, Clear, Complete}

-- new rows have nothing
new_row : (p : ℕ) → p < 1026 → get_or (replicate {A = List ℕ} 1026 (replicate 32 0)) p [] ≡ replicate 32 0
new_row p h = get_or-replicate 1026 p (replicate 32 0) [] h

pub new_sized : Sized (replicate {A = List ℕ} 1026 (replicate 32 0)) (replicate 1026 0)
new_sized = (length-replicate {A = List ℕ} 1026 (replicate 32 0), λ p h. rw (new_row p h) (length-replicate {A = ℕ} 32 0), length-replicate {A = ℕ} 1026 0)

pub new_clear : Clear (record { counts = replicate 1026 (replicate 32 0); overs = replicate 1026 0; sized = new_sized }) 1025
new_clear k M l m = rw (lt-ltb k 1026 (omega arith), get_or-replicate {A = ℕ} 1026 k 0 0 (omega arith), bit-zero M, new_row k (omega arith)) (get_or-replicate {A = ℕ} 32 M 0 0 m)

-- around all tokens there is no level
pub whole : (g : Grammar) → General g.well g.rules → (w : List Token) (ok : Allowed) → derives_all g.well g.rules w g.start ≡ true → counts_at ok g.well g.rules w 0 g.start ≡ tally (passes ok 0) (entries g w)
whole g form w ok all =
    sym (tally-runs ok g.well g.rules form 0 w (g.start, []) tt ∙ all-weight g.well g.start (counts_at ok g.well g.rules w 0 g.start) (counts ok g.well g.rules 0 w).1 ∙ rw alone)
  where
    same : floor g.well (counts ok g.well g.rules 0 w).1 ≡ floor g.well (masks g.well g.rules w).1
    same = rw (counts-outer ok g.well g.rules w 0, masks-outer g.well g.rules w 0) (go (pending_at w 0))
      where
        go : (l : Closes) → floor {A = CloseName × Counts} g.well (map (λ d. (d.0, counts_at ok g.well g.rules w (suc d.1))) l) ≡ floor {A = CloseName × Nonterminals} g.well (map (λ d. (d.0, (masks g.well g.rules (drop (suc d.1) w)).0)) l)
        go [] = refl
        go (d ∷ l) = refl

    alone : leb (floor g.well (counts ok g.well g.rules 0 w).1) g.start ≡ true
    alone = rw same (and_right ((masks g.well g.rules w).0 g.start) _ all)

pub count-whole : (g : Grammar) → General g.well g.rules → (w : List Token) {ok : Allowed} {rows : Rows} → derives_all g.well g.rules w g.start ≡ true → g.start < 32 → Complete ok g.well g.rules w rows →
    value_at rows 0 g.start ≡ cap (tally (passes ok 0) (entries g w))
count-whole g form w {ok} all small c = c.counted 0 g.start (omega arith) (omega arith) small ∙ ap cap (whole g form w ok all)

-- where the start doesn't derive all tokens there is no reading
pub count_none : (g : Grammar) → General g.well g.rules → (w : List Token) (f : List ℕ → Bool) → derives_all g.well g.rules w g.start ≡ false → 0 ≡ cap (tally f (entries g w))
count_none g form w f none = rw (empty (entries g w) (λ e m. false≢true (sym none ∙ fits_all g.well g.start (masks g.well g.rules w).0 (masks g.well g.rules w).1 (run_fits g.well g.rules form w g.start [] tt e m))))
  where
    empty : (l : List (List ℕ)) → ((e : List ℕ) → Memᴰ e l → ⊥) → l ≡ []
    empty [] h = refl
    empty (e ∷ l) h = absurd (h e (Memᴰ.head refl))
