-- Which step a position has, from what the search for its end found.
use Prim.Native.Nat.{ℕ, suc, ◌+◌, ◌-◌, ◌≤◌, ◌<◌}
use mathlib.Core.Path.{◌≡◌, refl, sym, ap, ◌∙◌}
use mathlib.Core.Bool.{Bool, true, false, cond, ◌&&◌}
use mathlib.Core.List.{List, [], ◌∷◌}
use mathlib.Core.Option.{Option, none, some}
use native.Mathlib.Omega.{arith}
use lib.Dec.{eqb, ltb}
use Rattle.std.specs.Prelude.{Ok, Err}
use Rattle.std.specs.Prelude as count
use Rattle.std.specs.Option.{ok_or}
use Rattle.refusal.specs.declared.Refusal.{Refusal}
use Rattle.refusal.specs.believed.Refusal.{number}
use lib.ListN.{length, get_or, take, drop, length-append, length-drop}
use lib.Seq.{take_all}
use borrow.Author.Tests.{ltb-true}
use Rattle.numbers.specs.Written.{shortest, written}
use Rattle.history_file.specs.believed.HistoryFile.{kind, depth_after}
use Rattle.step_bytes.specs.believed.StepBytes.{refused, later, step_length, part_from, step_in}
use Rattle.step_bytes.specs.Places.{ended}

pub length_most : (ts : List ℕ) (depth k : ℕ) → step_length depth ts ≡ some k → k ≤ length ts
unfolding step_length
length_most [] depth k e = absurd (let z : ◌≡◌ {A = ℕ} 0 1 = cc in omega arith)
length_most (t ∷ ts) depth k e = go (eqb (depth_after t depth) 0) (step_length (depth_after t depth) ts) (length_most ts (depth_after t depth)) e
  where
    go : (b : Bool) (x : Option ℕ) → ((j : ℕ) → x ≡ some j → j ≤ length ts) → cond b (some 1) (later x) ≡ some k → k ≤ suc (length ts)
    go true x most q = let z : 1 ≡ k = cc in omega arith
    go false none most q = absurd (let z : ◌≡◌ {A = ℕ} 0 1 = cc in omega arith)
    go false (some j) most q = let z : suc j ≡ k = cc in omega (arith, most j refl)

module _ (ts : List ℕ) (p : ℕ) where
  -- the bytes in front of position p: those of the count and of the tokens before it
  pub part-start : length (shortest (length ts)) + length (written (take p ts)) ≡ length (written (length ts ∷ take p ts))
  unfolding written
  part-start = sym (length-append (shortest (length ts)) (written (take p ts)))

  abbrev pub open_at : Bool
  open_at = ltb p (length ts) && eqb (kind (get_or ts p 0)) 1

  pub open_inside : open_at ≡ true → p < length ts
  open_inside e = go (ltb p (length ts)) (eqb (kind (get_or ts p 0)) 1) refl e
    where
      go : (a b : Bool) → ltb p (length ts) ≡ a → (a && b) ≡ true → p < length ts
      go true b q e = ltb-true p (length ts) q
      go false b q e = absurd (let z : ◌≡◌ {A = ℕ} 0 1 = cc in omega arith)

  pub step_at_open : open_at ≡ true → step_in ts p ≡ part_from ts p (step_length 0 (drop p ts))
  unfolding step_in
  step_at_open e = rw e

  pub no_step : open_at ≡ false → step_in ts p ≡ refused 17
  unfolding step_in
  no_step e = rw e

  rest_all : take (length ts - p) (drop p ts) ≡ drop p ts
  rest_all = take_all (length ts - p) (drop p ts) (rw length-drop (omega arith))

  -- what the search for the end answers, over the tokens from an open on
  module _ {b : Bool} (asked : b ≡ open_at) (opens : b ≡ true) {end : count.Option ℕ} (searched : end ≡ ended (step_length 0 (take (length ts - p) (drop p ts)))) where
    at_open : (x : Option ℕ) → step_length 0 (drop p ts) ≡ x → step_in ts p ≡ part_from ts p x
    at_open x q = step_at_open (sym asked ∙ opens) ∙ ap (part_from ts p) q

    pub count_found : (k : ℕ) → ok_or end Refusal.NoStep ≡ Ok k → (p + k ≤ length ts) × (step_in ts p ≡ part_from ts p (some k))
    count_found k e = go (step_length 0 (drop p ts)) refl (rw rest_all at searched)
      where
        go : (x : Option ℕ) → step_length 0 (drop p ts) ≡ x → end ≡ ended x → (p + k ≤ length ts) × (step_in ts p ≡ part_from ts p (some k))
        go none q f = absurd (let z : ◌≡◌ {A = ℕ} 0 1 = cc in omega arith)
        go (some j) q f =
            let j_is : j ≡ k = cc in
            let k_is : step_length 0 (drop p ts) ≡ some k = q ∙ ap some j_is in
            (omega (arith, open_inside (sym asked ∙ opens), rw length-drop at (length_most (drop p ts) 0 k k_is)), at_open (some k) k_is)

    pub none_found : (e : Refusal) → ok_or end Refusal.NoStep ≡ Err e → step_in ts p ≡ refused (number e)
    none_found e h = go (step_length 0 (drop p ts)) refl (rw rest_all at searched)
      where
        go : (x : Option ℕ) → step_length 0 (drop p ts) ≡ x → end ≡ ended x → step_in ts p ≡ refused (number e)
        go none q f = let e_is : Refusal.NoStep ≡ e = cc in at_open none q ∙ ap (λ (d : Refusal). refused (number d)) e_is
        go (some j) q f = absurd (let z : ◌≡◌ {A = ℕ} 0 1 = cc in omega arith)
