-- The number for the bytes of one step is one of a history file's or 17, can be read back from its code, and is there exactly where the part is
-- empty: so the length of a part tells by itself whether there is a step.
use Prim.Native.Nat.{ℕ, zero, suc, ◌<◌}
use native.Mathlib.Omega.{arith}
use mathlib.Core.Path.{◌≡◌, refl}
use mathlib.Core.Logic.{◌≢◌, ◌↔◌, ◌⊎◌, inl, inr}
use mathlib.Core.Bool.{Bool, true, false, cond, ◌&&◌}
use mathlib.Core.List.{List, [], ◌∷◌}
use mathlib.Core.Option.{Option, none, some}
use lib.Dec.{eqb, ltb}
use lib.ListN.{length, get_or, take, drop, length-append}
use lib.Seq.{drop-cons}
use Rattle.numbers.specs.Written.{written}
use Rattle.numbers.proofs.Written.{shortest-some}
use Rattle.history_file.specs.believed.HistoryFile.{HistoryFile, kind, depth_after, history_of}
use Rattle.history_file.specs.believed.HistoryFile as history-file
use Rattle.step_bytes.specs.believed.StepBytes.{StepPart, part, refused, later, step_length, part_from, step_in, step_from, step_of, number_in}
use Rattle.step_bytes.proofs.Parts.{step_in_lem}
use Rattle.step_bytes.proofs.Steps.{open_inside}
use Rattle.replies.specs.believed.Wire.{part_wire, step_code}
use Rattle.refusals.specs.Codes.{StepNumbered, number_of}
use Rattle.refusals.proofs.Readers.{chosen, OfHistory, history_of_lem}

-- ── the number ──

abbrev OfStep : Option ℕ → Type 0
OfStep none = Unit
OfStep (some e) = StepNumbered e

step_in_numbers : (ts : List ℕ) (p : ℕ) → OfStep (number_in (step_in ts p))
unfolding step_in
step_in_numbers ts p = chosen (λ x. OfStep (number_in x)) (ltb p (length ts) && eqb (kind (get_or ts p 0)) 1) (go (step_length 0 (drop p ts))) (inr (inr refl))
  where
    go : (x : Option ℕ) → OfStep (number_in (part_from ts p x))
    go none = inr (inr refl)
    go (some k) = tt

step_numbers : (s : List ℕ) (p : ℕ) → OfStep (number_in (step_of s p))
step_numbers s p =
    go (history_of s)
    (history_of_lem StepNumbered (inl (omega arith)) (inl (omega arith)) (λ e h. inr (inl h)) s)
  where
    go : (f : HistoryFile) → OfHistory StepNumbered f → OfStep (number_in (step_from f p))
    go (history-file.refused e) h = h
    go (history-file.accepted ts) h = step_in_numbers ts p

above : {k : ℕ} → StepNumbered k → k ≢ 0
above h q = grind arith

-- ── the part ──

written-some : (n : ℕ) (ns : List ℕ) → 0 < length (written (n ∷ ns))
unfolding written
written-some n ns = rw length-append (omega (arith, shortest-some n))

length_some : (ts : List ℕ) (depth k : ℕ) → step_length depth ts ≡ some k → 0 < k
unfolding step_length
length_some [] depth k e = cc
length_some (t ∷ ts) depth k e = go (eqb (depth_after t depth) 0) (step_length (depth_after t depth) ts) e
  where
    go : (b : Bool) (x : Option ℕ) → cond b (some 1) (later x) ≡ some k → 0 < k
    go true x q = grind arith
    go false none q = cc
    go false (some j) q = grind arith

taken_some : (ts : List ℕ) (p k : ℕ) → p < length ts → 0 < k → 0 < length (written (take k (drop p ts)))
taken_some ts p zero inside h = omega arith
taken_some ts p (suc k) inside h = rw (drop-cons ts p 0 inside) (written-some (get_or ts p 0) (take k (drop (suc p) ts)))

part-some : (s : List ℕ) (p start : ℕ) (us : List ℕ) → step_of s p ≡ part start us → 0 < length (written us)
part-some s p start us found =
    let i = step_in_lem s p start us found in
    let ts = i.tokens in
    let k = i.step.count in
    rw i.step.tokens (taken_some ts p k (open_inside ts p i.step.opens) (length_some (drop p ts) 0 k i.step.ends))

-- ── both ──

-- the number's code is 0 or one of these numbers and says which, and is not 0 exactly where the part has no bytes
pub record StepCode (x : StepPart) : Type 0 where
  pub one_of : (step_code (number_in x) ≡ 0) ⊎ StepNumbered (step_code (number_in x))
  pub back : number_of (step_code (number_in x)) ≡ number_in x
  pub empty : ((part_wire x).length ≡ 0) ↔ (step_code (number_in x) ≢ 0)

pub step_codes : (s : List ℕ) (p : ℕ) → StepCode (step_of s p)
step_codes s p = go (step_of s p) refl (step_numbers s p)
  where
    go : (x : StepPart) → step_of s p ≡ x → OfStep (number_in x) → StepCode x
    go (part start us) q h =
        let some_bytes = part-some s p start us q in
        record { one_of = inl refl; back = refl; empty = (λ e. omega arith, λ n. absurd (n refl)) }
    go (refused k) q h = record { one_of = inr h; back = grind (arith, above); empty = (λ e. above h, λ n. refl) }
