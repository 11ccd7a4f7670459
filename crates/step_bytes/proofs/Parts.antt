-- The part of the file where a step's bytes stand: it lies within the file, and holds the step's tokens.
use Prim.Native.Nat.{ℕ, ◌+◌, ◌≤◌}
use mathlib.Core.Path.{◌≡◌, refl, sym, ap, ◌∙◌}
use mathlib.Core.Bool.{Bool, true, false, cond}
use mathlib.Core.List.{List, ◌∷◌, ◌++◌}
use mathlib.Core.Option.{Option, none, some}
use native.Mathlib.Omega.{arith}
use lib.ListN.{length, get_or, take, drop, length-append, take-append-drop}
use Rattle.std.proofs.Common.{Fits, w8}
use lib.Seq.{take-append_seam, drop-append_seam}
use Rattle.numbers.specs.Written.{AllBelow, written}
use Rattle.numbers.proofs.Written.{below_all, written-append}
use Rattle.history_file.specs.believed.HistoryFile.{HistoryFile, history_of}
use Rattle.history_file.proofs.BothWays.{history_both_ways}
use Rattle.std.specs.Prelude.{Result, Ok}
use Rattle.refusal.specs.declared.Refusal.{Refusal}
use Rattle.refusal.specs.Numbered.{numbered}
use Rattle.step_bytes.specs.declared.Part.{Part}
use Rattle.step_bytes.specs.believed.StepBytes.{StepPart, part, refused, step_length, part_from, step_in, step_from, step_of, bytes_in, start_in}
use Rattle.step_bytes.specs.Places.{placed}
use Rattle.step_bytes.proofs.Steps.{open_at}

-- ── a step in the tokens ──

-- k tokens from an open at position p on are its step
pub record StepAt (ts : List ℕ) (p start : ℕ) (us : List ℕ) : Type 0 where
  pub count : ℕ
  pub opens : open_at ts p ≡ true
  pub ends : step_length 0 (drop p ts) ≡ some count
  pub starts : start ≡ length (written (length ts ∷ take p ts))
  pub tokens : us ≡ take count (drop p ts)

pub step_at_lem : (ts : List ℕ) (p start : ℕ) (us : List ℕ) → step_in ts p ≡ part start us → StepAt ts p start us
unfolding step_in
step_at_lem ts p start us e = go (open_at ts p) refl (step_length 0 (drop p ts)) refl e
  where
    go : (b : Bool) → open_at ts p ≡ b → (x : Option ℕ) → step_length 0 (drop p ts) ≡ x → cond b (part_from ts p x) (refused 17) ≡ part start us
        → StepAt ts p start us
    go false o x q e = absurd (let z : ◌≡◌ {A = ℕ} 0 1 = cc in omega arith)
    go true o none q e = absurd (let z : ◌≡◌ {A = ℕ} 0 1 = cc in omega arith)
    go true o (some k) q e =
        let a : start ≡ length (written (length ts ∷ take p ts)) = cc in
        let u : us ≡ take k (drop p ts) = cc in
        record { count = k; opens = o; ends = q; starts = a; tokens = u }

-- ── a step in the file ──

-- the tokens of the file that a part was found in
pub record StepIn (s : List ℕ) (p start : ℕ) (us : List ℕ) : Type 0 where
  pub tokens : List ℕ
  pub is : history_of s ≡ HistoryFile.accepted tokens
  pub step : StepAt tokens p start us

pub step_in_lem : (s : List ℕ) (p start : ℕ) (us : List ℕ) → step_of s p ≡ part start us → StepIn s p start us
step_in_lem s p start us e = go (history_of s) refl e
  where
    go : (f : HistoryFile) → history_of s ≡ f → step_from f p ≡ part start us → StepIn s p start us
    go (HistoryFile.refused k) h e = absurd (let z : ◌≡◌ {A = ℕ} 0 1 = cc in omega arith)
    go (HistoryFile.accepted ts) h e = record { tokens = ts; is = h; step = step_at_lem ts p start us e }

-- numbers written in three pieces
pieces : (n : ℕ) (ts : List ℕ) (p k : ℕ)
    → written (n ∷ ts) ≡ written (n ∷ take p ts) ++ (written (take k (drop p ts)) ++ written (drop k (drop p ts)))
pieces n ts p k =
    let whole : take p ts ++ (take k (drop p ts) ++ drop k (drop p ts)) ≡ ts =
    ap (λ (l : List ℕ). take p ts ++ l) (take-append-drop k (drop p ts)) ∙ take-append-drop p ts in
    ap (λ (l : List ℕ). written (n ∷ l)) (sym whole)
    ∙ (written-append (n ∷ take p ts) (take k (drop p ts) ++ drop k (drop p ts))
    ∙ ap (λ (l : List ℕ). written (n ∷ take p ts) ++ l) (written-append (take k (drop p ts)) (drop k (drop p ts))))

-- the middle one of three pieces
middle_inside : (a b c s : List ℕ) (n : ℕ) → n ≡ length a → s ≡ a ++ (b ++ c) → n + length b ≤ length s
middle_inside a b c s n e w = rw (w, length-append, length-append, e) (omega arith)

middle : (a b c s : List ℕ) (n : ℕ) → n ≡ length a → s ≡ a ++ (b ++ c) → take (length b) (drop n s) ≡ b
middle a b c s n e w = rw (w, e, drop-append_seam a (b ++ c), take-append_seam b c)

module _ (s : List ℕ) (small : AllBelow 256 s) (p start : ℕ) (us : List ℕ) (found : step_of s p ≡ part start us) where
  -- the file: what stands in front of the part, the part, and what follows
  pub file_parts : (front back : List ℕ) × (start ≡ length front) × (s ≡ front ++ (written us ++ back))
  file_parts =
      let i = step_in_lem s p start us found in
      let ts = i.tokens in
      let k = i.step.count in
      let front = written (length ts ∷ take p ts) in
      let back = written (drop k (drop p ts)) in
      let us-are = ap (λ (l : List ℕ). front ++ (written l ++ back)) (sym i.step.tokens) in
      (front, back, i.step.starts, ((history_both_ways s small ts).0 i.is).0 ∙ (pieces (length ts) ts p k ∙ us-are))

  pub part_inside : start + length (written us) ≤ length s
  part_inside = let f = file_parts in middle_inside f.0 (written us) f.1 s start f.2 f.3

  -- "that part of the caller's bytes"
  pub part-holds : take (length (written us)) (drop start s) ≡ written us
  part-holds = let f = file_parts in middle f.0 (written us) f.1 s start f.2 f.3

-- ── what a found place tells ──

pub record Within (s : List ℕ) (p start n : ℕ) : Type 0 where
  pub inside : start + n ≤ length s
  pub starts : start ≡ start_in (step_of s p)
  pub holds : take n (drop start s) ≡ bytes_in (step_of s p)

-- of a search that answered a part
pub place_within : (s : List ℕ) → ((i : ℕ) → Fits w8 (get_or s i 0)) → (p : ℕ) → {r : Result Part Refusal} → numbered r ≡ placed (step_of s p)
    → {found : Part} → r ≡ Ok found → Within s p found.start found.length
place_within s each p says {found = found} is = go (step_of s p) refl (sym (ap numbered is) ∙ says)
  where
    small : AllBelow 256 s
    small = below_all 256 s (λ i. omega (arith, each i))

    go : (x : StepPart) → step_of s p ≡ x → Ok found ≡ placed x → Within s p found.start found.length
    go (refused k) q e = absurd (let z : ◌≡◌ {A = ℕ} 0 1 = cc in omega arith)
    go (part a us) q e =
        let ea : found.start ≡ a = cc in
        let en : found.length ≡ length (written us) = cc in
        record {
          inside = rw (ea, en) (part_inside s small p a us q);
          starts = rw (q, ea);
          holds = rw (q, ea, en) (part-holds s small p a us q);
        }
