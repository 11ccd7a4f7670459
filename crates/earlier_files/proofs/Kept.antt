-- A reading before a request and the reading since: they are the same, or the one before was a refusal that the request moved. Numbers with
-- one byte more allowed, and fields with a wider range, are kept so.
use Prim.Native.Nat.{ℕ, zero, suc, ◌+◌, ◌-◌, ◌≤◌}
use mathlib.Core.Path.{◌≡◌, refl, ap, ◌∙◌}
use mathlib.Core.Logic.{◌⊎◌, inl, inr}
use mathlib.Core.Bool.{Bool, true, false, cond}
use mathlib.Core.List.{List}
use native.Mathlib.Omega.{arith}
use borrow.Author.Tests.{ltb-true, lt-ltb}
use lib.Dec.{ltb}
use lib.ListN.{length, get_or}
use Rattle.std.specs.Prelude.{Ok, Err}
use Rattle.refusal.specs.declared.Refusal.{Refusal}
use Rattle.numbers.specs.believed.Number.{Read, with_group, number_within}
use Rattle.numbers.specs.believed.Field.{limited, field_at, positive, count_at}

-- which refusals have moved; how a refusal is said; the answer before and since
abbrev pub Kept : {A : Type 0} → (Refusal → Type 0) → (Refusal → A) → A → A → Type 0
Kept Moved refuses before since = (since ≡ before) ⊎ ((e : Refusal) × Moved e × (before ≡ refuses e))

module _ (Moved : Refusal → Type 0) where
  -- what a refusal passes through keeps what follows it
  pub followed : {A B : Type 0} {ra : Refusal → A} {rb : Refusal → B} (f g : A → B) → ((e : Refusal) → f (ra e) ≡ rb e) → ((r : A) → Kept Moved rb (f r) (g r))
      → {before since : A} → Kept Moved ra before since → Kept Moved rb (f before) (g since)
  followed f g stands goes {before} (inl same) = rw same (goes before)
  followed f g stands goes (inr (e, m, was)) = inr (e, m, ap f was ∙ stands e)

  pub either-kept : {A : Type 0} {refuses : Refusal → A} (b : Bool) {x x' y y' : A} → Kept Moved refuses x x' → Kept Moved refuses y y'
      → Kept Moved refuses (cond b x y) (cond b x' y')
  either-kept true k l = k
  either-kept false k l = l

  -- a number with one byte more allowed
  pub number-kept : Moved Refusal.NotShortest → (s : List ℕ) (most at : ℕ) → Kept Moved Err (number_within most s at) (number_within (suc most) s at)
  unfolding number_within
  number-kept two s zero at = inr (Refusal.NotShortest, two, refl)
  number-kept two s (suc most) at =
      either-kept (ltb at (length s))
      (either-kept (ltb (get_or s at 0) 128) (inl refl)
      (followed (with_group (get_or s at 0 - 128)) (with_group (get_or s at 0 - 128)) (λ e. refl) (λ r. inl refl) (number-kept two s most (at + 1))))
      (inl refl)

  -- the range is what it was, or it is wider and its refusal has moved
  abbrev pub Wider : ℕ → ℕ → Refusal → Type 0
  Wider limit wide e = (limit ≡ wide) ⊎ ((limit ≤ wide) × Moved e)

  limited-kept : (limit wide : ℕ) (e : Refusal) → Wider limit wide e → (r : Read ℕ) → Kept Moved Err (limited r limit e) (limited r wide e)
  limited-kept limit wide e (inl same) r = inl (rw same)
  limited-kept limit wide e (inr (l, m)) (Err d) = inl refl
  limited-kept limit wide e (inr (l, m)) (Ok (n, p)) = go (ltb n limit) refl
    where
      go : (b : Bool) → ltb n limit ≡ b → Kept {A = Read ℕ} Moved Err (cond b (Ok (n, p)) (Err e)) (cond (ltb n wide) (Ok (n, p)) (Err e))
      go true t = let h = ltb-true n limit t in inl (rw (lt-ltb n wide (omega arith)))
      go false t = inr (e, m, refl)

  -- over two ways to read a number
  module _ {number number' : ℕ → Read ℕ} (numbers : (at : ℕ) → Kept Moved Err (number at) (number' at)) where
    pub field-kept : (at limit wide : ℕ) (e : Refusal) → Wider limit wide e → Kept Moved Err (field_at number at limit e) (field_at number' at wide e)
    unfolding field_at
    field-kept at limit wide e w =
        followed (λ r. limited r limit e) (λ r. limited r wide e) (λ d. refl) (limited-kept limit wide e w) (numbers at)

    pub count_kept : (at most : ℕ) (e : Refusal) → Kept Moved Err (count_at number at most e) (count_at number' at most e)
    unfolding count_at
    count_kept at most e =
        followed (λ r. positive r e) (λ r. positive r e) (λ d. refl) (λ r. inl refl) (field-kept at (most + 1) (most + 1) e (inl refl))
