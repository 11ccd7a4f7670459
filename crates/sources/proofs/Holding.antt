-- Elements hold themselves and nothing else; bytes hold one list of numbers at most.
use Prim.Native.Nat.{ℕ, ◌+◌, ◌<◌, ◌≤◌}
use mathlib.Core.Path.{◌≡◌, refl, sym, ap, ◌∙◌}
use mathlib.Core.Logic.{◌↔◌}
use mathlib.Core.Bool.{false}
use mathlib.Core.List.{List, [], ◌∷◌, ◌++◌, append-nil}
use native.Mathlib.Omega.{arith}
use native.Mathlib.Numerals.{add-one}
use borrow.Author.Tests.{ltb-true, ltb-false, lt-ltb, le-ltb}
use lib.Dec.{ltb}
use lib.ListN.{length, get_or, drop, drop_of_length-le, length-drop}
use lib.Seq.{drop-cons}
use Rattle.laws.proofs.Bools.{chose_first}
use Rattle.laws.proofs.Lists.{heads, tails}
use Rattle.numbers.specs.believed.Number.{number_within, number_at, bytes}
use Rattle.numbers.specs.Written.{NumbersAt, none, one, Holds}
use Rattle.std.specs.Prelude.{Ok}
use Rattle.numbers.specs.believed.Number.{Read}
use Rattle.numbers.proofs.Results.{apart, same_read}
use Rattle.elements.specs.believed.Elements.{element_at, elements}

-- ── elements ──

module _ (es : List ℕ) where
  element_read : (at n next : ℕ) → element_at es at ≡ Ok (n, next) → (drop at es ≡ n ∷ drop next es) × (next ≤ length es)
  unfolding element_at
  element_read at n next h =
      let p = chose_first (ltb at (length es)) _ _ apart h in
      let l = ltb-true at (length es) p.0 in
      let (en, ep) = same_read p.1 in
      (rw (← en, ← ep, add-one) (drop-cons es at 0 l), omega arith)

  elements_read : {at next : ℕ} {ns : List ℕ} → NumbersAt (element_at es) at ns next → drop at es ≡ ns ++ drop next es
  elements_read none = refl
  elements_read (one {at} {n} {p} e rest) = (element_read at n p e).0 ∙ ap (λ l. n ∷ l) (elements_read rest)

  elements_stand : (ns : List ℕ) (at : ℕ) → at ≤ length es → drop at es ≡ ns → NumbersAt (element_at es) at ns (length es)
  unfolding element_at
  elements_stand [] at h e =
      let n : length es ≡ at = omega (arith, h, rw length-drop at (ap length e)) in
      rw n none
  elements_stand (n ∷ ns) at h e =
      let l : at < length es = omega (arith, rw length-drop at (ap length e)) in
      let d : get_or es at 0 ∷ drop (at + 1) es ≡ n ∷ ns = rw (add-one, ← drop-cons es at 0 l) e in
      let read : element_at es at ≡ Ok (n, at + 1) = rw (lt-ltb at (length es) l, heads d) in
      one read (elements_stand ns (at + 1) (omega arith) (tails d))

  pub elements_hold : (ns : List ℕ) → Holds (elements es) ns ↔ (es ≡ ns)
  elements_hold ns = (
    λ (end, i, done). elements_read i ∙ rw (drop_of_length-le es (ltb-false end (length es) done), append-nil),
    λ e. (length es, elements_stand ns 0 (omega arith) e, le-ltb (length es) (length es) (omega arith)),
  )

-- ── bytes ──

module _ (s : List ℕ) where
  end_read : (at n next : ℕ) → ltb at (length s) ≡ false → number_at s at ≡ Ok (n, next) → ⊥
  unfolding number_at number_within
  end_read at n next e h = apart (rw e at h)

  same_numbers : {at p q : ℕ} {ns ms : List ℕ} → NumbersAt (number_at s) at ns p → ltb p (length s) ≡ false
      → NumbersAt (number_at s) at ms q → ltb q (length s) ≡ false → ns ≡ ms
  same_numbers none e none f = refl
  same_numbers none e (one {at} {n} {p} h rest) f = absurd (end_read at n p e h)
  same_numbers (one {at} {n} {p} h rest) e none f = absurd (end_read at n p f h)
  same_numbers (one {at} {n} {p} {next} {ns} h rest) e (one {at = at2} {n = m} {p = q} {next = next2} {ns = ms} k more) f =
      let z : ◌≡◌ {A = Read ℕ} (Ok (n, p)) (Ok (m, q)) = sym h ∙ k in
      let (en, ep) = same_read z in
      rw en (ap (λ l. m ∷ l) (same_numbers rest e (rw (← ep) at more) f))

  pub bytes_hold_one : (ns ms : List ℕ) → Holds (bytes s) ns → Holds (bytes s) ms → ns ≡ ms
  bytes_hold_one ns ms (p, i, e) (q, j, f) = same_numbers i e j f
