-- The pieces of a text, one behind the other, are the whole of it: none overlaps another, and none is missing.
use Prim.Native.Nat.{ℕ, zero, suc, ◌+◌, ◌-◌, ◌<◌, ◌≤◌, min}
use native.Mathlib.Omega.{arith}
use mathlib.Core.Path.{◌≡◌, refl, sym, ◌∙◌, ap, subst}
use mathlib.Core.Logic.{◌≢◌}
use mathlib.Core.Bool.{Bool, true, false, ◌&&◌, false≢true}
use mathlib.Core.List.{List, [], ◌∷◌, ◌++◌, append-nil, append_assoc}
use borrow.Author.Tests.{eqb-true, eqb-false, ltb-false}
use lib.Dec.{eqb, ltb}
use lib.ListN.{length, take, drop, length-append, length-take, length-drop, drop_of_length-le}
use lib.Seq.{drop-drop}
use Rattle.lines.specs.believed.Window.{shown, window}
use Rattle.listing_text.specs.declared.Piece.{Piece}
use Rattle.listing_text.specs.believed.Pieces.{goes_on, piece_of, piece_after}
use Rattle.listing_text.specs.believed.Written.{Pieces, none, one_more, Written}

-- what is shown, and the rest
shown_rest : (size : ℕ) (l : List ℕ) → take size l ++ drop (length (take size l)) l ≡ l
shown_rest zero l = refl
shown_rest (suc size) [] = refl
shown_rest (suc size) (x ∷ l) = ap (λ (m : List ℕ). x ∷ m) (shown_rest size l)

shown-length : (start size : ℕ) (text : List ℕ) → length (shown start size text) ≡ min size (length text - start)
shown-length start size text = length-take size (drop start text) ∙ ap (min size) (length-drop start text)

-- ── how far a piece goes ──

-- behind a piece with none to follow nothing is left, if there is room for a byte
last_reaches : (start size : ℕ) (text : List ℕ) → 0 < size → goes_on (length (shown start size text)) size ≡ false → length text ≤ start + length (shown start size text)
last_reaches start size text room = go (length (shown start size text)) (shown-length start size text)
  where
    go : (n : ℕ) → n ≡ min size (length text - start) → goes_on n size ≡ false → length text ≤ start + n
    go n is e = by_test (eqb n size) (ltb 0 n) refl refl e
      where
        by_test : (a b : Bool) → eqb n size ≡ a → ltb 0 n ≡ b → (a && b) ≡ false → length text ≤ start + n
        by_test true true same more e = absurd (false≢true (sym e))
        by_test true false same more e = omega (arith, eqb-true n size same, ltb-false 0 n more)
        by_test false b other more e = let d : n ≢ size = eqb-false n size other in omega (arith, is, d)

pub piece_is : (p : Piece) (out text : List ℕ) (n : ℕ) (new : List ℕ) (more : Bool) → (n, new) ≡ window p.end out text → more ≡ goes_on n (length out) →
    (record { end = p.end + n; length = n; more = more }, new) ≡ piece_after p out text
piece_is p out text n new more e goes = rw goes (ap (piece_of p.end (length out)) e)

-- ── all pieces ──

-- what was written, and the rest of the text
record SoFar (text out₀ : List ℕ) (p : Piece) (out all : List ℕ) : Type 0 where
  rest : all ++ drop p.end text ≡ text
  same : length out ≡ length out₀
  done : 0 < length out₀ → p.more ≡ false → length text ≤ p.end
  within : p.end ≤ length text
  fits : p.length ≤ length out

filled : (skip : ℕ) (out text : List ℕ) → length (window skip out text).1 ≡ length out
filled skip out text =
    let s = shown skip (length out) text in
    length-append s (drop (length s) out) ∙ (let n : length (drop (length s) out) ≡ length out - length s = length-drop (length s) out in omega (arith, n, shown-length skip (length out) text))

so_far : {text out₀ : List ℕ} {p : Piece} {out all : List ℕ} → Pieces text out₀ p out all → SoFar text out₀ p out all
so_far {text} {out₀} none = record { rest = refl; same = refl; done = λ room e. absurd (false≢true (sym e)); within = omega arith; fits = omega arith }
so_far {text} {out₀} (one_more p out all before more) =
    let k = so_far before in
    let s = shown p.end (length out) text in
    let behind : drop (p.end + length s) text ≡ drop (length s) (drop p.end text) = sym (drop-drop (length s) p.end text) in
    record {
      rest = append_assoc all s (drop (p.end + length s) text) ∙ ap (λ (l : List ℕ). all ++ (s ++ l)) behind
          ∙ ap (λ (l : List ℕ). all ++ l) (shown_rest (length out) (drop p.end text)) ∙ k.rest;
      same = filled p.end out text ∙ k.same;
      done = λ room e. last_reaches p.end (length out) text (omega (arith, k.same, room)) e;
      within = omega (arith, shown-length p.end (length out) text, k.within);
      fits = omega (arith, shown-length p.end (length out) text, filled p.end out text);
    }

-- the bytes of all pieces, one behind the other, are the whole text
pub written-whole : {text out₀ : List ℕ} {p : Piece} {out : List ℕ} → 0 < length out₀ → (w : Written text out₀ p out) → w.all ≡ text
written-whole {text} {out₀} {p} {out} room w =
    let k = so_far w.pieces in
    sym (append-nil w.all) ∙ ap (λ (l : List ℕ). w.all ++ l) (sym (drop_of_length-le text {i = p.end} (k.done room w.last))) ∙ k.rest

-- ── from piece to piece ──

module _ (text : List ℕ) (p : Piece) (out : List ℕ) (q : Piece) (new : List ℕ) (is : ◌≡◌ {A = Piece × List ℕ} (q, new) (piece_after p out text)) where
  pub piece_added : {out₀ all : List ℕ} → Pieces text out₀ p out all → p.more ≡ true → (every : List ℕ) × Pieces text out₀ q new every
  piece_added {out₀} {all} k more =
      let every = all ++ shown p.end (length out) text in
      (every, subst (λ (x : Piece × List ℕ). Pieces text out₀ x.0 x.1 every) (sym is) (one_more p out all k more))

-- the last piece lies within the text and within the buffer
pub written-fits : {text out₀ : List ℕ} {p : Piece} {out : List ℕ} → Written text out₀ p out → (p.end ≤ length text) × (p.length ≤ length out)
written-fits w = let k = so_far w.pieces in (k.within, k.fits)
