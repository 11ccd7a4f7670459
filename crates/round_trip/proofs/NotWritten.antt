-- Why a writer is refused: by the number that the elements themselves get, or by 15 where they pass and the buffer is shorter than the
-- file. The buffer stays (document 02, 2.2).
use Prim.Native.Nat.{ℕ, ◌<◌}
use mathlib.Core.Path.{◌≡◌, refl, sym, ap, ◌∙◌}
use mathlib.Core.Logic.{◌↔◌, ◌⊎◌, inl, inr}
use mathlib.Core.Bool.{Bool, true, false, cond}
use mathlib.Core.List.{List, ◌∷◌, ◌++◌}
use borrow.Author.Tests.{ltb-true, lt-ltb}
use lib.Dec.{ltb}
use lib.ListN.{length, drop}
use Rattle.numbers.specs.Written.{written}
use Rattle.elements.specs.believed.Elements.{elements}
use Rattle.grammar_file.specs.believed.GrammarFile.{GrammarFile, grammar_from}
use Rattle.grammar_file.specs.believed.GrammarFile
use Rattle.grammar_file.specs.Wellformed.{numbers_of}
use Rattle.history_file.specs.believed.HistoryFile.{HistoryFile, history_from}
use Rattle.history_file.specs.believed.HistoryFile
use Rattle.service.specs.believed.Given.{Given, given, refused, untouched}
use Rattle.round_trip.proofs.Answers.{apart}
use Rattle.writers.specs.believed.Writers.{filled, grammar_filled, history_filled, grammar_written, history_written}

-- what was answered, and what is in the buffer
same_answer : {d e : ℕ} {x y : List ℕ} → ◌≡◌ {A = Given ℕ × List ℕ} (refused d, x) (refused e, y) → (d ≡ e) × (x ≡ y)
same_answer h =
    let q : ◌≡◌ {A = Given ℕ} (refused _) (refused _) = ap (λ p. p.0) h in
    (cc, ap (λ p. p.1) h)

-- 15, and the buffer stays
abbrev Short : List ℕ → List ℕ → ℕ → List ℕ → Type 0
Short file buffer e out = (e ≡ 15) × (out ≡ buffer) × (length buffer < length file)

filled_short : (file buffer : List ℕ) (e : ℕ) (out : List ℕ) → filled file buffer ≡ (refused e, out) → Short file buffer e out
filled_short file buffer e out h = go (ltb (length buffer) (length file)) refl h
  where
    go : (b : Bool) → ltb (length buffer) (length file) ≡ b
        → cond b (untouched buffer 15) (given (length file), file ++ drop (length file) buffer) ≡ (refused e, out) → Short file buffer e out
    go true t q = let s = same_answer q in (sym s.0, sym s.1, ltb-true (length buffer) (length file) t)
    go false t q = apart q

short_filled : (file buffer : List ℕ) (e : ℕ) (out : List ℕ) → Short file buffer e out → filled file buffer ≡ (refused e, out)
short_filled file buffer e out s = rw (s.0, s.1, lt-ltb (length buffer) (length file) s.2)

module _ (buffer : List ℕ) (e : ℕ) (out : List ℕ) where
  -- the elements' own number and the buffer as it was; or they say an A, and its file has no room
  abbrev Turned : {F A : Type 0} → (ℕ → F) → (A → F) → (A → List ℕ) → F → Type 0
  Turned {F} {A} Turned-down passed numbers said = ((said ≡ Turned-down e) × (out ≡ buffer)) ⊎ ((a : A) × (said ≡ passed a) × Short (written (numbers a)) buffer e out)

  pub grammar_not-written : (es : List ℕ)
      → (grammar_written es buffer ≡ (refused e, out)) ↔ Turned GrammarFile.refused GrammarFile.accepted numbers_of (grammar_from (elements es))
  grammar_not-written es = (λ h. go (grammar_from (elements es)) refl h, back)
    where
      go : (f : GrammarFile) → grammar_from (elements es) ≡ f → grammar_filled f buffer ≡ (refused e, out)
          → Turned GrammarFile.refused GrammarFile.accepted numbers_of (grammar_from (elements es))
      go (GrammarFile.refused d) q r = let s = same_answer r in inl (q ∙ ap GrammarFile.refused s.0, sym s.1)
      go (GrammarFile.accepted g) q r = inr (g, q, filled_short (written (numbers_of g)) buffer e out r)

      back : Turned GrammarFile.refused GrammarFile.accepted numbers_of (grammar_from (elements es)) → grammar_written es buffer ≡ (refused e, out)
      back (inl (q, s)) = rw (q, s)
      back (inr (g, q, s)) = ap (λ f. grammar_filled f buffer) q ∙ short_filled (written (numbers_of g)) buffer e out s

  pub history_not-written : (es : List ℕ)
      → (history_written es buffer ≡ (refused e, out)) ↔ Turned HistoryFile.refused HistoryFile.accepted (λ ts. length ts ∷ ts) (history_from (elements es))
  history_not-written es = (λ h. go (history_from (elements es)) refl h, back)
    where
      go : (f : HistoryFile) → history_from (elements es) ≡ f → history_filled f buffer ≡ (refused e, out)
          → Turned HistoryFile.refused HistoryFile.accepted (λ ts. length ts ∷ ts) (history_from (elements es))
      go (HistoryFile.refused d) q r = let s = same_answer r in inl (q ∙ ap HistoryFile.refused s.0, sym s.1)
      go (HistoryFile.accepted ts) q r = inr (ts, q, filled_short (written (length ts ∷ ts)) buffer e out r)

      back : Turned HistoryFile.refused HistoryFile.accepted (λ ts. length ts ∷ ts) (history_from (elements es)) → history_written es buffer ≡ (refused e, out)
      back (inl (q, s)) = rw (q, s)
      back (inr (ts, q, s)) = ap (λ f. history_filled f buffer) q ∙ short_filled (written (length ts ∷ ts)) buffer e out s
