-- The words written so far, position by position: a list of as many words as have been passed, and then the buffer as it was.
use Prim.Native.Nat.{ℕ, zero, suc, ◌+◌, ◌*◌, ◌/◌, ◌%◌, ◌<◌, ◌≤◌}
use native.Mathlib.Nat.{zero-add, suc-add}
use native.Mathlib.Numerals.{add-one}
use native.Mathlib.Omega.{arith}
use mathlib.Core.Path.{◌≡◌, refl, sym, ◌∙◌, ap}
use mathlib.Core.List.{List, ◌∷◌, ◌++◌}
use lib.ListN.{length, take, drop, length-append, length-drop}
use lib.Seq.{take_at, drop_at, drop-drop}
use Rattle.vpg.specs.declared.Token.{Token}
use Rattle.vpg.specs.believed.Grammar.{Grammar}
use Rattle.sets_theory.specs.believed.Sets.{listed, set_word, set_words}
use Rattle.sets_theory.proofs.Sets.{length-listed, listed_cong}

-- ── lists of values ──

module _ {A : Type 0} where
  listed-add : (a b : ℕ) (f : ℕ → A) → listed (a + b) f ≡ listed a f ++ listed b (λ i. f (a + i))
  listed-add zero b f = rw zero-add (listed_cong b f (λ i. f (0 + i)) (λ i l. rw zero-add))
  listed-add (suc a) b f =
      rw suc-add (ap (λ (l : List A). f 0 ∷ l) (listed-add a b (λ i. f (suc i)) ∙ ap (λ (l : List A). listed a (λ i. f (suc i)) ++ l) (listed_cong b _ _ (λ i l. rw suc-add))))

-- ── the buffer ──

-- the words of the first p positions are written, over what was there
pub record Written (g : Grammar) (w : List Token) (old : List ℕ) (p : ℕ) (words : List ℕ) : Type 0 where
  pub is : words ≡ listed (4 * p) (λ i. set_word g w (i / 4) (i % 4)) ++ drop (4 * p) old

pub written_none : {g : Grammar} {w : List Token} {old : List ℕ} → Written g w old 0 old
written_none = record { is = refl }

module _ {g : Grammar} {w : List Token} {old : List ℕ} {p : ℕ} {words : List ℕ} (k : Written g w old p words) where
  abbrev word_at : ℕ → ℕ
  word_at i = set_word g w (i / 4) (i % 4)

  pub written-length : 4 * p ≤ length old → length words ≡ length old
  written-length h = rw (k.is, length-append, length-listed, length-drop) (omega arith)

  pub written_next : {set : List ℕ} → 4 * p + 4 ≤ length old → set ≡ listed 4 (set_word g w p) → Written g w old (p + 1) (take (4 * p) words ++ set ++ drop (4 * p + 4) words)
  written_next {set} h q =
      let a = listed (4 * p) word_at in
      let b = listed 4 (set_word g w p) in
      let la : length a ≡ 4 * p = length-listed (4 * p) word_at in
      let i : take (4 * p) words ≡ a = ap (take (4 * p)) k.is ∙ take_at a (drop (4 * p) old) (4 * p) la in
      let d : drop (4 * p + 4) words ≡ drop (4 * p + 4) old = sym (drop-drop 4 (4 * p) words) ∙ ap (drop 4) (ap (drop (4 * p)) k.is ∙ drop_at a (drop (4 * p) old) (4 * p) la) ∙ drop-drop 4 (4 * p) old in
      let l : 4 * (p + 1) ≡ 4 * p + 4 = omega arith in
      let long = written-length (omega arith) in
      let s : listed 4 (λ i. word_at (4 * p + i)) ≡ b = listed_cong 4 (λ i. word_at (4 * p + i)) (set_word g w p) here in
      record { is = rw (i, q, d, l, listed-add (4 * p) 4 word_at, s) }
    where
      here : (i : ℕ) → i < 4 → word_at (4 * p + i) ≡ set_word g w p i
      here i h =
          let d : (4 * p + i) / 4 ≡ p = omega arith in
          let r : (4 * p + i) % 4 ≡ i = omega arith in
          rw (d, r)

  pub written_all : {n : ℕ} → length w ≡ n → p ≡ n + 1 → words ≡ set_words g w ++ drop (4 * (n + 1)) old
  unfolding set_words
  written_all e q = k.is ∙ rw (q, e, add-one)
