-- A file's elements say what their bytes say: of more elements than the longest file has numbers the rest is never reached, and a number
-- too large to be written is above every range, as is the one in its place. Elements that can be written are judged as their file is.
use Prim.Native.Nat.{ℕ, zero, suc, ◌+◌, ◌/◌, ◌%◌, ◌<◌, ◌≤◌}
use mathlib.Core.Path.{◌≡◌, refl, sym, ap, ◌∙◌}
use mathlib.Core.Logic.{inl, inr}
use mathlib.Core.Bool.{Bool, true, false, cond}
use mathlib.Core.List.{List, [], ◌∷◌, ◌++◌, map, map-append}
use native.Mathlib.Omega.{arith}
use borrow.Author.Tests.{ltb-true, ltb-false, lt-ltb, le-ltb}
use lib.Dec.{ltb}
use lib.ListN.{length, get_or, take, drop, length-append, length-take}
use lib.Seq.{take_all, take-take, get_or-take, split_at}
use Rattle.numbers.specs.believed.Number.{number_within, number_at, bytes}
use Rattle.numbers.specs.Written.{AllBelow, shortest_with, shortest, written}
use Rattle.numbers.proofs.Written.{limit_with, below_append, number-written, written-append, shortest-some}
use Rattle.std.specs.Prelude.{Ok, Err}
use Rattle.refusal.specs.declared.Refusal.{Refusal}
use Rattle.elements.specs.believed.Elements.{element_at, elements}
use Rattle.elements.specs.Encoded.{writable, encoded}
use Rattle.elements.proofs.Encoding.{bytes_to, bytes_next, writable_large, writable-same, writable_small}
use Rattle.grammar_file.specs.believed.GrammarFile.{grammar_from, grammar_of}
use Rattle.history_file.specs.believed.HistoryFile.{history_from, history_of}
use Rattle.sources.proofs.Alike.{SameBelow, SameNumber, both, neither, Alike}
use Rattle.sources.proofs.Grammars.{grammar_alike}
use Rattle.sources.proofs.Histories.{history_alike}

same-writable : (n : ℕ) → SameBelow 2097151 n (writable n)
same-writable n = go (ltb 2097151 n) refl
  where
    go : (b : Bool) → ltb 2097151 n ≡ b → SameBelow 2097151 n (writable n)
    go true e = let h = ltb-true 2097151 n e in inr (omega arith, rw (writable_large n h) (omega arith))
    go false e = inl (sym (writable-same n (ltb-false 2097151 n e)))

-- ── the bytes are bytes ──

shortest-bytes : (more n : ℕ) → n < limit_with more → AllBelow 256 (shortest_with more n)
unfolding shortest_with
shortest-bytes zero n h = (omega arith, tt)
shortest-bytes (suc more) n h = go (ltb n 128) refl (shortest-bytes more (n / 128) (omega arith))
  where
    go : (b : Bool) → ltb n 128 ≡ b → AllBelow 256 (shortest_with more (n / 128)) → AllBelow 256 (cond b (n ∷ []) ((n % 128 + 128) ∷ shortest_with more (n / 128)))
    go true e rest = let l = ltb-true n 128 e in (omega arith, tt)
    go false e rest = (omega arith, rest)

pub bytes_below : (ns : List ℕ) → AllBelow 2097152 ns → AllBelow 256 (written ns)
unfolding written shortest
bytes_below [] h = tt
bytes_below (n ∷ ns) h = below_append 256 (shortest n) (written ns) (shortest-bytes 2 n h.0) (bytes_below ns h.1)

-- ── the places of elements and bytes ──

-- of the first elements, as many as `most`
module _ (es : List ℕ) (most : ℕ) where
  -- the place of an element, and that of its bytes; with k numbers still to be read the end isn't reached
  pub record Together (k p q : ℕ) : Type 0 where
    pub few : p + k < most
    pub place : q ≡ length (bytes_to es p)

  module _ (p : ℕ) (few : p < most) where
    -- an element that is there
    module _ (inside : p < length es) where
      abbrev number : ℕ
      number = get_or es p 0

      abbrev rest : List ℕ
      rest = written (map writable (drop (suc p) (take most es)))

      there : p < length (take most es)
      there = rw length-take (omega arith)

      parts : bytes_to es most ≡ bytes_to es p ++ (shortest (writable number) ++ rest)
      unfolding written
      parts =
          let l = take most es in
          let e : l ≡ take p es ++ number ∷ drop (suc p) l = split_at l p 0 there ∙ rw (take-take p most es (omega arith), get_or-take most es p 0 few) in
          ap (λ z. written (map writable z)) e
          ∙ (ap written (map-append writable (take p es) (number ∷ drop (suc p) l)) ∙ written-append (map writable (take p es)) (map writable (number ∷ drop (suc p) l)))

      byte-number : number_at (bytes_to es most) (length (bytes_to es p)) ≡ Ok (writable number, length (bytes_to es (p + 1)))
      byte-number =
          rw (parts, bytes_next es p inside, length-append) (number-written (bytes_to es p) (writable number) rest (writable_small number))

      element_number : element_at es p ≡ Ok (number, p + 1)
      unfolding element_at
      element_number = rw (lt-ltb p (length es) inside)

      byte_more : ltb (length (bytes_to es p)) (length (bytes_to es most)) ≡ true
      byte_more = lt-ltb (length (bytes_to es p)) (length (bytes_to es most)) (rw (parts, length-append, length-append) (omega (arith, shortest-some (writable number))))

    -- behind the last element
    module _ (behind : length es ≤ p) where
      end_is : length (bytes_to es p) ≡ length (bytes_to es most)
      end_is = ap (λ l. length (written (map writable l))) (take_all p es behind ∙ sym (take_all most es (omega arith)))

      byte-none : number_at (bytes_to es most) (length (bytes_to es p)) ≡ Err Refusal.Truncated
      unfolding number_at number_within
      byte-none = rw (end_is, le-ltb (length (bytes_to es most)) (length (bytes_to es most)) (omega arith))

      element_none : element_at es p ≡ Err Refusal.Truncated
      unfolding element_at
      element_none = rw (le-ltb p (length es) behind)

      byte_end : ltb (length (bytes_to es p)) (length (bytes_to es most)) ≡ false
      byte_end = le-ltb (length (bytes_to es p)) (length (bytes_to es most)) (omega (arith, end_is))

  number_together : (k p q : ℕ) → Together (suc k) p q → SameNumber 2097151 (Together k) (element_at es p) (number_at (bytes_to es most) q)
  number_together k p q t = rw t.place (go (ltb p (length es)) refl)
    where
      go : (b : Bool) → ltb p (length es) ≡ b → SameNumber 2097151 (Together k) (element_at es p) (number_at (bytes_to es most) (length (bytes_to es p)))
      go true e =
          let h = ltb-true p (length es) e in
          let f : p < most = omega (arith, t.few) in
          let next : Together k (p + 1) (length (bytes_to es (p + 1))) = record { few = omega (arith, t.few); place = refl } in
          rw (element_number p f h, byte-number p f h) (both (same-writable (get_or es p 0)) next)
      go false e =
          let h = ltb-false p (length es) e in
          let f : p < most = omega (arith, t.few) in
          rw (element_none p f h, byte-none p f h) neither

  more_together : (k p q : ℕ) → Together k p q → ltb p (length es) ≡ ltb q (length (bytes_to es most))
  more_together k p q t = rw t.place (go (ltb p (length es)) refl)
    where
      go : (b : Bool) → ltb p (length es) ≡ b → ltb p (length es) ≡ ltb (length (bytes_to es p)) (length (bytes_to es most))
      go true e = e ∙ sym (byte_more p (omega (arith, t.few)) (ltb-true p (length es) e))
      go false e = e ∙ sym (byte_end p (omega (arith, t.few)) (ltb-false p (length es) e))

  together : Alike (elements es) (bytes (bytes_to es most)) 2097151 Together
  together = record {
    number = number_together;
    more = more_together;
    fewer = λ j k p q h t. record { few = omega (arith, t.few, h); place = t.place };
  }

  starts : (k : ℕ) → k < most → Together k 0 0
  unfolding written
  starts k h = record { few = omega arith; place = refl }

  grammar_cut : 772 < most → grammar_from (elements es) ≡ grammar_of (bytes_to es most)
  grammar_cut h = grammar_alike together (omega arith) (omega arith) (starts 772 h)

  history_cut : 1025 < most → history_from (elements es) ≡ history_of (bytes_to es most)
  history_cut h = history_alike together (omega arith) (starts 1025 h)

-- ── what a writer hands to the reader ──

module _ (es : List ℕ) where
  pub grammar_encoded : grammar_from (elements es) ≡ grammar_of (encoded es)
  unfolding encoded
  grammar_encoded = grammar_cut es 1026 (omega arith)

  pub history_encoded : history_from (elements es) ≡ history_of (encoded es)
  unfolding encoded
  history_encoded = history_cut es 1026 (omega arith)

-- ── elements that can be written: they are judged as the file of these numbers is ──

all-writable : (ns : List ℕ) → AllBelow 2097152 ns → map writable ns ≡ ns
all-writable [] h = refl
all-writable (n ∷ ns) h = rw (writable-same n (omega (arith, h.0)), all-writable ns h.1)

module _ (ns : List ℕ) (small : AllBelow 2097152 ns) where
  whole : bytes_to ns (1026 + length ns) ≡ written ns
  whole = ap (λ l. written (map writable l)) (take_all (1026 + length ns) ns (omega arith)) ∙ ap written (all-writable ns small)

  pub grammar_judged : grammar_from (elements ns) ≡ grammar_of (written ns)
  grammar_judged = grammar_cut ns (1026 + length ns) (omega arith) ∙ ap grammar_of whole

  pub history_judged : history_from (elements ns) ≡ history_of (written ns)
  history_judged = history_cut ns (1026 + length ns) (omega arith) ∙ ap history_of whole
