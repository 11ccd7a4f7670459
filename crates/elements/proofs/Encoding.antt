-- The bytes of the first elements, one more at a turn of the loop that encodes them.
use Prim.Native.Nat.{ℕ, min, ◌+◌, ◌*◌, ◌/◌, ◌%◌, ◌<◌, ◌≤◌}
use mathlib.Core.Path.{◌≡◌, refl, sym, ap, ◌∙◌}
use mathlib.Core.List.{List, [], ◌∷◌, ◌++◌, append-nil, map, map-append}
use native.Mathlib.Omega.{arith}
use native.Mathlib.Numerals.{add-one}
use lib.ListN.{length, get_or, take, drop, length-append}
use lib.Seq.{take-suc, take_all, take_at, drop-append-add, drop-drop}
use Rattle.numbers.specs.Written.{shortest, written}
use Rattle.numbers.proofs.Written.{one_byte, two_bytes, three_bytes, shortest_most, written-append}
use Rattle.elements.specs.Encoded.{writable, encoded}

-- ── a number that can be written ──

pub writable_large : (n : ℕ) → 2097151 < n → writable n ≡ 2097151
unfolding writable
writable_large n h = omega arith

pub writable-same : (n : ℕ) → n ≤ 2097151 → writable n ≡ n
unfolding writable
writable-same n h = omega arith

pub writable_small : (n : ℕ) → writable n < 2097152
unfolding writable
writable_small n = omega arith

-- a number below 128 is its own byte, one below 128 × 128 has two bytes, a larger one three
pub one-byte_of : (n : ℕ) → n < 128 → shortest (writable n) ≡ n ∷ []
one-byte_of n h = rw (writable-same n (omega arith)) (one_byte n h)

pub two_bytes_of : (n : ℕ) → 128 ≤ n → n < 16384 → shortest (writable n) ≡ (n % 128 + 128) ∷ (n / 128) ∷ []
two_bytes_of n h m = rw (writable-same n (omega arith)) (two_bytes n h m)

pub three_bytes_of : (n : ℕ) → 16384 ≤ n → shortest (writable n) ≡ (writable n % 128 + 128) ∷ (writable n / 128 % 128 + 128) ∷ (writable n / 16384) ∷ []
unfolding writable
three_bytes_of n h =
    let l : 16384 ≤ min n 2097151 = omega arith in
    let halves : min n 2097151 / 128 / 128 ≡ min n 2097151 / 16384 = omega arith in
    three_bytes (min n 2097151) l ∙ rw halves

module _ (es : List ℕ) where
  -- the bytes of the first i elements
  abbrev pub bytes_to : ℕ → List ℕ
  bytes_to i = written (map writable (take i es))

  pub bytes_next : (i : ℕ) → i < length es → bytes_to (i + 1) ≡ bytes_to i ++ shortest (writable (get_or es i 0))
  unfolding written
  bytes_next i h =
      let e : take (i + 1) es ≡ take i es ++ (get_or es i 0 ∷ []) = rw add-one (take-suc es i 0 h) in
      ap (λ l. written (map writable l)) e
      ∙ (ap written (map-append writable (take i es) (get_or es i 0 ∷ []))
      ∙ (written-append (map writable (take i es)) (writable (get_or es i 0) ∷ []) ∙ rw append-nil))

  module _ (file₀ : List ℕ) where
    -- the first i elements are encoded, up to a place
    pub record EncodedTo (file : List ℕ) (at i : ℕ) : Type 0 where
      pub at_is : at ≡ length (bytes_to i)
      pub room : at ≤ 3 * i
      pub file_is : file ≡ bytes_to i ++ drop at file₀

    pub encoding_starts : EncodedTo file₀ 0 0
    unfolding written
    encoding_starts = record { at_is = refl; room = omega arith; file_is = refl }

    module _ (file : List ℕ) (at i next : ℕ) (h : i < length es) (q : EncodedTo file at i) (n : next ≡ at + length (shortest (writable (get_or es i 0)))) where
      abbrev bytes : List ℕ
      bytes = shortest (writable (get_or es i 0))

      behind : drop next file ≡ drop next file₀
      behind =
          rw (q.file_is, n, q.at_is) (drop-append-add (bytes_to i) (drop (length (bytes_to i)) file₀) (length bytes) ∙ drop-drop (length bytes) (length (bytes_to i)) file₀)

      before : take at file ≡ bytes_to i
      before = ap (take at) q.file_is ∙ take_at (bytes_to i) (drop at file₀) at (sym q.at_is)

      pub encoding_goes : EncodedTo (take at file ++ bytes ++ drop next file) next (i + 1)
      encoding_goes = record {
        at_is = n ∙ (ap (λ k. k + length bytes) q.at_is ∙ (sym (length-append (bytes_to i) bytes) ∙ ap length (sym (bytes_next i h))));
        room = omega (arith, q.room, n, shortest_most (writable (get_or es i 0)));
        file_is = rw (before, behind, bytes_next i h);
      }

    -- with `es` the elements that are looked at, of all that there are
    pub encoding_ends : (all file : List ℕ) (at i : ℕ) → es ≡ take 1026 all → length es ≤ i → EncodedTo file at i
        → (at ≡ length (encoded all)) × (file ≡ encoded all ++ drop at file₀)
    unfolding encoded
    encoding_ends all file at i is above q =
        let b : bytes_to i ≡ written (map writable (take 1026 all)) = ap (λ l. written (map writable l)) (take_all i es above ∙ is) in
        (q.at_is ∙ ap length b, q.file_is ∙ ap (λ l. l ++ drop at file₀) b)

    -- the front of what `encode` leaves is the encoding
    module _ (file : List ℕ) (n : ℕ) (size : n ≡ length (encoded es)) (is : file ≡ encoded es ++ drop n file₀) where
      pub encoded-part : take n file ≡ encoded es
      encoded-part = ap (take n) is ∙ take_at (encoded es) (drop n file₀) n (sym size)

      pub encoded_room : n ≤ length file
      encoded_room =
          let l : length file ≡ length (encoded es) + length (drop n file₀) = ap length is ∙ length-append (encoded es) (drop n file₀) in
          omega (arith, l, size)
