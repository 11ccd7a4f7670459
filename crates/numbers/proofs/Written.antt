-- A number is read from real bytes exactly where its shortest form stands, and a file holds numbers exactly where it is their writing.
use Prim.Native.Nat.{ℕ, zero, suc, ◌+◌, ◌-◌, ◌*◌, ◌/◌, ◌%◌, ◌<◌, ◌≤◌}
use mathlib.Core.Path.{◌≡◌, refl, sym, ap, ◌∙◌}
use mathlib.Core.Logic.{◌↔◌, ◌≢◌}
use mathlib.Core.Bool.{Bool, true, false, cond}
use mathlib.Core.List.{List, [], ◌∷◌, ◌++◌, append-nil, append_assoc}
use native.Mathlib.Omega.{arith}
use native.Mathlib.Numerals.{add-one}
use lib.Dec.{ltb, eqb}
use lib.ListN.{length, get_or, drop, length-drop, drop_of_length-le}
use lib.Seq.{drop-cons, drop-drop, drop-append_seam}
use borrow.Author.Tests.{ltb-true, ltb-false, lt-ltb, le-ltb, eqb-false, ne_eqb}
use Rattle.std.specs.Prelude.{Ok, Err}
use Rattle.refusal.specs.declared.Refusal.{Refusal}
use Rattle.numbers.specs.believed.Number.{Read, with_group, number_within, number_at, bytes}
use Rattle.numbers.proofs.Results.{apart, same_read}
use Rattle.numbers.specs.Written.{AllBelow, shortest_with, shortest, written, NumbersAt, none, one, Holds}
use Rattle.laws.proofs.Bools.{chose_first, chose_second}

below_at : (limit : ℕ) (ns : List ℕ) (i : ℕ) → AllBelow limit ns → i < length ns → get_or ns i 0 < limit
below_at limit [] i b h = absurd (omega arith)
below_at limit (n ∷ ns) zero b h = b.0
below_at limit (n ∷ ns) (suc i) b h = below_at limit ns i b.1 (omega arith)

pub below_all : (limit : ℕ) (ns : List ℕ) → ((i : ℕ) → get_or ns i 0 < limit) → AllBelow limit ns
below_all limit [] h = tt
below_all limit (n ∷ ns) h = (h 0, below_all limit ns (λ i. h (suc i)))

pub below_append : (limit : ℕ) (ns ms : List ℕ) → AllBelow limit ns → AllBelow limit ms → AllBelow limit (ns ++ ms)
below_append limit [] ms b c = c
below_append limit (n ∷ ns) ms b c = (b.0, below_append limit ns ms b.1 c)

-- the byte at a place, and those behind it
drop_at : (s : List ℕ) (at : ℕ) → at < length s → drop at s ≡ get_or s at 0 ∷ drop (at + 1) s
drop_at s at h = rw (add-one, drop-cons s at 0)

record Byte (s : List ℕ) (at b : ℕ) (rest : List ℕ) : Type 0 where
  inside : at < length s
  is : get_or s at 0 ≡ b
  behind : drop (at + 1) s ≡ rest

byte : (s : List ℕ) (at b : ℕ) (rest : List ℕ) → drop at s ≡ b ∷ rest → Byte s at b rest
byte s at b rest e =
    let l : at < length s = omega (arith, rw length-drop at (ap length e)) in
    let d = drop_at s at l in
    record { inside = l; is = cc; behind = cc }

-- numbers of so many bytes behind the first are below this
abbrev pub limit_with : ℕ → ℕ
limit_with zero = 128
limit_with (suc more) = limit_with more * 128

-- the shortest form of n stands at a place
pub record Stands (more : ℕ) (s : List ℕ) (at n next : ℕ) : Type 0 where
  pub small : n < limit_with more
  pub next_is : next ≡ at + length (shortest_with more n)
  pub here : drop at s ≡ shortest_with more n ++ drop next s

one-byte-with : (more n : ℕ) → n < 128 → shortest_with more n ≡ n ∷ []
unfolding shortest_with
one-byte-with zero n h = refl
one-byte-with (suc more) n h = rw (lt-ltb n 128 h)

more_bytes-with : (more n : ℕ) → 128 ≤ n → shortest_with (suc more) n ≡ (n % 128 + 128) ∷ shortest_with more (n / 128)
unfolding shortest_with
more_bytes-with more n h = rw (le-ltb n 128 h)

pub one_byte : (n : ℕ) → n < 128 → shortest n ≡ n ∷ []
unfolding shortest
one_byte n h = one-byte-with 2 n h

pub two_bytes : (n : ℕ) → 128 ≤ n → n < 16384 → shortest n ≡ (n % 128 + 128) ∷ (n / 128) ∷ []
unfolding shortest
two_bytes n h m = more_bytes-with 1 n h ∙ ap (λ l. (n % 128 + 128) ∷ l) (one-byte-with 1 (n / 128) (omega arith))

pub three_bytes : (n : ℕ) → 16384 ≤ n → shortest n ≡ (n % 128 + 128) ∷ (n / 128 % 128 + 128) ∷ (n / 128 / 128) ∷ []
unfolding shortest shortest_with
three_bytes n h = rw (le-ltb n 128 (omega arith), le-ltb (n / 128) 128 (omega arith))

abbrev Lengths : ℕ → List ℕ → Type 0
Lengths most l = (0 < length l) × (length l ≤ most)

lengths_with : (more n : ℕ) → Lengths (suc more) (shortest_with more n)
unfolding shortest_with
lengths_with zero n = (omega arith, omega arith)
lengths_with (suc more) n = go (ltb n 128) (lengths_with more (n / 128))
  where
    go : (t : Bool) → Lengths (suc more) (shortest_with more (n / 128)) → Lengths (suc (suc more)) (cond t (n ∷ []) ((n % 128 + 128) ∷ shortest_with more (n / 128)))
    go true l = (omega arith, omega arith)
    go false l = (omega arith, omega arith)

pub shortest-some : (n : ℕ) → 0 < length (shortest n)
unfolding shortest
shortest-some n = (lengths_with 2 n).0

pub shortest_most : (n : ℕ) → length (shortest n) ≤ 3
unfolding shortest
shortest_most n = (lengths_with 2 n).1

pub written-append : (ns ms : List ℕ) → written (ns ++ ms) ≡ written ns ++ written ms
unfolding written
written-append [] ms = refl
written-append (n ∷ ns) ms = rw (written-append ns ms, append_assoc)

-- a group stands before a number that isn't 0
pub group_read : (low : ℕ) (r : Read ℕ) (n next : ℕ) → with_group low r ≡ Ok (n, next) → (high : ℕ) × (r ≡ Ok (high, next)) × (high ≢ 0) × (n ≡ low + high * 128)
group_read low (Ok (high, p)) n next h =
    let t = chose_second (eqb high 0) _ _ apart h in
    let (worth, place) = same_read t.1 in
    (high, rw place, eqb-false high 0 t.0, sym worth)
group_read low (Err e) n next h = absurd (apart h)

module _ (s : List ℕ) where
  stands_one : (more at : ℕ) → at < length s → get_or s at 0 < 128 → Stands more s at (get_or s at 0) (at + 1)
  stands_one more at l h = record { small = one_below more; next_is = rw (one-byte-with more _ h); here = rw (one-byte-with more _ h, drop_at s at l) }
    where
      one_below : (k : ℕ) → get_or s at 0 < limit_with k
      one_below zero = h
      one_below (suc k) = let i = one_below k in omega arith

  stands_more : (more at high next : ℕ) → at < length s → 128 ≤ get_or s at 0 → get_or s at 0 < 256 → high ≢ 0 → Stands more s (at + 1) high next
      → Stands (suc more) s at (get_or s at 0 - 128 + high * 128) next
  stands_more more at high next l low low-most some i =
      let n = get_or s at 0 - 128 + high * 128 in
      let low_is : n % 128 + 128 ≡ get_or s at 0 = omega arith in
      let high_is : n / 128 ≡ high = omega arith in
      let w : shortest_with (suc more) n ≡ get_or s at 0 ∷ shortest_with more high = more_bytes-with more n (omega arith) ∙ rw (low_is, high_is) in
      record { small = omega (arith, i.small); next_is = rw w (omega (arith, i.next_is)); here = rw (w, drop_at s at l, i.here) }

  -- the byte at a place: the number, or a group in front of what is read behind it
  byte_read : (more at n next : ℕ) (rest : Read ℕ)
      → ((high : ℕ) → rest ≡ Ok (high, next) → at < length s → 128 ≤ get_or s at 0 → high ≢ 0 → Stands more s at (get_or s at 0 - 128 + high * 128) next)
      → cond (ltb at (length s)) (cond (ltb (get_or s at 0) 128) (Ok (get_or s at 0, at + 1)) (with_group (get_or s at 0 - 128) rest)) (Err Refusal.Truncated) ≡ Ok (n, next)
      → Stands more s at n next
  byte_read more at n next rest behind h =
      let p = chose_first (ltb at (length s)) _ _ apart h in
      go (ltb (get_or s at 0) 128) (ltb-true at (length s) p.0) refl p.1
    where
      go : (t : Bool) → at < length s → ltb (get_or s at 0) 128 ≡ t
          → cond t (Ok (get_or s at 0, at + 1)) (with_group (get_or s at 0 - 128) rest) ≡ Ok (n, next) → Stands more s at n next
      go true l e r =
          let (en, ep) = same_read r in
          rw (← en, ← ep) (stands_one more at l (ltb-true _ _ e))
      go false l e r =
          let (high, is, some, worth) = group_read (get_or s at 0 - 128) rest n next r in
          rw worth (behind high is l (ltb-false _ _ e) some)

  number_read : AllBelow 256 s → (more at n next : ℕ) → number_within (suc more) s at ≡ Ok (n, next) → Stands more s at n next
  unfolding number_within
  number_read b zero at n next h = byte_read zero at n next (Err Refusal.NotShortest) (λ high e l low some. absurd (apart e)) h
  number_read b (suc more) at n next h =
      byte_read (suc more) at n next (number_within (suc more) s (at + 1))
      (λ high e l low some. stands_more more at high next l low (below_at 256 s at b l) some (number_read b more (at + 1) high next e))
      h

  reads_one : (more at n next : ℕ) → Stands more s at n next → n < 128 → number_within (suc more) s at ≡ Ok (n, next)
  unfolding number_within
  reads_one more at n next i h =
      let w = one-byte-with more n h in
      let b = byte s at n (drop next s) (i.here ∙ rw w) in
      let e : at + 1 ≡ next = sym (i.next_is ∙ rw w) in
      rw (lt-ltb at (length s) b.inside, b.is, lt-ltb n 128 h, e)

  reads_more : (more at n next : ℕ) → Stands (suc more) s at n next → 128 ≤ n → (Stands more s (at + 1) (n / 128) next → number_within (suc more) s (at + 1) ≡ Ok (n / 128, next))
      → number_within (suc (suc more)) s at ≡ Ok (n, next)
  unfolding number_within
  reads_more more at n next i l behind =
      let w = more_bytes-with more n l in
      let b = byte s at (n % 128 + 128) (shortest_with more (n / 128) ++ drop next s) (i.here ∙ rw w) in
      let e = behind (record { small = omega (arith, i.small); next_is = omega (arith, rw w at i.next_is); here = b.behind }) in
      let v : n % 128 + 128 - 128 + n / 128 * 128 ≡ n = omega arith in
      rw (lt-ltb at (length s) b.inside, b.is, le-ltb (n % 128 + 128) 128 (omega arith), e, ne_eqb (n / 128) 0 (omega arith), v)

  number_reads : (more at n next : ℕ) → Stands more s at n next → number_within (suc more) s at ≡ Ok (n, next)
  number_reads zero at n next i = reads_one zero at n next i i.small
  number_reads (suc more) at n next i = go (ltb n 128) refl (λ r. number_reads more (at + 1) (n / 128) next r)
    where
      go : (t : Bool) → ltb n 128 ≡ t → (Stands more s (at + 1) (n / 128) next → number_within (suc more) s (at + 1) ≡ Ok (n / 128, next))
          → number_within (suc (suc more)) s at ≡ Ok (n, next)
      go true t behind = reads_one (suc more) at n next i (ltb-true n 128 t)
      go false t behind = reads_more more at n next i (ltb-false n 128 t) behind

  pub number_is : AllBelow 256 s → (at n next : ℕ) → (number_at s at ≡ Ok (n, next)) ↔ Stands 2 s at n next
  unfolding number_at
  number_is b at n next = (number_read b 2 at n next, number_reads 2 at n next)

  -- the next place, and what stands there
  next-at : (at n : ℕ) (rest : List ℕ) → n < 2097152 → drop at s ≡ shortest n ++ rest → (next : ℕ) × Stands 2 s at n next × (drop next s ≡ rest)
  unfolding shortest
  next-at at n rest h e =
      let next = at + length (shortest_with 2 n) in
      let d : drop next s ≡ rest = sym (drop-drop (length (shortest_with 2 n)) at s) ∙ (ap (drop (length (shortest_with 2 n))) e ∙ drop-append_seam (shortest_with 2 n) rest) in
      (next, record { small = h; next_is = refl; here = rw d e }, d)

pub number-written : (p : List ℕ) (n : ℕ) (q : List ℕ) → n < 2097152 → number_at (p ++ (shortest n ++ q)) (length p) ≡ Ok (n, length p + length (shortest n))
unfolding number_at shortest
number-written p n q h =
    let s = p ++ (shortest n ++ q) in
    let i = (next-at s (length p) n q h (drop-append_seam p (shortest n ++ q))).1 in
    number_reads s 2 (length p) n _ i ∙ ap (λ p. Ok (n, p)) i.next_is

module _ (s : List ℕ) where
  pub numbers_read : AllBelow 256 s → {at next : ℕ} {ns : List ℕ} → NumbersAt (number_at s) at ns next → drop at s ≡ written ns ++ drop next s
  unfolding written number_at shortest
  numbers_read b none = refl
  numbers_read b (one {at} {n} {p} e rest) = (number_read s b 2 at n p e).here ∙ rw (numbers_read b rest, append_assoc)

  pub numbers_reads : (ns : List ℕ) (at : ℕ) (rest : List ℕ) → AllBelow 2097152 ns → drop at s ≡ written ns ++ rest
      → (next : ℕ) × NumbersAt (number_at s) at ns next × (drop next s ≡ rest)
  unfolding written number_at
  numbers_reads [] at rest h e = (at, none, e)
  numbers_reads (n ∷ ns) at rest h e =
      let f = next-at s at n (written ns ++ rest) h.0 (rw append_assoc at e) in
      let r = numbers_reads ns f.0 rest h.1 f.2 in
      (r.0, one (number_reads s 2 at n f.0 f.1) r.1, r.2)

  -- a file of bytes holds these numbers, and nothing follows them, exactly where it is their writing
  pub holds_is : AllBelow 256 s → (ns : List ℕ) → AllBelow 2097152 ns → Holds (bytes s) ns ↔ (s ≡ written ns)
  holds_is b ns small = (
    λ (next, i, done). numbers_read b i ∙ rw (drop_of_length-le s (ltb-false next (length s) done), append-nil),
    λ e.
        let r = numbers_reads ns 0 [] small (rw append-nil e) in
        (r.0, r.1, le-ltb r.0 (length s) (omega (arith, rw length-drop at (ap length r.2)))),
  )
