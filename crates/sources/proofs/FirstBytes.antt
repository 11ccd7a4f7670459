-- What stands behind the first bytes of a file changes no answer: a file that passes ends before, and a fault is met before. So a program
-- may read the first 4,096 bytes alone.
use Prim.Native.Nat.{ℕ, zero, suc, ◌+◌, ◌-◌, ◌*◌, ◌<◌, ◌≤◌}
use mathlib.Core.Path.{◌≡◌, refl, sym}
use mathlib.Core.Logic.{inl}
use mathlib.Core.Bool.{Bool, true, false, cond}
use mathlib.Core.List.{List}
use native.Mathlib.Omega.{arith}
use borrow.Author.Tests.{ltb-true, ltb-false, lt-ltb, le-ltb}
use lib.Dec.{ltb}
use lib.ListN.{length, get_or, take, length-take}
use lib.Seq.{get_or-take}
use Rattle.laws.proofs.Bools.{chose_first}
use Rattle.std.specs.Prelude.{Ok, Err}
use Rattle.refusal.specs.declared.Refusal.{Refusal}
use Rattle.numbers.specs.believed.Number.{Read, with_group, number_within, number_at, bytes}
use Rattle.numbers.proofs.Written.{group_read}
use Rattle.numbers.proofs.Results.{apart, same_read}
use Rattle.grammar_file.specs.believed.GrammarFile.{grammar_of}
use Rattle.history_file.specs.believed.HistoryFile.{history_of}
use Rattle.sources.proofs.Alike.{SameNumber, both, neither, Alike}
use Rattle.sources.proofs.Grammars.{grammar_alike}
use Rattle.sources.proofs.Histories.{history_alike}

-- a number has no more bytes than are allowed
byte_near : (s : List ℕ) (most at n next : ℕ) (rest : Read ℕ) → ((m : ℕ) → rest ≡ Ok (m, next) → next ≤ at + 1 + most)
    → cond (ltb at (length s)) (cond (ltb (get_or s at 0) 128) (Ok (get_or s at 0, at + 1)) (with_group (get_or s at 0 - 128) rest)) (Err Refusal.Truncated) ≡ Ok (n, next)
    → next ≤ at + suc most
byte_near s most at n next rest behind h = go (ltb (get_or s at 0) 128) (chose_first (ltb at (length s)) _ _ apart h).1
  where
    go : (t : Bool) → cond t (Ok (get_or s at 0, at + 1)) (with_group (get_or s at 0 - 128) rest) ≡ Ok (n, next) → next ≤ at + suc most
    go true r = let (n_is, e) = same_read r in omega arith
    go false r = let (m, is, some, worth) = group_read (get_or s at 0 - 128) rest n next r in let l = behind m is in omega arith

near : (s : List ℕ) (most at n next : ℕ) → number_within most s at ≡ Ok (n, next) → next ≤ at + most
unfolding number_within
near s zero at n next h = absurd (apart h)
near s (suc most) at n next h = byte_near s most at n next (number_within most s (at + 1)) (λ m e. near s most (at + 1) m next e) h

next_near : (s : List ℕ) (at n next : ℕ) → number_at s at ≡ Ok (n, next) → next ≤ at + 3
unfolding number_at
next_near s at n next h = near s 3 at n next h

module _ (s : List ℕ) (most : ℕ) where
  abbrev part : List ℕ
  part = take most s

  same_end : (p : ℕ) → p < most → ltb p (length part) ≡ ltb p (length s)
  same_end p h = go (ltb p (length s)) refl
    where
      go : (b : Bool) → ltb p (length s) ≡ b → ltb p (length part) ≡ b
      go true e = let l = ltb-true p (length s) e in lt-ltb p (length part) (rw length-take (omega arith))
      go false e = let l = ltb-false p (length s) e in le-ltb p (length part) (rw length-take (omega arith))

  same-within : (k p : ℕ) → p + k ≤ most → number_within k part p ≡ number_within k s p
  unfolding number_within
  same-within zero p h = refl
  same-within (suc k) p h =
      rw (same_end p (omega arith), get_or-take most s p 0 (omega arith), same-within k (p + 1) (omega arith))

  same_number : (p : ℕ) → p + 3 ≤ most → number_at part p ≡ number_at s p
  unfolding number_at
  same_number p h = same-within 3 p h

  -- one place, with room before the cut for the numbers still to be read
  record Together (k p q : ℕ) : Type 0 where
    same : p ≡ q
    room : p + 3 * k < most

  numbers_together : (k p q : ℕ) → Together (suc k) p q → SameNumber 2097152 (Together k) (number_at s p) (number_at part q)
  numbers_together k p q t = rw (← t.same, same_number p (omega (arith, t.room))) (go (number_at s p) refl)
    where
      go : (r : Read ℕ) → number_at s p ≡ r → SameNumber 2097152 (Together k) r r
      go (Ok (n, next)) e =
          let after : Together k next next = record { same = refl; room = omega (arith, t.room, next_near s p n next e) } in
          both (inl refl) after
      go (Err d) e = neither

  together : Alike (bytes s) (bytes part) 2097152 Together
  together = record {
    number = numbers_together;
    more = λ k p q t. rw (← t.same) (sym (same_end p (omega (arith, t.room))));
    fewer = λ j k p q h t. record { same = t.same; room = omega (arith, t.room, h) };
  }

  pub grammar_first-bytes : 2316 < most → grammar_of s ≡ grammar_of part
  grammar_first-bytes h = grammar_alike together (omega arith) (omega arith) (record { same = refl; room = omega arith })

  pub history_first-bytes : 3075 < most → history_of s ≡ history_of part
  history_first-bytes h = history_alike together (omega arith) (record { same = refl; room = omega arith })
