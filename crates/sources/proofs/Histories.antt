-- Two sources that say the same say the same tokens, or are refused by the same number: token by token, then the file.
use Prim.Native.Nat.{ℕ, zero, suc, ◌/◌, ◌≤◌}
use mathlib.Core.Path.{◌≡◌, refl}
use mathlib.Core.Logic.{inl, inr}
use mathlib.Core.Bool.{Bool, true, false, cond, ◌&&◌, ◌||◌}
use mathlib.Core.List.{List, [], ◌∷◌, ◌++◌}
use native.Mathlib.Omega.{arith}
use borrow.Author.Tests.{lt-ltb}
use lib.Dec.{eqb, ltb, leb}
use Rattle.std.specs.Prelude.{Ok, Err}
use Rattle.refusal.specs.declared.Refusal.{Refusal}
use Rattle.numbers.specs.believed.Number.{Read, Source}
use Rattle.history_file.specs.believed.HistoryFile.{HistoryFile, kind, token_judged, judged, token_at, depth_after, after, tokens_from, history_from}
use Rattle.sources.proofs.Alike.{Alike, SameNumber, both, neither, Same, same, refused, field_alike}

abbrev SameToken : (ℕ → ℕ → Type 0) → Read ℕ → Read ℕ → Type 0
SameToken = Same (λ _. Unit {0})

-- ── one token ──

same-judged : (At : ℕ → ℕ → Type 0) (t p q depth : ℕ) → At p q → SameToken At (token_judged t p depth) (token_judged t q depth)
unfolding token_judged
same-judged At t p q depth a = go (ltb 65535 (t / 4) || eqb (kind t) 3) (eqb (kind t) 2 && eqb depth 0) (eqb (kind t) 1 && leb 128 depth)
  where
    go : (b c d : Bool)
        → SameToken At (cond b (Err Refusal.TokenNumber) (cond c (Err Refusal.CloseWithoutOpen) (cond d (Err Refusal.TooDeep) (Ok (t, p)))))
        (cond b (Err Refusal.TokenNumber) (cond c (Err Refusal.CloseWithoutOpen) (cond d (Err Refusal.TooDeep) (Ok (t, q)))))
    go true c d = refused
    go false true d = refused
    go false false true = refused
    go false false false = same tt a

large_judged : (t p depth : ℕ) → 262144 ≤ t → token_judged t p depth ≡ Err Refusal.TokenNumber
unfolding token_judged
large_judged t p depth h = rw (lt-ltb 65535 (t / 4) (omega arith))

judged_alike : (At : ℕ → ℕ → Type 0) (limit depth : ℕ) → 262144 ≤ limit → {r s : Read ℕ} → SameNumber limit At r s → SameToken At (judged r depth) (judged s depth)
judged_alike At limit depth h (both {n} {m} {p} {q} (inl e) a) = rw e (same-judged At m p q depth a)
judged_alike At limit depth h (both {n} {m} {p} {q} (inr (l, k)) a) = rw (large_judged n p depth (omega arith), large_judged m q depth (omega arith)) refused
judged_alike At limit depth h neither = refused

-- ── what follows a read ──

after_alike : {Known : ℕ → Type 0} {At : ℕ → ℕ → Type 0} {r s : Read ℕ} (f g : ℕ → ℕ → HistoryFile) → Same Known At r s
    → ((n p q : ℕ) → Known n → At p q → f n p ≡ g n q) → after r f ≡ after s g
after_alike f g (same {x = n} {p} {q} h a) k = k n p q h a
after_alike f g refused k = refl

module _ {x y : Source} {limit : ℕ} {At : ℕ → ℕ → ℕ → Type 0} (alike : Alike x y limit At) (large : 262144 ≤ limit) where
  tokens_alike : (due p q depth : ℕ) (ts : List ℕ) → At due p q → tokens_from x due p depth ts ≡ tokens_from y due q depth ts
  unfolding tokens_from token_at
  tokens_alike zero p q depth ts a = rw (alike.more 0 p q a)
  tokens_alike (suc due) p q depth ts a =
      after_alike _ _ (judged_alike (At due) limit depth (omega arith) (alike.number due p q a))
      (λ t p1 q1 _ b. tokens_alike due p1 q1 (depth_after t depth) (ts ++ (t ∷ [])) b)

  -- the file: a count and at most 1,024 tokens
  pub history_alike : At 1025 0 0 → history_from x ≡ history_from y
  unfolding history_from
  history_alike a =
      after_alike _ _ (field_alike alike 1024 0 0 1025 Refusal.TokenCount (omega arith) a)
      (λ due p q few b. tokens_alike due p q 0 [] (alike.fewer due 1024 p q (omega arith) b))
