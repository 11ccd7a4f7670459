-- Since names go to 65,535 and numbers to three bytes, a history file says what it said, but where it was refused by 2 or 11. So every history
-- file that passed keeps its meaning (document 02, 2.4).
use Prim.Native.Nat.{ℕ, zero, suc, ◌/◌}
use mathlib.Core.Path.{◌≡◌, refl, sym, ap, ◌∙◌}
use mathlib.Core.Logic.{◌⊎◌, inl, inr}
use mathlib.Core.Bool.{Bool, true, false, cond, ◌||◌}
use mathlib.Core.List.{List, [], ◌∷◌, ◌++◌}
use native.Mathlib.Omega.{arith}
use borrow.Author.Tests.{leb-false, le-ltb}
use lib.Dec.{eqb, ltb, leb}
use Rattle.std.specs.Prelude.{Ok, Err}
use Rattle.refusal.specs.declared.Refusal.{Refusal}
use Rattle.refusal.specs.believed.Refusal.{number}
use Rattle.numbers.specs.believed.Number.{Read, number_at, Source, bytes}
use Rattle.history_file.specs.believed.HistoryFile.{HistoryFile, accepted, refused, kind, token_judged, judged, token_at, depth_after, after, tokens_from, history_from, history_of}
use Rattle.history_file.proofs.Accepted.{apart}
use Rattle.earlier_files.specs.TwoBytes.{two_bytes}
use Rattle.earlier_files.specs.NarrowHistory.{token_narrow, judged_narrow, tokens_narrow, history_narrow}
use Rattle.earlier_files.proofs.Kept.{Kept, followed, number-kept, field-kept}

-- a refusal, as a file is said to be refused
abbrev told : Refusal → HistoryFile
told e = refused (number e)

abbrev Moved : Refusal → Type 0
Moved e = (e ≡ Refusal.NotShortest) ⊎ (e ≡ Refusal.TokenNumber)

-- ── one token ──

-- eleven, or what else is found of the token
eleven_kept : (t : ℕ) (rest : Read ℕ)
    → Kept Moved Err (cond (leb 256 t || eqb (kind t) 3) (Err Refusal.TokenNumber) rest) (cond (ltb 65535 (t / 4) || eqb (kind t) 3) (Err Refusal.TokenNumber) rest)
eleven_kept t rest = go (leb 256 t) refl
  where
    go : (b : Bool) → leb 256 t ≡ b
        → Kept Moved Err (cond (b || eqb (kind t) 3) (Err Refusal.TokenNumber) rest) (cond (ltb 65535 (t / 4) || eqb (kind t) 3) (Err Refusal.TokenNumber) rest)
    go true e = inr (Refusal.TokenNumber, inr refl, refl)
    go false e = let h = leb-false 256 t e in inl (rw (le-ltb 65535 (t / 4) (omega arith)))

token_kept : (t next depth : ℕ) → Kept Moved Err (token_narrow t next depth) (token_judged t next depth)
unfolding token_narrow token_judged
token_kept t next depth = eleven_kept t _

judged-kept : {r s : Read ℕ} (depth : ℕ) → Kept Moved Err r s → Kept Moved Err (judged_narrow r depth) (judged s depth)
judged-kept depth h = followed Moved (λ r. judged_narrow r depth) (λ r. judged r depth) (λ d. refl) goes h
  where
    goes : (r : Read ℕ) → Kept Moved Err (judged_narrow r depth) (judged r depth)
    goes (Ok (t, next)) = token_kept t next depth
    goes (Err d) = inl refl

-- ── the file ──

module _ {x y : Source} (numbers : (at : ℕ) → Kept Moved Err (x.number at) (y.number at)) (more : (at : ℕ) → y.more at ≡ x.more at) where
  -- what follows a read
  after_kept : (f g : ℕ → ℕ → HistoryFile) → ((n next : ℕ) → Kept Moved told (f n next) (g n next))
      → {r s : Read ℕ} → Kept Moved Err r s → Kept Moved told (after r f) (after s g)
  after_kept f g k h = followed Moved (λ r. after r f) (λ r. after r g) (λ d. refl) goes h
    where
      goes : (r : Read ℕ) → Kept Moved told (after r f) (after r g)
      goes (Ok (n, next)) = k n next
      goes (Err d) = inl refl

  tokens_kept : (due at depth : ℕ) (ts : List ℕ) → Kept Moved told (tokens_narrow x due at depth ts) (tokens_from y due at depth ts)
  unfolding tokens_narrow tokens_from token_at
  tokens_kept zero at depth ts = inl (rw more)
  tokens_kept (suc due) at depth ts =
      after_kept _ _ (λ t next. tokens_kept due next (depth_after t depth) (ts ++ (t ∷ []))) (judged-kept depth (numbers at))

  pub history_kept-from : Kept Moved told (history_narrow x) (history_from y)
  unfolding history_narrow history_from
  history_kept-from =
      after_kept _ _ (λ due at. tokens_kept due at 0 []) (field-kept Moved numbers 0 1025 1025 Refusal.TokenCount (inl refl))

-- ── of bytes ──

module _ (s : List ℕ) where
  pub history_widened : (history_of s ≡ history_narrow (two_bytes s)) ⊎ ((history_narrow (two_bytes s) ≡ refused 2) ⊎ (history_narrow (two_bytes s) ≡ refused 11))
  unfolding number_at
  history_widened = go (history_kept-from {x = two_bytes s} {y = bytes s} (number-kept Moved (inl refl) s 2) (λ at. refl))
    where
      go : Kept Moved told (history_narrow (two_bytes s)) (history_of s)
          → (history_of s ≡ history_narrow (two_bytes s)) ⊎ ((history_narrow (two_bytes s) ≡ refused 2) ⊎ (history_narrow (two_bytes s) ≡ refused 11))
      go (inl same) = inl same
      go (inr (e, inl two, was)) = inr (inl (was ∙ ap told two))
      go (inr (e, inr eleven, was)) = inr (inr (was ∙ ap told eleven))

  pub history_keeps_its_meaning : (ts : List ℕ) → history_narrow (two_bytes s) ≡ accepted ts → history_of s ≡ accepted ts
  history_keeps_its_meaning ts h = go history_widened
    where
      go : (history_of s ≡ history_narrow (two_bytes s)) ⊎ ((history_narrow (two_bytes s) ≡ refused 2) ⊎ (history_narrow (two_bytes s) ≡ refused 11)) → history_of s ≡ accepted ts
      go (inl same) = same ∙ h
      go (inr (inl two)) = absurd (apart (sym two ∙ h))
      go (inr (inr eleven)) = absurd (apart (sym eleven ∙ h))
