-- The search over the rules at one position, by capped sizes.
use Prim.Native.Nat.{ℕ, suc, ◌+◌, ◌*◌, ◌-◌, ◌<◌, ◌≤◌}
use native.Mathlib.Nat.{add-zero, zero-add}
use native.Mathlib.Omega.{arith}
use mathlib.Core.Path.{◌≡◌, refl, sym, ◌∙◌}
use mathlib.Core.Logic.{◌⊎◌, inl, inr, ◌≢◌}
use mathlib.Core.Bool.{Bool, true, false}
use borrow.Author.Tests.{ltb-true}
use lib.Dec.{ltb}
use Rattle.laws.proofs.Lists.{trichotomy}
use Rattle.tables.specs.declared.Head.{Head}
use Rattle.tables.specs.declared.Table.{Table}
use Rattle.tables.specs.Table.{rule_in}
use Rattle.rule_index.specs.Classes.{class_at, class_of}
use Rattle.rule_index.specs.Index.{FirstFrom, Indexed}
use Rattle.rule_index.proofs.Chains.{passed}
use Rattle.contexts.specs.declared.Context.{Context}
use Rattle.contexts.specs.Context.{token_here, may_end}
use Rattle.contexts.proofs.Ends.{ends-only}
use Rattle.moves.specs.Moves.{rule_fits, Smallest}
use Rattle.moves.proofs.Walking.{fits_apart}
use Rattle.capped.specs.Capped.{cap, value}
use Rattle.count_theory.specs.believed.CountAt.{sum_below}
use Rattle.count_theory.specs.Counts.{given}
use Rattle.count_theory.proofs.Places.{below_none, only_one}
use Rattle.count_rows.specs.declared.rows.Rows.{Rows}
use Rattle.count_rows.specs.Rows.{parts_at}
use Rattle.kth_run.specs.declared.Sought.{Sought}
use Rattle.kth_run.specs.Search.{size_in, LocatedIn, Finds}

-- before rule r all are passed
pub record Passed (f : ℕ → ℕ) (k r i : ℕ) : Type 0 where
  pub skipped : sum_below r f + i ≡ k

module _ (t : Table) (head : Head) (sought : Sought) (context : Context) (rows : Rows) where
  abbrev pub Size : ℕ → ℕ
  Size = size_in t head.well sought context rows

  -- where the nonterminal can't only end, a rule of another class has none
  none_apart : may_end head.well context sought.nonterminal ≡ false → (q : ℕ) → class_of (rule_in t q) ≢ class_at (token_here context) → sum_below (suc q) Size ≡ sum_below q Size
  none_apart h q d = rw (fits_apart t head sought.nonterminal context h q d) (add-zero (sum_below q Size))

  pub pass_over : {rules a i : ℕ} → may_end head.well context sought.nonterminal ≡ false → (k n : ℕ) → FirstFrom t rules (class_at (token_here context)) k n → Passed Size a k i → Passed Size a n i
  pass_over h k n f z = record { skipped = rw (passed (λ r. sum_below r Size) t (class_at (token_here context)) (none_apart h) f) z.skipped }

  -- a rule that doesn't fit
  pub pass_none : {a i : ℕ} (q : ℕ) → rule_fits head.well (rule_in t q) sought.nonterminal context ≡ false → Passed Size a q i → Passed Size a (suc q) i
  pass_none q e z = record { skipped = rw e (rw (add-zero (sum_below q Size)) z.skipped) }

  -- one that fits, and has too few
  pub pass_some : {a i : ℕ} (q n : ℕ) → rule_fits head.well (rule_in t q) sought.nonterminal context ≡ true → n ≡ cap (parts_at rows context (rule_in t q) * value sought.due) → n ≤ i → Passed Size a q i → Passed Size a (suc q) (i - n)
  pass_some q n e s l z = record { skipped = rw (e, ← s) (omega (arith, z.skipped)) }

  -- and enough
  pub located : {rules a i : ℕ} (q n : ℕ) → q < rules → rule_fits head.well (rule_in t q) sought.nonterminal context ≡ true → n ≡ cap (parts_at rows context (rule_in t q) * value sought.due) → i < n → Passed Size a q i → LocatedIn rules Size a q i
  located q n b e s l z = record { below = b; skipped = z.skipped; inside = rw (e, ← s) l }

  -- past all rules
  pub not_located : {a i : ℕ} (rules : ℕ) → Passed Size a rules i → a < sum_below rules Size → ⊥
  not_located rules z h = omega (arith, z.skipped)

-- ── empty rules ──

-- where the nonterminal can only end, the smallest rule that fits is the only one
pub end_finds : {t : Table} {head : Head} (x : Indexed t head) (sought : Sought) (context : Context) (rows : Rows) (r : ℕ) → may_end head.well context sought.nonterminal ≡ true → Smallest t head sought.nonterminal context r →
    Finds t head sought context rows (record { rule = r; number = sought.number })
end_finds {t} {head} x sought context rows r h s l = go (ltb r head.rules) refl (rw (only_one f r head.rules others) at l)
  where
    L : ℕ
    L = sought.nonterminal

    a : ℕ
    a = sought.number

    f : ℕ → ℕ
    f = size_in t head.well sought context rows

    none : (q : ℕ) → rule_fits head.well (rule_in t q) L context ≡ false → f q ≡ 0
    none q e = rw e

    fits_twice : (q : ℕ) → q < head.rules → r < q → (b : Bool) → rule_fits head.well (rule_in t q) L context ≡ b → b ≡ false
    fits_twice q l m true e =
        absurd (x.ready.distinct r q m l (ends-only head.well context (rule_in t r) L h (s.found (omega arith)) ∙ sym (ends-only head.well context (rule_in t q) L h e)))
    fits_twice q l m false e = refl

    others : (q : ℕ) → q < head.rules → q ≢ r → f q ≡ 0
    others q l d = go' (trichotomy q r)
      where
        go' : (q ≡ r) ⊎ ((q < r) ⊎ (r < q)) → f q ≡ 0
        go' (inl e) = absurd (d e)
        go' (inr (inl m)) = none q (s.least q m)
        go' (inr (inr m)) = none q (fits_twice q l m (rule_fits head.well (rule_in t q) L context) refl)

    go : (b : Bool) → ltb r head.rules ≡ b → a < given b (f r) → LocatedIn head.rules f a r a
    go true e m = record { below = ltb-true r head.rules e; skipped = rw (below_none r f (λ q k. none q (s.least q k))) (zero-add a); inside = m }
    go false e m = absurd (omega arith)
