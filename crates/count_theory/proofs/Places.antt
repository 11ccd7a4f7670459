-- Counts of readings with some rule at some position, and of all readings.
use Prim.Native.Nat.{ℕ, zero, suc, ◌+◌, ◌<◌, ◌≤◌}
use native.Mathlib.Nat.{add-zero, zero-add}
use native.Mathlib.Decide.{ℕ_discrete}
use native.Mathlib.Omega.{arith}
use mathlib.Core.Path.{◌≡◌, refl, sym, ◌∙◌, ap, ap₂, subst}
use mathlib.Core.Logic.{◌⊎◌, inl, inr, ◌≢◌}
use mathlib.Core.Bool.{Bool, true, false, and-true}
use mathlib.Core.List.{List, [], ◌∷◌, Memᴰ}
use mathlib.Core.Option.{some, none-ne-some, some-injective}
use borrow.Author.Tests.{eq-eqb, ne_eqb, lt-ltb, le-ltb}
use lib.Dec.{eqb, ltb}
use lib.ListN.{length, get_elem?}
use Rattle.laws.proofs.Lists.{at_some, trichotomy}
use Rattle.vpg.specs.declared.Token.{Token}
use Rattle.vpg.specs.believed.Grammar.{Grammar}
use Rattle.vpg.specs.Runs.{entries}
use Rattle.vpg.proofs.Entries.{entry_length}
use Rattle.vpg.proofs.Sound.{entries_readings}
use Rattle.sets_theory.specs.believed.Sets.{one}
use Rattle.sets_theory.specs.KeptTest.{stands_at}
use Rattle.sets_theory.proofs.Sets.{kept_below}
use Rattle.count_theory.specs.believed.CountAt.{tally, count_at, sum_below}
use Rattle.count_theory.specs.Allowed.{passes, alone_at}
use Rattle.count_theory.specs.Counts.{given}

-- ── tests of lists ──

-- behind position p every number passes
passes-behind : (p r q : ℕ) (e : List ℕ) → p < q → passes (alone_at p r) q e ≡ true
passes-behind p r q [] h = refl
passes-behind p r q (x ∷ e) h = rw (ne_eqb q p (λ i. omega (arith, i))) (passes-behind p r (suc q) e (omega arith))

-- and where the list doesn't reach it
pub passes_before : (p r q : ℕ) (e : List ℕ) → q + length e ≤ p → passes (alone_at p r) q e ≡ true
passes_before p r q [] h = refl
passes_before p r q (x ∷ e) h = rw (ne_eqb q p (λ i. omega (arith, i))) (passes_before p r (suc q) e (omega arith))

-- otherwise the number there is r
passes-from : (r i q : ℕ) (e : List ℕ) → i < length e → passes (alone_at (q + i) r) q e ≡ stands_at e i r
passes-from r i q [] h = absurd (omega arith)
passes-from r zero q (x ∷ e) h =
    subst (λ (p : ℕ). passes (alone_at p r) q (x ∷ e) ≡ stands_at (x ∷ e) 0 r) (sym (add-zero q))
    (rw (eq-eqb q q refl, passes-behind q r (suc q) e (omega arith)) (and-true (eqb x r)))
passes-from r (suc i) q (x ∷ e) h =
    let moved : suc q + i ≡ q + suc i = omega arith in
    rw (ne_eqb q (q + suc i) (λ j. omega (arith, j)))
    (subst (λ (p : ℕ). passes (alone_at p r) (suc q) e ≡ stands_at e i r) moved (passes-from r i (suc q) e (omega arith)))

pub passes_at : (p r : ℕ) (e : List ℕ) → p < length e → passes (alone_at p r) 0 e ≡ stands_at e p r
passes_at p r e h = rw (zero-add p) at (passes-from r p 0 e h)

-- ── tallies ──

pub tally-same : (f h : List ℕ → Bool) (l : List (List ℕ)) → ((e : List ℕ) → Memᴰ e l → f e ≡ h e) → tally f l ≡ tally h l
tally-same f h [] p = refl
tally-same f h (e ∷ l) p = ap₂ ◌+◌ (ap one (p e (Memᴰ.head refl))) (tally-same f h l (λ d m. p d (Memᴰ.tail m)))

pub tally-all : (f : List ℕ → Bool) (l : List (List ℕ)) → ((e : List ℕ) → Memᴰ e l → f e ≡ true) → tally f l ≡ length l
tally-all f [] p = refl
tally-all f (e ∷ l) p = rw (p e (Memᴰ.head refl), tally-all f l (λ d m. p d (Memᴰ.tail m))) (omega arith)

tally-none : (f : List ℕ → Bool) (l : List (List ℕ)) → ((e : List ℕ) → Memᴰ e l → f e ≡ false) → tally f l ≡ 0
tally-none f [] p = refl
tally-none f (e ∷ l) p = rw (p e (Memᴰ.head refl), tally-none f l (λ d m. p d (Memᴰ.tail m)))

one_most : (b : Bool) → one b ≤ 1
one_most true = omega arith
one_most false = omega arith

-- no count is above that of all
pub count_most : (l : List (List ℕ)) (p r : ℕ) → count_at l p r ≤ length l
count_most [] p r = omega arith
count_most (e ∷ l) p r = omega (arith, one_most (stands_at e p r), count_most l p r)

module _ (g : Grammar) (w : List Token) (p r : ℕ) where
  -- with rule r alone at position p, the entries that pass are those that have it there
  pub with_rule : p ≤ length w → tally (passes (alone_at p r) 0) (entries g w) ≡ count_at (entries g w) p r
  with_rule h = tally-same (passes (alone_at p r) 0) (λ e. stands_at e p r) (entries g w) (λ e m. passes_at p r e (omega (arith, entry_length g w e m)))

  -- a position behind the last one asks for nothing
  pub with-any : length w < p → tally (passes (alone_at p r) 0) (entries g w) ≡ length (entries g w)
  with-any h = tally-all (passes (alone_at p r) 0) (entries g w) (λ e m. passes_before p r 0 e (omega (arith, entry_length g w e m)))

-- ── the counts of all rules at a position ──

below_both : (f h : ℕ → ℕ) (n : ℕ) → sum_below n (λ r. f r + h r) ≡ sum_below n f + sum_below n h
below_both f h zero = refl
below_both f h (suc n) = rw (below_both f h n) (omega arith)

pub below_none : (n : ℕ) (f : ℕ → ℕ) → ((r : ℕ) → r < n → f r ≡ 0) → sum_below n f ≡ 0
below_none zero f p = refl
below_none (suc n) f p = rw (below_none n f (λ r h. p r (omega arith)), p n (omega arith))

below_one : (x n : ℕ) → x < n → sum_below n (λ r. one (eqb x r)) ≡ 1
below_one x zero h = absurd (omega arith)
below_one x (suc n) h = go (ℕ_discrete x n) (below_one x n)
  where
    go : Dec (x ≡ n) → (x < n → sum_below n (λ r. one (eqb x r)) ≡ 1) → sum_below n (λ r. one (eqb x r)) + one (eqb x n) ≡ 1
    go (yes e) on = rw (eq-eqb x n e, below_none n (λ r. one (eqb x r)) (λ r l. ap one (ne_eqb x r (λ i. omega (arith, i, e)))))
    go (no e) on = rw (ne_eqb x n e, on (omega arith))

-- a sum of which one number alone is not 0
pub only_one : (f : ℕ → ℕ) (r n : ℕ) → ((q : ℕ) → q < n → q ≢ r → f q ≡ 0) → sum_below n f ≡ given (ltb r n) (f r)
only_one f r zero h = rw (le-ltb r 0 (omega arith))
only_one f r (suc n) h = rw (only_one f r n (λ q l d. h q (omega arith) d)) (go (trichotomy r n))
  where
    go : (r ≡ n) ⊎ ((r < n) ⊎ (n < r)) → given (ltb r n) (f r) + f n ≡ given (ltb r (suc n)) (f r)
    go (inl e) = rw (le-ltb r n (omega (arith, e)), lt-ltb r (suc n) (omega (arith, e))) (zero-add (f n) ∙ ap f (sym e))
    go (inr (inl l)) = rw (lt-ltb r n l, lt-ltb r (suc n) (omega arith), h n (omega arith) (λ e. omega (arith, e))) (add-zero (f r))
    go (inr (inr l)) = rw (le-ltb r n (omega arith), le-ltb r (suc n) (omega arith), h n (omega arith) (λ e. omega (arith, e)))

below_same : (f h : ℕ → ℕ) (n : ℕ) → ((r : ℕ) → f r ≡ h r) → sum_below n f ≡ sum_below n h
below_same f h zero p = refl
below_same f h (suc n) p = ap₂ ◌+◌ (below_same f h n p) (p n)

-- some number below n stands at position p of a list
pub record Placed (e : List ℕ) (p n : ℕ) : Type 0 where
  pub number : ℕ
  pub below : number < n
  pub stands : (r : ℕ) → stands_at e p r ≡ eqb number r

add_up : (p n : ℕ) (l : List (List ℕ)) → ((e : List ℕ) → Memᴰ e l → Placed e p n) → sum_below n (count_at l p) ≡ length l
add_up p n [] h = below_none n (λ r. 0) (λ r l. refl)
add_up p n (e ∷ l) h =
    let k = h e (Memᴰ.head refl) in
    below_both (λ r. one (stands_at e p r)) (count_at l p) n
    ∙ rw (below_same (λ r. one (stands_at e p r)) (λ r. one (eqb k.number r)) n (λ r. ap one (k.stands r)), below_one k.number n k.below, add_up p n l (λ d m. h d (Memᴰ.tail m)))
    (omega arith)

stands_is : (e : List ℕ) (p x : ℕ) → get_elem? e p ≡ some x → (r : ℕ) → stands_at e p r ≡ eqb x r
stands_is [] p x h r = absurd (none-ne-some x h)
stands_is (y ∷ e) zero x h r = ap (λ (z : ℕ). eqb z r) (some-injective y x h)
stands_is (y ∷ e) (suc p) x h r = stands_is e p x h r

module _ (g : Grammar) (w : List Token) (p : ℕ) (h : p ≤ length w) where
  placed : (e : List ℕ) → Memᴰ e (entries g w) → Placed e p (length g.rules)
  placed e m =
      let (x, s) = at_some e p (omega (arith, entry_length g w e m)) in
      record { number = x; below = (kept_below g w p x (e, (entries_readings g w e).0 m, s)).0; stands = stands_is e p x s }

  -- document 02, 2.6: "these counts add up to it at every position"
  pub counts-add_up : sum_below (length g.rules) (count_at (entries g w) p) ≡ length (entries g w)
  counts-add_up = add_up p (length g.rules) (entries g w) placed

  -- a number that is no rule's stands nowhere
  pub no_such_rule : (r : ℕ) → length g.rules ≤ r → count_at (entries g w) p r ≡ 0
  no_such_rule r k = tally-none (λ e. stands_at e p r) (entries g w) (λ e m. let x = placed e m in x.stands r ∙ ne_eqb x.number r (λ q. omega (arith, x.below, q)))
