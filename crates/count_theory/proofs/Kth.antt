-- The k-th run: at each position the rule is found by how many runs each rule has.
use Prim.Native.Nat.{ℕ, zero, suc, ◌+◌, ◌*◌, ◌<◌, ◌≤◌}
use native.Mathlib.Nat.{zero-add, suc-add, add-suc, add-zero, add_assoc}
use native.Mathlib.Omega.{arith}
use mathlib.Core.Path.{◌≡◌, refl, sym, ◌∙◌, ap}
use mathlib.Core.Bool.{Bool, true, false}
use mathlib.Core.List.{List, [], ◌∷◌, ◌++◌, map, append_assoc, Memᴰ}
use mathlib.Core.Option.{Option, none, some, none-ne-some, some-injective}
use lib.Dec.{eqb}
use lib.ListN.{length, length-append, length-map, length-drop, take, drop, get_elem?}
use Rattle.laws.proofs.Lists.{at_right}
use Rattle.vpg.specs.declared.Rule.{Rule}
use Rattle.vpg.specs.declared.Token.{Token}
use Rattle.vpg.specs.believed.Grammar.{Rules, General, left}
use Rattle.vpg.specs.Runs.{Stack, State, move, ends, collect, once, follow, runs}
use Rattle.vpg.proofs.Take.{Move, moved, moves, taken, ended}
use Rattle.level_theory.specs.Masks.{outer, Calm}
use Rattle.level_theory.proofs.Alive.{calm_on}
use Rattle.level_theory.proofs.Pending.{drop-next}
use Rattle.count_theory.specs.believed.CountAt.{tally}
use Rattle.count_theory.specs.Allowed.{Allowed, passes, alone_at}
use Rattle.count_theory.specs.Counts.{Levels, given, sum, counts, weight, total, worth}
use Rattle.count_theory.specs.Kth.{Free, size, Located, Onward}
use Rattle.count_theory.proofs.Counting.{ahead, rule_ahead, tally_end, tally-runs, sum_like}
use Rattle.count_theory.proofs.Here.{worth_token, worth_end}
use Rattle.count_theory.proofs.Places.{passes_before, tally-all}

-- ── the lists of each rule ──

-- what follows rule R
abbrev after : Rules → State → List Token → Rule → List (List ℕ)
after g s [] R = once (ends R s.0 s.1)
after g s (t ∷ v) R = follow (move R s.0 s.1 t) (λ s'. runs g s' v)

runs_after : (g : Rules) (s : State) (v : List Token) → runs g s v ≡ collect (after g s v) 0 g
unfolding runs
runs_after g s [] = refl
runs_after g s (t ∷ v) = refl

length-collect : (k : Rule → List (List ℕ)) (n : ℕ) (g : Rules) → length (collect k n g) ≡ sum (λ r R. length (k R)) n g
length-collect k n [] = refl
length-collect k n (R ∷ g) = rw (length-append, length-map, length-collect k (suc n) g)

front : (n : ℕ) (l l' : List (List ℕ)) (i : ℕ) (e : List ℕ) → get_elem? l i ≡ some e → get_elem? (map (λ e. n ∷ e) l ++ l') i ≡ some (n ∷ e)
front n [] l' i e p = absurd (none-ne-some e p)
front n (x ∷ l) l' zero e p = rw (some-injective x e p)
front n (x ∷ l) l' (suc i) e p = front n l l' i e p

-- past the lists of the rules before r
kth-collect : (k : Rule → List (List ℕ)) (n : ℕ) (g : Rules) (r : ℕ) (R : Rule) (i : ℕ) (e : List ℕ) → get_elem? g r ≡ some R → get_elem? (k R) i ≡ some e → get_elem? (collect k n g) (sum (λ q Q. length (k Q)) n (take r g) + i) ≡ some ((n + r) ∷ e)
kth-collect k n [] r R i e p q = absurd (none-ne-some R p)
kth-collect k n (R' ∷ g) zero R i e p q = rw (zero-add, add-zero) (front n (k R') (collect k (suc n) g) i e (rw (some-injective R' R p) q))
kth-collect k n (R' ∷ g) (suc r) R i e p q =
    rw (add_assoc, ← length-map (k R') (λ (e : List ℕ). n ∷ e), at_right (map (λ e. n ∷ e) (k R')) (collect k (suc n) g))
    (kth-collect k (suc n) g r R i e p q ∙ rw (suc-add, add-suc))

-- ── how many each rule has ──

length-follow : (W : ℕ) (m : Levels) (k : State → List (List ℕ)) (o : Option State) → ((s : State) → o ≡ some s → length (k s) ≡ total W m s.0 s.1) → length (follow o k) ≡ ahead W m o
length-follow W m k none h = refl
length-follow W m k (some s) h = h s refl

length-once : (ok : Allowed) (p : ℕ) (b : Bool) → length (once b) ≡ tally (passes ok p) (once b)
length-once ok p true = refl
length-once ok p false = refl

-- a rule of the first r is a rule
taken_at : (g : Rules) (r q : ℕ) {R : Rule} → get_elem? (take r g) q ≡ some R → get_elem? g q ≡ some R
taken_at [] zero q h = h
taken_at [] (suc r) q h = h
taken_at (Q ∷ g) zero q {R} h = absurd (none-ne-some R h)
taken_at (Q ∷ g) (suc r) zero h = h
taken_at (Q ∷ g) (suc r) (suc q) h = taken_at g r q h

module _ (ok : Allowed) (W : ℕ) (g : Rules) (form : General W g) (w : List Token) (p : ℕ) (free : Free ok W g w (suc p)) (s : State) (calm : Calm W s.0 s.1) where
  after-size : (q : ℕ) (R : Rule) → get_elem? g q ≡ some R → length (after g s (drop p w) R) ≡ size ok W g w p s R
  unfolding counts
  after-size q R i = go (drop p w) refl
    where
      go : (v : List Token) → drop p w ≡ v → length (after g s v R) ≡ given (eqb (left R) s.0) (worth ok W g w p R) * weight W s.0 s.1 (counts ok W g p v).1
      go [] e = length-once ok p (ends R s.0 s.1) ∙ tally_end ok p W s.0 s.1 R ∙ ap (λ (n : ℕ). given (eqb (left R) s.0) n * weight W s.0 s.1 []) (worth_end ok W g w p e R)
      go (t ∷ v) e =
          rw (← (drop-next w p e))
          (length-follow W (counts ok W g (suc p) (drop (suc p) w)) (λ s'. runs g s' (drop (suc p) w)) (move R s.0 s.1 t) (λ s' m. free s' (calm_on W (form q R i) (moved R s.0 s.1 t s' m) calm))
          ∙ rule_ahead W (counts ok W g (suc p) (drop (suc p) w)) s.0 s.1 t R (form q R i) calm
          ∙ ap (λ (n : ℕ). given (eqb (left R) s.0) n * weight W s.0 s.1 (outer t (counts ok W g (suc p) (drop (suc p) w)))) (worth_token ok W g w p t v e R))

  -- all runs are those of all rules
  pub runs-size : length (runs g s (drop p w)) ≡ sum (λ q R. size ok W g w p s R) 0 g
  runs-size = rw (runs_after g s (drop p w)) (length-collect (after g s (drop p w)) 0 g ∙ sum_like _ _ 0 g (λ q r R i. after-size q R i))

  -- the k-th run is the i-th of those of the rule found
  kth_here : (k r i : ℕ) (a : Located (size ok W g w p s) g k r i) (e : List ℕ) → get_elem? (after g s (drop p w) a.rule) i ≡ some e → get_elem? (runs g s (drop p w)) k ≡ some (r ∷ e)
  kth_here k r i a e q =
      rw (runs_after g s (drop p w))
      (ap (get_elem? (collect (after g s (drop p w)) 0 g)) (sym a.skipped ∙ ap (λ (n : ℕ). n + i) (sym (sum_like _ _ 0 (take r g) (λ q j R i. after-size q R (taken_at g r q i)))))
      ∙ kth-collect (after g s (drop p w)) 0 g r a.rule i e a.is q
      ∙ rw zero-add)

  -- over a token
  pub kth-next : (s₀ : State) (k₀ : ℕ) (e₀ : List ℕ) (t : Token) (v : List Token) → drop p w ≡ t ∷ v → (k r i : ℕ) (a : Located (size ok W g w p s) g k r i) (L : ℕ) (z : Stack) → Move a.rule s.0 s.1 t L z →
      Onward g s₀ w k₀ e₀ p s k → Onward g s₀ w k₀ (e₀ ++ (r ∷ [])) (suc p) (L, z) i
  kth-next s₀ k₀ e₀ t v d k r i a L z m far f q =
      rw (append_assoc e₀ (r ∷ []) f) (far (r ∷ f) (kth_here k r i a f (rw (d, moves m, ← (drop-next w p d)) q)))

  -- what is left is one of those behind it
  pub inside_next : (t : Token) (v : List Token) → drop p w ≡ t ∷ v → (k r i : ℕ) (a : Located (size ok W g w p s) g k r i) (L : ℕ) (z : Stack) → Move a.rule s.0 s.1 t L z → i < length (runs g (L, z) (drop (suc p) w))
  inside_next t v d k r i a L z m = rw (← (after-size r a.rule a.is), d, moves m, ← (drop-next w p d)) at a.inside

  -- and where no token is left it is the whole
  pub kth-last : (s₀ : State) (k₀ : ℕ) (e₀ : List ℕ) → drop p w ≡ [] → (k r i : ℕ) → Located (size ok W g w p s) g k r i → Onward g s₀ w k₀ e₀ p s k → get_elem? (runs g s₀ w) k₀ ≡ some (e₀ ++ (r ∷ []))
  kth-last s₀ k₀ e₀ d k r i a far = far (r ∷ []) (kth_here k r i a [] (rw d (only_one (ends a.rule s.0 s.1) i (rw (← (after-size r a.rule a.is), d) at a.inside))))
    where
      only_one : (b : Bool) (i : ℕ) → i < length (once b) → get_elem? (once b) i ≡ some []
      only_one true zero h = refl
      only_one true (suc i) h = absurd (omega arith)
      only_one false i h = absurd (omega arith)

-- ── counts of all runs ──

run_length : (g : Rules) (v : List Token) (s : State) (e : List ℕ) → Memᴰ e (runs g s v) → length e ≡ suc (length v)
run_length g [] s e m = rw (ended g s.0 s.1 e m).shape
run_length g (t ∷ v) s e m = let k = taken g s.0 s.1 t v e m in rw k.shape (ap suc (run_length g v (k.nonterminal, k.due) k.rest k.run))

-- a position that no run reaches asks for nothing
pub all-free : (a r W : ℕ) (g : Rules) → General W g → (w : List Token) (p : ℕ) → p ≤ length w + 1 → length w + 1 < a → Free (alone_at a r) W g w p
all-free a r W g form w p h l s c =
    sym (tally-all (passes (alone_at a r) p) (runs g s (drop p w)) (λ e m. passes_before a r p e (omega (arith, run_length g (drop p w) s e m, length-drop p w))))
    ∙ tally-runs (alone_at a r) W g form p (drop p w) s c

-- ── the rules before one ──

pub sum-take : (f : ℕ → Rule → ℕ) (n : ℕ) (g : Rules) (j : ℕ) (R : Rule) → get_elem? g j ≡ some R → sum f n (take (suc j) g) ≡ sum f n (take j g) + f (n + j) R
sum-take f n [] j R p = absurd (none-ne-some R p)
sum-take f n (Q ∷ g) zero R p = rw (some-injective Q R p, add-zero n) (omega arith)
sum-take f n (Q ∷ g) (suc j) R p = rw (sum-take f (suc n) g j R p, suc-add n j, add-suc n j) (omega arith)
