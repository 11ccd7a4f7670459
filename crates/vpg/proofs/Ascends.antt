-- `entries` stand in strictly ascending order, so none of them stands twice.
use Prim.Native.Nat.{ℕ, suc}
use native.Mathlib.Omega.{arith}
use mathlib.Core.Path.{refl}
use mathlib.Core.Logic.{inl, inr, ⊎_elim}
use mathlib.Core.Bool.{Bool, true, false}
use mathlib.Core.List.Memᴰ
use mathlib.Core.List.{List, [], ◌∷◌, ◌++◌, map, Memᴰ}
use mathlib.Core.Option.{Option, none, some}
use Rattle.vpg.specs.declared.Rule.{Rule}
use Rattle.vpg.specs.declared.Token.{Token}
use Rattle.vpg.specs.believed.Grammar.{Rules, Grammar}
use Rattle.vpg.specs.believed.Order.{Before, Ascending}
use Rattle.vpg.specs.Runs.{State, move, ends, collect, once, follow, runs, entries}
use Rattle.vpg.proofs.Take.{hit}

asc_append : (l l' : List (List ℕ)) → Ascending l → Ascending l' → ((x : List ℕ) → Memᴰ x l → (y : List ℕ) → Memᴰ y l' → Before x y) → Ascending (l ++ l')
asc_append [] l' p q h = q
asc_append (e ∷ l) l' p q h = (
  λ f m. ⊎_elim (λ n. p.0 f n) (λ n. h e (Memᴰ.head refl) f n) (Memᴰ.append_cases l m),
  asc_append l l' p.1 q (λ x n y n'. h x (Memᴰ.tail n) y n'),
)

asc_map : (n : ℕ) (l : List (List ℕ)) → Ascending l → Ascending (map (λ e. n ∷ e) l)
asc_map n [] p = tt
asc_map n (e ∷ l) p = (λ f m. let h = Memᴰ.of_map (λ (e : List ℕ). n ∷ e) l m in rw (← h.2) (inr (refl, p.0 h.0 h.1)), asc_map n l p.1)

-- what a rule gives stands before what a later rule gives
earlier : (k : Rule → List (List ℕ)) (n : ℕ) (R : Rule) (g : Rules) (x : List ℕ) → Memᴰ x (map (λ e. n ∷ e) (k R)) → (y : List ℕ) → Memᴰ y (collect k (suc n) g) → Before x y
earlier k n R g x m y m' =
    let h = Memᴰ.of_map (λ (e : List ℕ). n ∷ e) (k R) m in
    let f = hit k (suc n) g y m' in
    rw (← h.2, f.shape) (inl (omega arith))

asc_collect : (k : Rule → List (List ℕ)) → ((R : Rule) → Ascending (k R)) → (n : ℕ) (g : Rules) → Ascending (collect k n g)
asc_collect k p n [] = tt
asc_collect k p n (R ∷ g) = asc_append (map (λ e. n ∷ e) (k R)) (collect k (suc n) g) (asc_map n (k R) (p R)) (asc_collect k p (suc n) g) (earlier k n R g)

asc_once : (b : Bool) → Ascending (once b)
asc_once true = (λ f m. absurd (Memᴰ.not-nil m), tt)
asc_once false = tt

asc_follow : (o : Option State) (k : State → List (List ℕ)) → ((s : State) → Ascending (k s)) → Ascending (follow o k)
asc_follow none k p = tt
asc_follow (some s) k p = p s

asc_runs : (g : Rules) (w : List Token) (s : State) → Ascending (runs g s w)
unfolding runs
asc_runs g [] s = asc_collect (λ R. once (ends R s.0 s.1)) (λ R. asc_once (ends R s.0 s.1)) 0 g
asc_runs g (t ∷ w) s =
    asc_collect (λ R. follow (move R s.0 s.1 t) (λ s'. runs g s' w)) (λ R. asc_follow (move R s.0 s.1 t) (λ s'. runs g s' w) (asc_runs g w)) 0 g

pub entries_ascending : (g : Grammar) (w : List Token) → Ascending (entries g w)
entries_ascending g w = asc_runs g.rules w (g.start, [])
