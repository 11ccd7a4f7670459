-- Readings position by position: runs, the next run and the last one, one position to the left or to the right.
use Prim.Native.Nat.{ℕ, zero, suc, ◌<◌, ◌≤◌}
use native.Mathlib.Nat.{eq-or-lt_of_le, le_of_suc-le-suc}
use native.Mathlib.Omega.{arith}
use mathlib.Core.Path.{◌≡◌, sym, ◌∙◌}
use mathlib.Core.Logic.{⊎_elim}
use mathlib.Core.Bool.{true}
use mathlib.Core.List.{List, [], ◌∷◌, ◌++◌, append_assoc}
use mathlib.Core.Option.{some}
use lib.ListN.{length, take, drop, get_or, set, get_elem?}
use lib.Seq.{drop-cons, get_or-set_other, get_or-set_same, take-suc}
use Rattle.laws.proofs.Lists.{heads, tails}
use Rattle.vpg.specs.declared.Rule.{Rule}
use Rattle.vpg.specs.declared.Token.{Token}
use Rattle.vpg.specs.believed.Grammar.{Rules, General, left}
use Rattle.vpg.specs.Extremes.{Least, Next, Last}
use Rattle.vpg.specs.Runs.{Stack, State, move}
use Rattle.vpg.proofs.Take.{Move, moved, moves, taken}
use Rattle.vpg.proofs.Take
use Rattle.level_theory.specs.Masks.{applies, outer, masks, Match, Fits}
use Rattle.level_theory.specs.Pending.{pending_at, close_of, due_at}
use Rattle.level_theory.specs.Walk.{Run, test_at, inner}
use Rattle.level_theory.specs.Local.{state_at, LeadsAt, LeadsTo}
use Rattle.level_theory.proofs.Pending.{calm_due}
use Rattle.level_theory.proofs.Search.{Leads, None, same_place, first_step, next_keep, next-turn, last_step}
use Rattle.level_theory.proofs.Walk.{stored, stable, onward}

-- ── one position ──

module _ (W : ℕ) (g : Rules) (w : List Token) (n : ℕ) (f : List ℕ) (p : ℕ) (t : Token) (here : drop p w ≡ t ∷ drop (suc p) w) where
  -- what is due at p below L
  abbrev Due : ℕ → Stack
  Due L = due_at W f (pending_at w p) L

  -- the state at the next position, after rule R
  abbrev pub Then : Rule → State
  Then R = (inner R (get_or f p 0), due_at W (stored W g w p n f R) (pending_at w (suc p)) (inner R (get_or f p 0)))

  -- where a rule that passes leads, if the state at p fits
  pub record Turn (L r : ℕ) (R : Rule) : Type 0 where
    pub is : get_elem? g r ≡ some R
    pub goes : Move R L (Due L) t (Then R).0 (Then R).1
    pub fits : Fits W (Then R).0 (Then R).1 (masks W g (drop (suc p) w))

  match_at : (L : ℕ) (s : Stack) → Fits W L s (masks W g (drop p w)) → Match W L s (outer t (masks W g (drop (suc p) w)))
  unfolding masks
  match_at L s h = (rw here at h).1

  test_at_lem : (R : Rule) → test_at W g (drop p w) R ≡ applies W (masks W g (drop (suc p) w)) t R
  unfolding test_at
  test_at_lem R = rw here

  pub none-at : (L : ℕ) (P : ℕ → Type 0) → None (test_at W g (drop p w)) g L P → None (applies W (masks W g (drop (suc p) w)) t) g L P
  none-at L P d r x k = d r x (record { rule = k.rule; is = k.is; from = k.from; passes = test_at_lem k.rule ∙ k.passes })

  pub turn : General W g → (L r : ℕ) (R : Rule) → close_of (pending_at w (suc p)) n < length f → Fits W L (Due L) (masks W g (drop p w)) →
      get_elem? g r ≡ some R → left R ≡ L → test_at W g (drop p w) R ≡ true → Turn L r R
  turn ok L r R room h i e q =
      let k = onward W g w p n f R t (drop (suc p) w) (ok r R i) here room (rw e (match_at L (Due L) h)) (sym (test_at_lem R) ∙ q) in
      record { is = i; goes = rw e at k.goes; fits = k.fits }

  turn_leads : {L r : ℕ} {R : Rule} → Turn L r R → Leads g L (Due L) t (drop (suc p) w) r (Then R).0 (Then R).1
  turn_leads {R = R} k = record { rule = R; is = k.is; goes = k.goes }

  -- the first run from p goes by the first rule that passes
  pub first-turn : General W g → (L r : ℕ) (R : Rule) (e : List ℕ) → Turn L r R → None (test_at W g (drop p w)) g L (λ q. q < r) →
      Least (Run g (Then R) (drop (suc p) w)) e → Least (Run g (L, Due L) (drop p w)) (r ∷ e)
  first-turn ok L r R e k d h =
      least_at (Due L) (first_step g L (Due L) t (drop (suc p) w) W ok (calm_due W f (pending_at w p) L) r _ _ e (turn_leads k) (none-at L (λ q. q < r) d) h)
    where
      least_at : (s : Stack) → Least (Run g (L, s) (t ∷ drop (suc p) w)) (r ∷ e) → Least (Run g (L, s) (drop p w)) (r ∷ e)
      least_at s x = rw here x

-- ── a walk of which each position leads to the next ──

-- the tokens from a position on, for any state
at_tokens : (P : List Token → Type 0) (w : List Token) (q : ℕ) {t : Token} → drop q w ≡ t ∷ drop (suc q) w → P (t ∷ drop (suc q) w) → P (drop q w)
at_tokens P w q h x = rw h x

from_tokens : (P : List Token → Type 0) (w : List Token) (q : ℕ) {t : Token} → drop q w ≡ t ∷ drop (suc q) w → P (drop q w) → P (t ∷ drop (suc q) w)
from_tokens P w q h x = rw h at x

module _ (W : ℕ) (g : Rules) (w : List Token) (at f e : List ℕ) where
  -- e from position q on is a run from the state at q
  abbrev pub RunFrom : ℕ → Type 0
  RunFrom q = Run g (state_at W w at f q) (drop q w) (drop q e)

  -- there is no later run from the state at q
  abbrev pub LastFrom : ℕ → Type 0
  LastFrom q = Last (Run g (state_at W w at f q) (drop q w)) (drop q e)

  -- x is the next run from the state at q
  abbrev pub NextFrom : ℕ → List ℕ → Type 0
  NextFrom q x = Next (Run g (state_at W w at f q) (drop q w)) (drop q e) x

  module _ (q : ℕ) (k : LeadsAt W g w at f e q) (long : q < length e) where
    abbrev S : State
    S = state_at W w at f q

    abbrev S' : State
    S' = state_at W w at f (suc q)

    pub leads : Leads g S.0 S.1 k.token (drop (suc q) w) (get_or e q 0) S'.0 S'.1
    leads = record { rule = k.rule; is = k.is; goes = moved k.rule S.0 S.1 k.token S' k.goes }

    head : drop q e ≡ get_or e q 0 ∷ drop (suc q) e
    head = drop-cons e q 0 long

    pub run_left : RunFrom (suc q) → RunFrom q
    run_left r = at_tokens (λ v. Run g S v (drop q e)) w q k.here (rw head (Take.take g (drop (suc q) w) leads.is leads.goes r))

    pub run_right : RunFrom q → RunFrom (suc q)
    run_right r =
        let x = taken g S.0 S.1 k.token (drop (suc q) w) (drop q e) (from_tokens (λ v. Run g S v (drop q e)) w q k.here r) in
        let y : get_or e q 0 ∷ drop (suc q) e ≡ x.number ∷ x.rest = sym head ∙ x.shape in
        rw (tails y) (same_place g S.0 S.1 k.token (drop (suc q) w) leads x (heads y))

    pub last-left : General W g → LastFrom (suc q) → None (test_at W g (drop q w)) g S.0 (λ r. get_or e q 0 < r) → LastFrom q
    last-left ok l d =
        at_tokens (λ v. Last (Run g S v) (drop q e)) w q k.here
        (rw head (last_step g S.0 S.1 k.token (drop (suc q) w) W ok (calm_due W f (pending_at w q) S.0) (get_or e q 0) S'.0 S'.1 (drop (suc q) e) leads l (none-at W g w 0 f q k.token k.here S.0 (λ r. get_or e q 0 < r) d)))

    pub next-left : (x : List ℕ) → NextFrom (suc q) x → NextFrom q (get_or e q 0 ∷ x)
    next-left x n =
        at_tokens (λ v. Next (Run g S v) (drop q e) (get_or e q 0 ∷ x)) w q k.here
        (rw head (next_keep g S.0 S.1 k.token (drop (suc q) w) (get_or e q 0) S'.0 S'.1 (drop (suc q) e) x leads n))

    -- the next run from q goes by the next rule that passes
    pub next_here : General W g → (m r : ℕ) (R : Rule) (x : List ℕ) → LastFrom (suc q) → get_or e q 0 < r → Turn W g w m f q k.token k.here S.0 r R →
        None (test_at W g (drop q w)) g S.0 (λ p. (get_or e q 0 < p) × (p < r)) →
        Least (Run g (Then W g w m f q k.token k.here R) (drop (suc q) w)) x → NextFrom q (r ∷ x)
    next_here ok m r R x l lt u d h =
        at_tokens (λ v. Next (Run g S v) (drop q e) (r ∷ x)) w q k.here
        (rw head
        (next-turn g S.0 S.1 k.token (drop (suc q) w) W ok (calm_due W f (pending_at w q) S.0) (get_or e q 0) S'.0 S'.1 (drop (suc q) e) r _ _ x leads l lt (turn_leads W g w m f q k.token k.here u)
        (none-at W g w 0 f q k.token k.here S.0 (λ p. (get_or e q 0 < p) × (p < r)) d) h))

  -- a next run from p makes a next run of all
  pub next-all : (p : ℕ) (x : List ℕ) → p ≤ length e → LeadsTo W g w at f e p → NextFrom p x → NextFrom 0 (take p e ++ x)
  next-all zero x h k n = n
  next-all (suc p) x h k n =
      rw (take-suc e p 0 h, append_assoc (take p e) (get_or e p 0 ∷ []) x)
      (next-all p (get_or e p 0 ∷ x) (omega arith) (λ q l. k q (omega arith)) (next-left p (k p (omega arith)) h x n))

  -- a run of all is a run from each position that is led to
  pub run_at : (p : ℕ) → p ≤ length e → LeadsTo W g w at f e p → RunFrom 0 → RunFrom p
  run_at zero h k r = r
  run_at (suc p) h k r = run_right p (k p (omega arith)) h (run_at p (omega arith) (λ q l. k q (omega arith)) r)

-- one position more: the arrays after rule R at position p
module _ (W : ℕ) (g : Rules) (w : List Token) (n : ℕ) (at f e : List ℕ) (p : ℕ) (t : Token) (here : drop p w ≡ t ∷ drop (suc p) w) (R : Rule)
    (u : Turn W g w n f p t here (get_or at p 0) (get_or e p 0) R) (room : suc p < length at) where
  abbrev at' : List ℕ
  at' = set at (suc p) (inner R (get_or f p 0))

  abbrev f' : List ℕ
  f' = stored W g w p n f R

  same_state : (q : ℕ) → q ≤ p → state_at W w at' f' q ≡ state_at W w at f q
  same_state q h = rw (get_or-set_other at (suc p) q (inner R (get_or f p 0)) 0 (λ z. omega arith), stable W g w p n f u.goes here u.fits q h (get_or at q 0))

  next_state : state_at W w at' f' (suc p) ≡ Then W g w n f p t here R
  next_state = rw (get_or-set_same at (suc p) (inner R (get_or f p 0)) 0 room)

  pub fits_next : Fits W (state_at W w at' f' (suc p)).0 (state_at W w at' f' (suc p)).1 (masks W g (drop (suc p) w))
  fits_next = rw (get_or-set_same at (suc p) (inner R (get_or f p 0)) 0 room) u.fits

  goes_on : (R : Rule) (t : Token) (s s' x x' : State) → x ≡ s → x' ≡ s' → move R s.0 s.1 t ≡ some s' → move R x.0 x.1 t ≡ some x'
  goes_on R t s s' x x' a b h = rw (a, b) h

  pub leads_next : LeadsTo W g w at f e p → LeadsTo W g w at' f' e (suc p)
  leads_next k q h = ⊎_elim (λ z. rw z last) (λ l. older q l) (eq-or-lt_of_le (le_of_suc-le-suc h))
    where
      last : LeadsAt W g w at' f' e p
      last = record {
        token = t;
        here = here;
        rule = R;
        is = u.is;
        goes = goes_on R t (state_at W w at f p) (Then W g w n f p t here R) (state_at W w at' f' p) (state_at W w at' f' (suc p)) (same_state p (omega arith)) next_state (moves u.goes);
      }

      older : (q : ℕ) → q < p → LeadsAt W g w at' f' e q
      older q l =
          let x = k q l in
          record {
            token = x.token;
            here = x.here;
            rule = x.rule;
            is = x.is;
            goes = goes_on x.rule x.token (state_at W w at f q) (state_at W w at f (suc q)) (state_at W w at' f' q) (state_at W w at' f' (suc q)) (same_state q (omega arith)) (same_state (suc q) l) x.goes;
          }
