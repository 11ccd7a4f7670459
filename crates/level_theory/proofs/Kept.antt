-- The rules kept from left to right are those that stand in readings.
use Prim.Native.Nat.{ℕ, zero, suc, ◌<◌, ◌≤◌}
use native.Mathlib.Omega.{arith}
use mathlib.Core.Path.{◌≡◌, refl, sym, ◌∙◌, ap}
use mathlib.Core.Logic.{◌↔◌, ◌⊎◌, inl, inr, ⊎_elim}
use mathlib.Core.Bool.{Bool, true, false, ◌&&◌, ◌||◌, false≢true, or-true}
use mathlib.Core.List.{List, [], ◌∷◌, map, Memᴰ}
use mathlib.Core.Option.{Option, none, some, none-ne-some, some-injective}
use borrow.Author.Tests.{eqb-true, eq-eqb}
use lib.Dec.{eqb}
use lib.ListN.{get_elem?, drop}
use Rattle.laws.proofs.Lists.{heads, tails}
use Rattle.laws.proofs.Any.{any_some, some-any}
use Rattle.laws.specs.Any.{any}
use Rattle.vpg.specs.declared.CloseName.{CloseName}
use Rattle.vpg.specs.declared.Rule.{Rule}
use Rattle.vpg.specs.declared.Token.{Token}
use Rattle.vpg.specs.believed.Grammar.{Rules, Grammar, InForm, General, left}
use Rattle.vpg.specs.Runs.{Stack, runs, entries}
use Rattle.sets_theory.specs.KeptTest.{kept}
use Rattle.laws.proofs.Bools.{and_left, and_right, or_cases, both, same_test}
use Rattle.sets_theory.proofs.Sets.{kept_entry}
use Rattle.vpg.proofs.Take.{Move, by_empty, by_next, by_step, moved, moves, Taken, taken, take, ended, end}
use Rattle.level_theory.specs.Masks.{Nonterminals, Outer, floor, onto, applies, masks, Calm, Match, Fits}
use Rattle.level_theory.specs.Pending.{Closes, rest, pending_over, pending_at, close_of}
use Rattle.level_theory.specs.Walk.{test_at}
use Rattle.level_theory.specs.Kept.{keeps, goes_to, returns_to, going, returning, passed, Reached, Behind, Returns, Front}
use Rattle.level_theory.proofs.Alive.{lefts-some, all-fits, fits_all, high_calm, alone_high, applies_goes, goes_applies, calm_on, ends_empty, run_fits, fits_run}
use Rattle.level_theory.proofs.Pending.{From, rest_in, pending-from, drop-next, pending_next, masks-outer}

-- ── lists ──

module _ {A : Type 0} where
  drop_all : (l : List A) (p : ℕ) {x : A} {f : List A} → drop p l ≡ x ∷ f → get_elem? l p ≡ some x
  drop_all [] zero e = absurd (let z : ◌≡◌ {A = ℕ} 0 1 = cc in omega arith)
  drop_all [] (suc p) e = absurd (let z : ◌≡◌ {A = ℕ} 0 1 = cc in omega arith)
  drop_all (y ∷ l) zero e = ap some (heads e)
  drop_all (y ∷ l) (suc p) e = drop_all l p e

  -- what stands from position p on, where there is an element
  all_drop : (l : List A) (p : ℕ) {x : A} → get_elem? l p ≡ some x → drop p l ≡ x ∷ drop (suc p) l
  all_drop [] p {x} e = absurd (none-ne-some x e)
  all_drop (y ∷ l) zero {x} e = rw (some-injective y x e)
  all_drop (y ∷ l) (suc p) e = all_drop l p e

  -- and one position before
  drop_prior : (l : List A) (p : ℕ) {x : A} {f : List A} → drop (suc p) l ≡ x ∷ f → (y : A) × (drop p l ≡ y ∷ x ∷ f)
  drop_prior [] p e = absurd (let z : ◌≡◌ {A = ℕ} 0 1 = cc in omega arith)
  drop_prior (y ∷ l) zero e = (y, rw e)
  drop_prior (y ∷ l) (suc p) e = drop_prior l p e

-- ── readings and what they reach ──

match_calm : (W L : ℕ) (s : Stack) (ms : Outer) → Match W L s ms → Calm W L s
match_calm W L [] ms f = tt
match_calm W L (d ∷ s) [] f = absurd f
match_calm W L (d ∷ s) (m ∷ ms) f = (f.0, match_calm W d.1 s ms f.3)

module _ (W : ℕ) (g : Grammar) (ok : General W g.rules) (w : List Token) where
  abbrev G : Rules
  G = g.rules

  pub reached_fits : (p L : ℕ) (s : Stack) → Reached W g w p L s → Fits W L s (masks W G (drop p w))
  reached_fits zero L s a = a.2
  reached_fits (suc p) L s a = a.fits

  pub reached_calm : (p L : ℕ) (s : Stack) → Reached W g w p L s → Calm W L s
  reached_calm p L s a = match_calm W L s (masks W G (drop p w)).1 (reached_fits p L s a).1

  -- a run from there is the rest of an entry
  entry_of : (p L : ℕ) (s : Stack) → Reached W g w p L s → (e : List ℕ) → Memᴰ e (runs G (L, s) (drop p w)) → (f : List ℕ) × Memᴰ f (entries g w) × (drop p f ≡ e)
  entry_of zero L s a e m = (e, rw (a.0, a.1) at m, refl)
  entry_of (suc p) L s a e m =
      let v = moved a.rule a.nonterminal a.due a.token (L, s) a.goes in
      let x = take G (drop (suc p) w) a.is v m in
      let h = entry_of p a.nonterminal a.due a.reached (a.number ∷ e) (rw a.tokens x) in
      (h.0, h.1, drop-next h.0 p h.2)

  -- what an entry has at position p and behind is a run from what is reached there
  record Along (p : ℕ) (e : List ℕ) : Type 0 where
    nonterminal : ℕ
    due : Stack
    reached : Reached W g w p nonterminal due
    run : Memᴰ e (runs G (nonterminal, due) (drop p w))

  along : (e : List ℕ) → Memᴰ e (entries g w) → (p x : ℕ) (f : List ℕ) → drop p e ≡ x ∷ f → Along p (x ∷ f)
  along e m zero x f q = record { nonterminal = g.start; due = []; reached = (refl, refl, run_fits W G ok w g.start [] tt e m); run = rw q at m }
  along e m (suc p) x f q =
      let y = drop_prior e p q in
      go y.0 (along e m p y.0 (x ∷ f) y.1)
    where
      go : (y : ℕ) → Along p (y ∷ x ∷ f) → Along (suc p) (x ∷ f)
      go y a = by (drop p w) refl a.run
        where
          by : (v : List Token) → drop p w ≡ v → Memᴰ (y ∷ x ∷ f) (runs G (a.nonterminal, a.due) v) → Along (suc p) (x ∷ f)
          by [] q m = let k = ended G a.nonterminal a.due (y ∷ x ∷ f) m in absurd (let z : ◌≡◌ {A = ℕ} 0 1 = cc (tails k.shape) in omega arith)
          by (t ∷ v) q m = on q (taken G a.nonterminal a.due t v (y ∷ x ∷ f) m)
            where
              on : {t : Token} {v : List Token} → drop p w ≡ t ∷ v → Taken G a.nonterminal a.due t v (y ∷ x ∷ f) → Along (suc p) (x ∷ f)
              on {t} {v} q k =
                  let n = drop-next w p q in
                  record {
                    nonterminal = k.nonterminal;
                    due = k.due;
                    reached = record {
                      token = t;
                      nonterminal = a.nonterminal;
                      due = a.due;
                      number = k.number;
                      rule = k.rule;
                      reached = a.reached;
                      tokens = q ∙ rw n;
                      is = k.is;
                      goes = moves k.goes;
                      fits = rw n (run_fits W G ok v k.nonterminal k.due (calm_on W (ok k.number k.rule k.is) k.goes (reached_calm p a.nonterminal a.due a.reached)) k.rest k.run);
                    };
                    run = rw (n, tails k.shape) k.run;
                  }

  -- rule number r is for a nonterminal that is reached before position p, and can stand there
  record Standing (p r : ℕ) : Type 0 where
    rule : Rule
    due : Stack
    is : get_elem? G r ≡ some rule
    reached : Reached W g w p (left rule) due
    passes : test_at W G (drop p w) rule ≡ true

  -- a rule that can stand begins a run
  begins : (v : List Token) (r : ℕ) (R : Rule) (s : Stack) → get_elem? G r ≡ some R → Fits W (left R) s (masks W G v) → test_at W G v R ≡ true → (e : List ℕ) × Memᴰ (r ∷ e) (runs G (left R, s) v)
  unfolding masks test_at
  begins [] r R [] i f q = ([], end G (ends_empty G (left R) r (record { rule = R; is = i; from = refl; passes = q })))
  begins [] r R (d ∷ s) i f q = absurd f.1
  begins (t ∷ v) r R s i f q =
      let k = applies_goes W (masks W G v) t R s (ok r R i) f.1 q in
      let e = fits_run W G ok v k.nonterminal k.due k.fits in
      (e.0, take G v i k.goes e.1)

  -- and the first rule of a run can stand
  record First (v : List Token) (L : ℕ) (r : ℕ) : Type 0 where
    rule : Rule
    is : get_elem? G r ≡ some rule
    from : left rule ≡ L
    passes : test_at W G v rule ≡ true

  first : (v : List Token) (L : ℕ) (s : Stack) → Calm W L s → (r : ℕ) (e : List ℕ) → Memᴰ (r ∷ e) (runs G (L, s) v) → First v L r
  unfolding test_at
  first [] L s c r e m =
      let k = ended G L s (r ∷ e) m in
      record { rule = Rule.Empty L; is = rw (heads k.shape) k.is; from = refl; passes = refl }
  first (t ∷ v) L s c r e m = on (taken G L s t v (r ∷ e) m)
    where
      on : Taken G L s t v (r ∷ e) → First (t ∷ v) L r
      on k =
          let h = ok k.number k.rule k.is in
          let a = goes_applies W (masks W G v) h c k.goes (run_fits W G ok v k.nonterminal k.due (calm_on W h k.goes c) k.rest k.run) in
          record { rule = k.rule; is = rw (heads k.shape) k.is; from = a.from; passes = a.applied }

  standing : (p r : ℕ) → (kept g w p r ≡ true) ↔ Standing p r
  standing p r = (out, into)
    where
      out : kept g w p r ≡ true → Standing p r
      out h =
          let k = (kept_entry g w p r).0 h in
          let a = along k.0 k.1 p r (drop (suc p) k.0) (all_drop k.0 p k.2) in
          let f = first (drop p w) a.nonterminal a.due (reached_calm p a.nonterminal a.due a.reached) r (drop (suc p) k.0) a.run in
          record { rule = f.rule; due = a.due; is = f.is; reached = rw f.from a.reached; passes = f.passes }

      into : Standing p r → kept g w p r ≡ true
      into k =
          let b = begins (drop p w) r k.rule k.due k.is (reached_fits p (left k.rule) k.due k.reached) k.passes in
          let e = entry_of p (left k.rule) k.due k.reached (r ∷ b.0) b.1 in
          (kept_entry g w p r).1 (e.0, e.1, drop_all e.0 p e.2)

  -- ── the kept rules, from the nonterminals that can stand ──

  pub front_kept : (p : ℕ) (here : Nonterminals) (back : ℕ → Nonterminals) → Front W g w p here back → (r : ℕ) → kept g w p r ≡ passed (keeps W G (drop p w) here) (get_elem? G r)
  front_kept p here back h r = same_test _ _ (λ k. out ((standing p r).0 k)) (λ k. (standing p r).1 (go (get_elem? G r) refl k))
    where
      out : Standing p r → passed (keeps W G (drop p w) here) (get_elem? G r) ≡ true
      out k = rw k.is (both ((h.stands (left k.rule)).1 (k.due, k.reached)) k.passes)

      go : (o : Option Rule) → get_elem? G r ≡ o → passed (keeps W G (drop p w) here) o ≡ true → Standing p r
      go none e q = absurd (false≢true q)
      go (some R) e q =
          let a = (h.stands (left R)).0 (and_left (here (left R)) _ q) in
          record { rule = R; due = a.0; is = e; reached = a.1; passes = and_right (here (left R)) _ q }

-- ── one step: what is due before a token and behind it ──

behind_in : (s : Stack) (l : Closes) (j K : ℕ) → Behind s l j K → (d : CloseName × ℕ) × Memᴰ d l × (d.1 ≡ j)
behind_in [] l j K h = absurd h
behind_in (x ∷ s) [] j K h = absurd h
behind_in (x ∷ s) (c ∷ l) j K (inl h) = (c, Memᴰ.head refl, h.0)
behind_in (x ∷ s) (c ∷ l) j K (inr h) = let k = behind_in s l j K h in (k.0, Memᴰ.tail k.1, k.2)

-- what is due has a close
abbrev Covered : Stack → Closes → Type 0
Covered [] l = Unit
Covered (d ∷ s) [] = ⊥
Covered (d ∷ s) (c ∷ l) = Unit

-- l: the pending closes behind position p; n: stands for the place of a close where there is none
module _ (W p n : ℕ) (l : Closes) (from : From (suc p) l) where
  not_here : (s : Stack) (K : ℕ) → Behind s l p K → ⊥
  not_here s K h = let k = behind_in s l p K h in omega (arith, from k.0 k.1)

  rest-not_here : (s : Stack) (K : ℕ) → Behind s (rest l) p K → ⊥
  rest-not_here s K h = let k = behind_in s (rest l) p K h in omega (arith, from k.0 (rest_in l k.1))

  -- where a token is taken alone that isn't a mark, nothing is due
  alone_due : (L : ℕ) (s : Stack) → (L < W → ⊥) → Calm W L s → s ≡ []
  alone_due L s h c = high_calm W L s (alone_high W L h) c

  none_due : (s : Stack) (l : Closes) (j K : ℕ) → s ≡ [] → Behind s l j K → ⊥
  none_due s l j K e h = rw e at h

  -- the nonterminal at the next position is the rule's, or stands behind the close that was met
  to_next : {R : Rule} {L : ℕ} {s : Stack} {t : Token} {L' : ℕ} {s' : Stack} → Move R L s t L' s' → (K : ℕ) → goes_to R K ≡ true → L' ≡ K
  to_next by_empty K q = absurd (false≢true q)
  to_next (by_next {L₁}) K q = eqb-true L₁ K q
  to_next (by_step {L₁}) K q = eqb-true L₁ K q

  back_next : {R : Rule} {L : ℕ} {s : Stack} {t : Token} {L' : ℕ} {s' : Stack} → InForm W R → Calm W L s → Move R L s t L' s' → (K : ℕ) → Behind s (pending_over t p l) p K → L' ≡ K
  back_next ok c (by_empty {s}) K (inl h) = h.1
  back_next ok c (by_empty {s}) K (inr h) = absurd (not_here s K h)
  back_next ok c (by_next {t = Token.Mark n} {s = s}) K h = absurd (not_here s K h)
  back_next ok c (by_next {L} {t = Token.Open a} {s = s}) K h = absurd (none_due s (pending_over (Token.Open a) p l) p K (alone_due L s (λ x. (ok x).0) c) h)
  back_next ok c (by_next {L} {t = Token.Close b} {s = s}) K h = absurd (none_due s (pending_over (Token.Close b) p l) p K (alone_due L s (λ x. (ok x).0) c) h)
  back_next ok c (by_step {s}) K h = absurd (rest-not_here s K h)

  from_next : {R : Rule} {L : ℕ} {s : Stack} {t : Token} {L' : ℕ} {s' : Stack} → Move R L s t L' s' → Behind s (pending_over t p l) p L' ⊎ (goes_to R L' ≡ true)
  from_next by_empty = inl (inl (refl, refl))
  from_next (by_next {L₁}) = inr (eq-eqb L₁ L₁ refl)
  from_next (by_step {L₁}) = inr (eq-eqb L₁ L₁ refl)

  -- what is due behind a close further on was due already, or is what the rule has behind its close
  stays_due : {R : Rule} {L : ℕ} {s : Stack} {t : Token} {L' : ℕ} {s' : Stack} → InForm W R → Calm W L s → Move R L s t L' s' → Covered s' l → (j K : ℕ) → suc p ≤ j → Behind s (pending_over t p l) j K → Behind s' l j K
  stays_due ok c by_empty m j K le (inl h) = absurd (omega arith)
  stays_due ok c by_empty m j K le (inr h) = h
  stays_due ok c (by_next {t = Token.Mark n}) m j K le h = h
  stays_due ok c (by_next {L} {t = Token.Open a} {s = s}) m j K le h = absurd (none_due s (pending_over (Token.Open a) p l) j K (alone_due L s (λ x. (ok x).0) c) h)
  stays_due ok c (by_next {L} {t = Token.Close b} {s = s}) m j K le h = absurd (none_due s (pending_over (Token.Close b) p l) j K (alone_due L s (λ x. (ok x).0) c) h)
  stays_due ok c (by_step {L₂} {b} {s}) m j K le h = go l m h
    where
      go : (l : Closes) → Covered ((b, L₂) ∷ s) l → Behind s (rest l) j K → Behind ((b, L₂) ∷ s) l j K
      go [] m h = absurd m
      go (c ∷ l) m h = inr h

  falls_due : {R : Rule} {L : ℕ} {s : Stack} {t : Token} {L' : ℕ} {s' : Stack} → Move R L s t L' s' → Covered s' l → (K : ℕ) → returns_to R K ≡ true → Behind s' l (close_of l n) K
  falls_due by_empty m K q = absurd (false≢true q)
  falls_due by_next m K q = absurd (false≢true q)
  falls_due (by_step {L₂} {b} {s}) m K q = go l m
    where
      go : (l : Closes) → Covered ((b, L₂) ∷ s) l → Behind ((b, L₂) ∷ s) l (close_of l n) K
      go [] m = absurd m
      go (c ∷ l) m = inl (refl, eqb-true L₂ K q)

  was_due : {R : Rule} {L : ℕ} {s : Stack} {t : Token} {L' : ℕ} {s' : Stack} → InForm W R → Calm W L s → Move R L s t L' s' → (j K : ℕ) → Behind s' l j K → Behind s (pending_over t p l) j K ⊎ ((j ≡ close_of l n) × (returns_to R K ≡ true))
  was_due ok c by_empty j K h = inl (inr h)
  was_due ok c (by_next {t = Token.Mark n}) j K h = inl h
  was_due ok c (by_next {L} {t = Token.Open a} {s = s}) j K h = absurd (none_due s l j K (alone_due L s (λ x. (ok x).0) c) h)
  was_due ok c (by_next {L} {t = Token.Close b} {s = s}) j K h = absurd (none_due s l j K (alone_due L s (λ x. (ok x).0) c) h)
  was_due ok c (by_step {L₂} {b} {s}) j K h = go l h
    where
      go : (l : Closes) → Behind ((b, L₂) ∷ s) l j K → Behind s (rest l) j K ⊎ ((j ≡ close_of l n) × (eqb L₂ K ≡ true))
      go [] h = absurd h
      go (c ∷ l) (inl h) = inr (sym h.0, eq-eqb L₂ K h.1)
      go (c ∷ l) (inr h) = inl h

-- ── from the start, and one position on ──

module _ (W : ℕ) (g : Grammar) (ok : General W g.rules) (w : List Token) where
  abbrev Rs : Rules
  Rs = g.rules

  pub front_start : (here : Nonterminals) (back : ℕ → Nonterminals) → ((L : ℕ) → here L ≡ (eqb L g.start && onto false (floor W (masks W Rs w).1) (masks W Rs w).0 L)) → ((j K : ℕ) → back j K ≡ false) → Front W g w 0 here back
  front_start here back h b = record {
    stands = λ L. (
      λ q.
          let k = sym (h L) ∙ q in
          ([], (eqb-true L g.start (and_left _ _ k), refl, all-fits W L (masks W Rs w).0 (masks W Rs w).1 (and_right (eqb L g.start) _ k))),
      λ k. h L ∙ both (eq-eqb L g.start k.1.0) (fits_all W L (masks W Rs w).0 (masks W Rs w).1 (none_due L k.0 k.1.1 k.1.2)),
    );
    returns = λ j K le. (λ q. absurd (false≢true (sym (b j K) ∙ q)), λ k. absurd (rw k.reached.1 at k.behind));
  }
    where
      none_due : (L : ℕ) (s : Stack) → s ≡ [] → Fits W L s (masks W Rs w) → Fits W L [] (masks W Rs w)
      none_due L s e f = rw e at f

  covered : (p L : ℕ) (s : Stack) → Fits W L s (masks W Rs (drop p w)) → Covered s (pending_at w p)
  covered p L s f = go L s (pending_at w p) (rw (masks-outer W Rs w p) at f.1)
    where
      go : (L : ℕ) (s : Stack) (l : Closes) → Match W L s (map (λ d. (d.0, (masks W Rs (drop (suc d.1) w)).0)) l) → Covered s l
      go L [] l m = tt
      go L (d ∷ s) [] m = m
      go L (d ∷ s) (c ∷ l) m = tt

  module _ (p n : ℕ) (t : Token) (tokens : drop p w ≡ t ∷ drop (suc p) w) where
    abbrev l : Closes
    l = pending_at w (suc p)

    -- a rule that can stand at p leads on from what is reached there
    record On (R : Rule) (s : Stack) : Type 0 where
      fine : InForm W R
      calm : Calm W (left R) s
      nonterminal : ℕ
      due : Stack
      goes : Move R (left R) s t nonterminal due
      covers : Covered due l
      reached : Reached W g w (suc p) nonterminal due

    on : (r : ℕ) (R : Rule) (s : Stack) → get_elem? Rs r ≡ some R → Reached W g w p (left R) s → test_at W Rs (drop p w) R ≡ true → On R s
    unfolding masks test_at
    on r R s i a q =
        let k = applies_goes W (masks W Rs (drop (suc p) w)) t R s (ok r R i) (rw tokens at (reached_fits W g ok w p (left R) s a)).1 (rw tokens at q) in
        record {
          fine = ok r R i;
          calm = reached_calm W g ok w p (left R) s a;
          nonterminal = k.nonterminal;
          due = k.due;
          goes = k.goes;
          covers = covered (suc p) k.nonterminal k.due k.fits;
          reached = record {
            token = t;
            nonterminal = left R;
            due = s;
            number = r;
            rule = R;
            reached = a;
            tokens = tokens;
            is = i;
            goes = moves k.goes;
            fits = k.fits;
          };
        }

    -- some rule does
    record Ahead (L : ℕ) (s : Stack) : Type 0 where
      rule : Rule
      next : On rule s

    ahead : (L : ℕ) (s : Stack) → Reached W g w p L s → Ahead L s
    unfolding masks test_at
    ahead L s a =
        let h = lefts-some (applies W (masks W Rs (drop (suc p) w)) t) Rs L (rw tokens at (reached_fits W g ok w p L s a)).0 in
        record { rule = h.1.rule; next = on h.0 h.1.rule s h.1.is (rw h.1.from a) (rw tokens h.1.passes) }

    -- what is reached behind p came by a rule that can stand at p
    record Came (L : ℕ) (s : Stack) : Type 0 where
      rule : Rule
      due : Stack
      number : ℕ
      is : get_elem? Rs number ≡ some rule
      reached : Reached W g w p (left rule) due
      passes : test_at W Rs (drop p w) rule ≡ true
      fine : InForm W rule
      calm : Calm W (left rule) due
      goes : Move rule (left rule) due t L s

    came : (L : ℕ) (s : Stack) → Reached W g w (suc p) L s → Came L s
    unfolding test_at
    came L s a =
        let e : a.token ≡ t = heads (sym a.tokens ∙ tokens) in
        let v : Move a.rule a.nonterminal a.due t L s = moved a.rule a.nonterminal a.due t (L, s) (rw e at a.goes) in
        let k = goes_applies W (masks W Rs (drop (suc p) w)) (ok a.number a.rule a.is) (reached_calm W g ok w p a.nonterminal a.due a.reached) v a.fits in
        record { rule = a.rule; due = a.due; number = a.number; is = a.is; reached = rw k.from a.reached; passes = rw tokens k.applied; fine = ok a.number a.rule a.is; calm = rw k.from (reached_calm W g ok w p a.nonterminal a.due a.reached); goes = rw k.from v }

    module _ (here : Nonterminals) (back : ℕ → Nonterminals) (front : Front W g w p here back) where
      abbrev Keeps : Rule → Bool
      Keeps = keeps W Rs (drop p w) here

      -- what a kept rule leads to
      kept_on : (k : Rule → Bool) → any (λ R. Keeps R && k R) Rs ≡ true → (R : Rule) × (s : Stack) × On R s × (k R ≡ true)
      kept_on k q =
          let h = any_some (λ R. Keeps R && k R) Rs q in
          let i = and_left (Keeps h.element) (k h.element) h.passes in
          let a = (front.stands (left h.element)).0 (and_left (here (left h.element)) _ i) in
          (h.element, a.0, on h.number h.element a.0 h.is a.1 (and_right (here (left h.element)) _ i), and_right (Keeps h.element) (k h.element) h.passes)

      -- and what comes by a rule comes by a kept one
      came_kept : {L : ℕ} {s : Stack} (k : Rule → Bool) (c : Came L s) → k c.rule ≡ true → any (λ R. Keeps R && k R) Rs ≡ true
      came_kept k c q = some-any (λ R. Keeps R && k R) Rs c.number c.is (both (both ((front.stands (left c.rule)).1 (c.due, c.reached)) c.passes) q)

      far : From (suc p) l
      far = pending-from (drop (suc p) w) (suc p)

      here_next : (K : ℕ) → (back p K || going Keeps Rs K) ≡ true → (s : Stack) × Reached W g w (suc p) K s
      here_next K q = ⊎_elim by_close by_kept (or_cases (back p K) (going Keeps Rs K) q)
        where
          by_close : back p K ≡ true → (s : Stack) × Reached W g w (suc p) K s
          by_close b =
              let r = (front.returns p K (omega arith)).0 b in
              let a = (ahead r.nonterminal r.due r.reached).next in
              (a.due, rw (back_next W p n l far a.fine a.calm a.goes K (rw (pending_next w p tokens) at r.behind)) at a.reached)

          by_kept : going Keeps Rs K ≡ true → (s : Stack) × Reached W g w (suc p) K s
          by_kept b =
              let h = kept_on (λ R. goes_to R K) b in
              (h.2.due, rw (to_next W p n l far h.2.goes K h.3) at h.2.reached)

      next_here : (K : ℕ) (s : Stack) → Reached W g w (suc p) K s → (back p K || going Keeps Rs K) ≡ true
      next_here K s a =
          let c = came K s a in
          ⊎_elim
          (λ h. rw ((front.returns p K (omega arith)).1 (record { nonterminal = left c.rule; due = c.due; reached = c.reached; behind = rw (pending_next w p tokens) h })))
          (λ q. rw (came_kept (λ R. goes_to R K) c q) (or-true (back p K)))
          (from_next W p n l far c.goes)

      abbrev Later : ℕ → Nonterminals
      Later j K = back j K || (eqb j (close_of l n) && returning Keeps Rs K)

      back_later : (j K : ℕ) → suc p ≤ j → Later j K ≡ true → Returns W g w (suc p) j K
      back_later j K le q = ⊎_elim still (λ b. new (eqb-true j (close_of l n) (and_left _ _ b)) (and_right (eqb j (close_of l n)) _ b)) (or_cases (back j K) _ q)
        where
          still : back j K ≡ true → Returns W g w (suc p) j K
          still b =
              let r = (front.returns j K (omega arith)).0 b in
              let a = (ahead r.nonterminal r.due r.reached).next in
              record { nonterminal = a.nonterminal; due = a.due; reached = a.reached; behind = stays_due W p n l far a.fine a.calm a.goes a.covers j K le (rw (pending_next w p tokens) at r.behind) }

          new : j ≡ close_of l n → returning Keeps Rs K ≡ true → Returns W g w (suc p) j K
          new e b =
              let h = kept_on (λ R. returns_to R K) b in
              record { nonterminal = h.2.nonterminal; due = h.2.due; reached = h.2.reached; behind = rw e (falls_due W p n l far h.2.goes h.2.covers K h.3) }

      later_back : (j K : ℕ) → suc p ≤ j → Returns W g w (suc p) j K → Later j K ≡ true
      later_back j K le r =
          let c = came r.nonterminal r.due r.reached in
          ⊎_elim
          (λ h. rw ((front.returns j K (omega arith)).1 (record { nonterminal = left c.rule; due = c.due; reached = c.reached; behind = rw (pending_next w p tokens) h })))
          (λ q. rw (both (eq-eqb j (close_of l n) q.0) (came_kept (λ R. returns_to R K) c q.1)) (or-true (back j K)))
          (was_due W p n l far c.fine c.calm c.goes j K r.behind)

      -- at a close only `back p` has what can stand next, at other tokens only the kept rules; only an open has a rule with a close
      pub front_next : (here' : Nonterminals) (back' : ℕ → Nonterminals) → ((K : ℕ) → here' K ≡ (back p K || going Keeps Rs K)) →
          ((j K : ℕ) → back' j K ≡ (back j K || (eqb j (close_of l n) && returning Keeps Rs K))) → Front W g w (suc p) here' back'
      front_next here' back' h b = record {
        stands = λ K. (λ q. here_next K (sym (h K) ∙ q), λ k. h K ∙ next_here K k.0 k.1);
        returns = λ j K le. (λ q. back_later j K le (sym (b j K) ∙ q), λ r. b j K ∙ later_back j K le r);
      }
