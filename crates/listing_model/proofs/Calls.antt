-- A call by what its function finds: the least entry, the next one, or none (`Least`, `Next`, `Last`).
use Prim.Native.Nat.{ℕ, suc}
use mathlib.Core.Path.{◌≡◌, refl, sym}
use mathlib.Core.Logic.{◌⊎◌, inl, inr, ⊎_elim}
use mathlib.Core.List.Memᴰ
use mathlib.Core.List.{List, [], ◌∷◌, ◌++◌, Memᴰ}
use mathlib.Core.Option.{some}
use lib.ListN.{take, drop}
use Rattle.vpg.specs.believed.Order.{Before, Ascending}
use Rattle.vpg.specs.Extremes.{Least, Next, Last}
use Rattle.listing_model.specs.believed.Listing.{written, no_reading, no_further, refused, first, next, over, find}
use Rattle.listing_model.specs.Calls.{successor, call_on}
use Rattle.listing_model.proofs.Find.{same_refl, same-ne, find_none}
use Rattle.vpg.proofs.Order.{before_irreflexive, before_asymmetric}

pub least-one : {P : List ℕ → Type 0} (e f : List ℕ) → Least P e → Least P f → e ≡ f
least-one e f h h' = go (h.least f h'.holds) (h'.least e h.holds)
  where
    go : (e ≡ f) ⊎ Before e f → (f ≡ e) ⊎ Before f e → e ≡ f
    go (inl p) q = p
    go (inr p) (inl q) = sym q
    go (inr p) (inr q) = absurd (before_asymmetric e f p q)

abbrev pub In : List (List ℕ) → List ℕ → Type 0
In l e = Memᴰ e l

head_least : (e : List ℕ) (l : List (List ℕ)) → Ascending (e ∷ l) → Least (In (e ∷ l)) e
head_least e l p = record { holds = Memᴰ.head refl; least = λ f m. ⊎_elim (λ q. inl (sym q)) (λ n. inr (p.0 f n)) (Memᴰ.cases_cons m) }

-- an entry's number, and what stands behind it
record Placed (e : List ℕ) (l : List (List ℕ)) : Type 0 where
  number : ℕ
  is : find e l ≡ some number
  ascends : Ascending (drop number l)
  rest-later : (f : List ℕ) → In (drop number l) f → In l f × Before e f
  later-rest : (f : List ℕ) → In l f → Before e f → In (drop number l) f

placed : (e : List ℕ) (l : List (List ℕ)) → Ascending l → Memᴰ e l → Placed e l
placed e [] p m = absurd (Memᴰ.not-nil m)
placed e (d ∷ l) p m = go (placed e l p.1) (Memᴰ.cases_cons m)
  where
    go : (Memᴰ e l → Placed e l) → (e ≡ d) ⊎ Memᴰ e l → Placed e (d ∷ l)
    go rest (inl q) =
        rw q
        (record {
          number = 1;
          is = rw (same_refl d);
          ascends = p.1;
          rest-later = λ f n. (Memᴰ.tail n, p.0 f n);
          later-rest = λ f n b. ⊎_elim (λ r. absurd (before_irreflexive d (rw r at b))) (λ n'. n') (Memᴰ.cases_cons n);
        })
    go rest (inr n) =
        let h = rest n in
        record {
          number = suc h.number;
          is = rw (same-ne e d (λ q. before_irreflexive d (rw q at (p.0 e n))), h.is);
          ascends = h.ascends;
          rest-later = λ f x. (Memᴰ.tail (h.rest-later f x).0, (h.rest-later f x).1);
          later-rest = λ f x b. ⊎_elim (λ r. absurd (before_asymmetric e d (rw r at b) (p.0 e n))) (λ x'. h.later-rest f x' b) (Memᴰ.cases_cons x);
        }

successor-written : (d : List (List ℕ)) (n : ℕ) (buf e : List ℕ) → Ascending d → Least (In d) e → successor d n buf ≡ (written, e ++ drop n buf)
successor-written [] n buf e p h = absurd (Memᴰ.not-nil h.holds)
successor-written (f ∷ d) n buf e p h = rw (least-one e f h (head_least f d p))

successor-none : (d : List (List ℕ)) (n : ℕ) (buf : List ℕ) → ((f : List ℕ) → In d f → ⊥) → successor d n buf ≡ (no_further, buf)
successor-none [] n buf h = refl
successor-none (f ∷ d) n buf h = absurd (h f (Memᴰ.head refl))

-- l: the entries, of n numbers each
pub first-written : (l : List (List ℕ)) (n : ℕ) (buf e : List ℕ) → Ascending l → Least (In l) e → call_on (over l n) first buf ≡ (written, e ++ drop n buf)
first-written [] n buf e p h = absurd (Memᴰ.not-nil h.holds)
first-written (f ∷ l) n buf e p h = rw (least-one e f h (head_least f l p))

pub first_nothing : (l : List (List ℕ)) (n : ℕ) (buf : List ℕ) → ((e : List ℕ) → In l e → ⊥) → call_on (over l n) first buf ≡ (no_reading, buf)
first_nothing [] n buf h = refl
first_nothing (f ∷ l) n buf h = absurd (h f (Memᴰ.head refl))

pub next-refused : (l : List (List ℕ)) (n : ℕ) (buf : List ℕ) → (In l (take n buf) → ⊥) → call_on (over l n) next buf ≡ (refused 16, buf)
next-refused l n buf h = rw (find_none (take n buf) l h)

pub next-written : (l : List (List ℕ)) (n : ℕ) (buf e : List ℕ) → Ascending l → In l (take n buf) → Next (In l) (take n buf) e → call_on (over l n) next buf ≡ (written, e ++ drop n buf)
next-written l n buf e p m h =
    let q = placed (take n buf) l p m in
    rw q.is
    (successor-written (drop q.number l) n buf e q.ascends (record { holds = q.later-rest e h.holds.0 h.holds.1; least = λ f x. h.least f (q.rest-later f x) }))

pub next_no_further : (l : List (List ℕ)) (n : ℕ) (buf : List ℕ) → Ascending l → In l (take n buf) → Last (In l) (take n buf) → call_on (over l n) next buf ≡ (no_further, buf)
next_no_further l n buf p m h =
    let q = placed (take n buf) l p m in
    rw q.is (successor-none (drop q.number l) n buf (λ f x. let a = q.rest-later f x in h f a.0 a.1))
