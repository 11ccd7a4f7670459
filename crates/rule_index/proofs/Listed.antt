-- The rules of a class as a list, against the index: what a list begins with, and that following the index gives the list.
use Prim.Native.Nat.{ℕ, zero, suc, ◌+◌, ◌-◌, ◌<◌, ◌≤◌}
use native.Mathlib.Omega.{arith}
use native.Mathlib.Nat.{add-zero, zero-add}
use native.Mathlib.Numerals.{add-one}
use mathlib.Core.Path.{◌≡◌, refl, sym, ◌∙◌, ap}
use mathlib.Core.Logic.{◌≢◌}
use mathlib.Core.Bool.{Bool, true, false}
use mathlib.Core.List.{List, [], ◌∷◌}
use lib.Dec.{eqb}
use borrow.Author.Tests.{eqb-true, eqb-false, eq-eqb, ne_eqb}
use Rattle.tables.specs.declared.Head.{Head}
use Rattle.tables.specs.declared.Table.{Table}
use Rattle.tables.specs.Table.{rule_in}
use Rattle.rule_index.specs.Classes.{class_of}
use Rattle.rule_index.specs.Index.{FirstFrom, Indexed, next_in}
use Rattle.rule_index.specs.Chain.{rules_among, rules_from}
use Rattle.rule_index.proofs.Building.{first_here, first-over}

-- r is the first rule of class c from number k on, and those behind it are the others
pub record Taken (t : Table) (rules c k r : ℕ) (others : List ℕ) : Type 0 where
  pub first : FirstFrom t rules c k r
  pub below : r < rules
  pub rest : others ≡ rules_from t rules c (suc r)

-- what a list of the rules of class c from number k on begins with; an empty one says that there is none
abbrev pub Begins : Table → (rules c k : ℕ) → List ℕ → Type 0
Begins t rules c k [] = FirstFrom t rules c k rules
Begins t rules c k (r ∷ others) = Taken t rules c k r others

module _ (t : Table) (rules c : ℕ) where
  wider : (k : ℕ) (xs : List ℕ) → class_of (rule_in t k) ≢ c → Begins t rules c (suc k) xs → Begins t rules c k xs
  wider k [] apart f = first-over t rules k c rules apart (rw (add-one k) f)
  wider k (r ∷ others) apart w = record { first = first-over t rules k c r apart (rw (add-one k) w.first); below = w.below; rest = w.rest }

  begins_among : (k d : ℕ) → k + d ≡ rules → Begins t rules c k (rules_among t c k d)
  begins_among k zero s = record { from = omega arith; most = omega arith; of_class = λ l. absurd (omega arith); none = λ q l m. absurd (omega arith) }
  begins_among k (suc d) s = go (eqb (class_of (rule_in t k)) c) refl (begins_among (suc k) d (omega arith))
    where
      go : (b : Bool) → eqb (class_of (rule_in t k)) c ≡ b → Begins t rules c (suc k) (rules_among t c (suc k) d) → Begins t rules c k (rules_among t c k (suc d))
      go true e _ =
          let left : d ≡ rules - suc k = omega arith in
          rw e (record { first = first_here t rules k c (omega arith) (eqb-true _ _ e); below = omega arith; rest = ap (rules_among t c (suc k)) left })
      go false e w = rw e (wider k (rules_among t c (suc k) d) (eqb-false _ _ e) w)

  pub begins : {k : ℕ} → k ≤ rules → Begins t rules c k (rules_from t rules c k)
  begins {k} l = begins_among k (rules - k) (omega arith)

  -- rules of other classes are left out
  skips : (k e d n : ℕ) → n ≡ k + e → ((q : ℕ) → k ≤ q → q < n → class_of (rule_in t q) ≢ c) → rules_among t c k (e + d) ≡ rules_among t c n d
  skips k zero d n s h = rw (zero-add d, s, add-zero k) refl
  skips k (suc e) d n s h =
      let one : suc e + d ≡ suc (e + d) = omega arith in
      rw (one, ne_eqb (class_of (rule_in t k)) c (h k (omega arith) (omega arith))) (skips (suc k) e d n (omega arith) (λ q l m. h q (omega arith) m))

  -- a chain that stands at the first rule of the class from number k on has the list of the class from there on
  pub chain_is : {k n : ℕ} → FirstFrom t rules c k n → rules_from t rules (class_of (rule_in t n)) n ≡ rules_from t rules c k
  chain_is {k} {n} f =
      let both : rules - k ≡ (n - k) + (rules - n) = omega (arith, f.from, f.most) in
      go (rules - n) refl ∙ rw both (sym (skips k (n - k) (rules - n) n (omega (arith, f.from)) f.none))
    where
      go : (d : ℕ) → rules - n ≡ d → rules_from t rules (class_of (rule_in t n)) n ≡ rules_from t rules c n
      go zero e = rw e refl
      go (suc d) e = ap (λ m. rules_from t rules m n) (f.of_class (omega (arith, e)))

-- a chain hands out the rule at which it stands, and then stands at the next one
pub hands_out : {t : Table} {head : Head} → Indexed t head → (r n : ℕ) → r < head.rules → n ≡ next_in t r →
    rules_from t head.rules (class_of (rule_in t r)) r ≡ r ∷ rules_from t head.rules (class_of (rule_in t n)) n
hands_out {t} {head} x r n l e =
    let c = class_of (rule_in t r) in
    let s : head.rules - r ≡ suc (head.rules - suc r) = omega (arith, l) in
    let behind = chain_is t head.rules c (rw (e, ← (add-one r)) (x.nexts r l)) in
    rw (s, eq-eqb c c refl) (ap (λ others. r ∷ others) (sym behind))
