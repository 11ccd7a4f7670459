-- Walking a class from rule to rule passes over none of its rules: what a loop over all rules gathers, a loop over the class gathers too.
use Prim.Native.Nat.{ℕ, zero, suc, ◌+◌, ◌-◌, ◌<◌, ◌≤◌}
use native.Mathlib.Omega.{arith}
use mathlib.Core.Path.{◌≡◌, ◌∙◌}
use mathlib.Core.Logic.{◌≢◌}
use native.Mathlib.Nat.{add-zero}
use Rattle.tables.specs.declared.Table.{Table}
use Rattle.tables.specs.Table.{rule_in}
use Rattle.rule_index.specs.Classes.{class_of}
use Rattle.rule_index.specs.Index.{FirstFrom}

-- X n is what is gathered from the first n rules; rules of another class than c add nothing to it
module _ {A : Type 0} (X : ℕ → A) (t : Table) (c : ℕ) (other : (q : ℕ) → class_of (rule_in t q) ≢ c → X (suc q) ≡ X q) where
  none_added : (k d : ℕ) → ((q : ℕ) → k ≤ q → q < k + d → class_of (rule_in t q) ≢ c) → X (k + d) ≡ X k
  none_added k zero h = rw (add-zero k)
  none_added k (suc d) h =
      let e : k + suc d ≡ suc (k + d) = omega arith in
      rw e (other (k + d) (h (k + d) (omega arith) (omega arith)) ∙ none_added k d (λ q l m. h q l (omega arith)))

  -- up to the first rule of the class from number k on nothing is added
  pub passed : {rules k n : ℕ} → FirstFrom t rules c k n → X n ≡ X k
  passed {rules} {k} {n} f =
      let e : n ≡ k + (n - k) = omega (arith, f.from) in
      rw e (none_added k (n - k) (λ q l m. f.none q l (omega (arith, f.from))))

-- the same where only the rules of the table are known to add nothing
module _ {A : Type 0} (X : ℕ → A) (t : Table) (rules c : ℕ) (other : (q : ℕ) → q < rules → class_of (rule_in t q) ≢ c → X (suc q) ≡ X q) where
  few_added : (k d : ℕ) → k + d ≤ rules → ((q : ℕ) → k ≤ q → q < k + d → class_of (rule_in t q) ≢ c) → X (k + d) ≡ X k
  few_added k zero m h = rw (add-zero k)
  few_added k (suc d) m h =
      let e : k + suc d ≡ suc (k + d) = omega arith in
      rw e (other (k + d) (omega arith) (h (k + d) (omega arith) (omega arith)) ∙ few_added k d (omega arith) (λ q l m. h q l (omega arith)))

  pub passed_below : {k n : ℕ} → FirstFrom t rules c k n → X n ≡ X k
  passed_below {k} {n} f =
      let e : n ≡ k + (n - k) = omega (arith, f.from) in
      rw e (few_added k (n - k) (omega (arith, f.from, f.most)) (λ q l m. f.none q l (omega (arith, f.from))))
