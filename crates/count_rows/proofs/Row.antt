-- The counts at one position, rule by rule.
use Prim.Native.Nat.{ℕ, suc, ◌+◌, ◌<◌, ◌≤◌}
use native.Mathlib.Nat.{add-zero}
use native.Mathlib.Decide.{ℕ_discrete}
use native.Mathlib.Omega.{arith}
use mathlib.Core.Path.{◌≡◌, refl, sym, ◌∙◌, ap}
use mathlib.Core.Logic.{inl, inr, ◌≢◌}
use mathlib.Core.Bool.{Bool, true, false, cond, ◌&&◌, and-false}
use borrow.Author.Tests.{eq-eqb, ne_eqb}
use lib.Dec.{eqb}
use Rattle.vpg.specs.declared.Rule.{Rule}
use Rattle.vpg.specs.believed.Grammar.{left}
use Rattle.capped.specs.Capped.{cap}
use Rattle.tables.specs.declared.Table.{Table}
use Rattle.tables.specs.Table.{rule_in}
use Rattle.tables.specs.Ready.{Below}
use Rattle.rule_index.specs.Classes.{class_at, class_of}
use Rattle.rule_index.specs.Index.{FirstFrom}
use Rattle.rule_index.proofs.Chains.{passed}
use Rattle.contexts.specs.declared.Context.{Context}
use Rattle.contexts.specs.Context.{code, token_here, applies_to}
use Rattle.contexts.proofs.Contexts.{applies_apart}
use Rattle.count_theory.specs.Counts.{Counts, given}
use Rattle.count_rows.specs.declared.rows.Rows.{Rows}
use Rattle.count_rows.specs.declared.rows.Overs.{Overs}
use Rattle.count_rows.specs.Rows.{OversBehind, value_at, AddedIf, capped_parts, row_in, InRow}

-- the first of two tests passes, and the second doesn't
pub second_fails : {a b : Bool} → a ≡ true → b ≡ false → (a && b) ≡ false
second_fails p q = rw (p, q)

-- nothing is added yet
pub row_none : (rows : Rows) (p : ℕ) (c : Counts) → ((M : ℕ) → M < 32 → value_at rows p M ≡ 0) → ((M : ℕ) → c M ≡ 0) → InRow rows p c rows
row_none rows p c h z = record { here = λ M l. h M l ∙ sym (ap cap (z M)); others = λ q M l d. refl; words = λ q d. refl }

-- the counts of a position matter, not how they are written
pub row_same : {rows rows' : Rows} {p : ℕ} (c d : Counts) → ((M : ℕ) → M < 32 → c M ≡ d M) → InRow rows p c rows' → InRow rows p d rows'
row_same c d e x = record { here = λ M l. x.here M l ∙ ap cap (e M l); others = x.others; words = x.words }

-- what is added to one count
pub row_added : {rows rows' rows'' : Rows} {p L n : ℕ} (b : Bool) (c : Counts) → L < 32 → InRow rows p c rows' → AddedIf b rows' p L n rows'' →
    InRow rows p (λ M. c M + given (eqb L M && b) n) rows''
row_added {p = p} {L} {n} b c small x (inr (f, e)) =
    rw (e, f) (row_same c (λ M. c M + given (eqb L M && false) n) (λ M l. rw (and-false (eqb L M)) (sym (add-zero (c M)))) x)
row_added {rows} {rows'} {rows''} {p} {L} {n} b c small x (inl (f, a)) = record {
  here = λ M l. a.values p M l ∙ rw (eq-eqb p p refl, f) (go M l (ℕ_discrete M L));
  others = λ q M l d. a.values q M l ∙ rw (ne_eqb q p d) (x.others q M l d);
  words = λ q d. a.words q d ∙ x.words q d;
}
  where
    go : (M : ℕ) → M < 32 → Dec (M ≡ L) → cond (eqb M L) (cap (value_at rows' p M + n)) (value_at rows' p M) ≡ cap (c M + given (eqb L M && true) n)
    go M l (yes e) = rw (eq-eqb M L e, eq-eqb L M (sym e), x.here M l) (omega arith)
    go M l (no d) = rw (ne_eqb M L d, ne_eqb L M (λ e. d (sym e)), x.here M l, add-zero (c M))

-- the words behind the position are as they were
pub overs_kept : {rows rows' : Rows} {p j : ℕ} {c : Counts} {o : Overs} → p ≤ j → OversBehind rows p j o → InRow rows p c rows' → OversBehind rows' p j o
overs_kept {p = p} {j} h o x = (o.0 ∙ sym (x.words (suc p) (λ z. omega (arith, z))), o.1 ∙ sym (x.words (suc j) (λ z. omega (arith, z, h))))

-- ── rules ──

-- the parts of a rule by counts that agree
parts_same : (x y x' y' : Counts) (R : Rule) → Below 32 R → ((M : ℕ) → M < 32 → x M ≡ x' M) → ((M : ℕ) → M < 32 → y M ≡ y' M) → capped_parts x y R ≡ capped_parts x' y' R
parts_same x y x' y' (Rule.Empty M) b e f = refl
parts_same x y x' y' (Rule.Next M i M₁) b e f = e M₁ b.1
parts_same x y x' y' (Rule.Step M a M₁ d M₂) b e f = rw (e M₁ b.1, f M₂ b.2)

module _ (W : ℕ) (t : Table) (ok : ℕ → Bool) (context : Context) (rows : Rows) (p j : ℕ) where
  -- the first n rules are added
  abbrev pub Row : ℕ → Counts
  Row n = row_in W t ok context (value_at rows (suc p)) (value_at rows (suc j)) n

  pub row_turn : {rows' rows'' : Rows} (r : ℕ) → (suc j ≡ p → ⊥) → Below 32 (rule_in t r) → InRow rows p (Row r) rows' →
      AddedIf (ok r && applies_to W (rule_in t r) context) rows' p (left (rule_in t r)) (capped_parts (value_at rows' (suc p)) (value_at rows' (suc j)) (rule_in t r)) rows'' →
      InRow rows p (Row (suc r)) rows''
  unfolding row_in
  row_turn {rows'} r apart b x a =
      let e = parts_same (value_at rows' (suc p)) (value_at rows' (suc j)) (value_at rows (suc p)) (value_at rows (suc j)) (rule_in t r) b (λ M l. x.others (suc p) M l (λ z. omega (arith, z))) (λ M l. x.others (suc j) M l apart) in
      row_added (ok r && applies_to W (rule_in t r) context) (Row r) b.0 x (rw e at a)

  -- at a mark or an open a rule of another class adds nothing
  pub row_apart : code context.kind < 2 → (M q : ℕ) → class_of (rule_in t q) ≢ class_at (token_here context) → Row (suc q) M ≡ Row q M
  unfolding row_in
  row_apart h M q d = rw (applies_apart W t context h q d, and-false (ok q), and-false (eqb (left (rule_in t q)) M)) (add-zero (Row q M))

  -- so up to the first rule of the class from number k on nothing is added
  pub row_over : {rules : ℕ} {rows' : Rows} → code context.kind < 2 → (k n : ℕ) → FirstFrom t rules (class_at (token_here context)) k n → InRow rows p (Row k) rows' → InRow rows p (Row n) rows'
  row_over h k n f x = row_same (Row k) (Row n) (λ M l. sym (passed (λ r. Row r M) t (class_at (token_here context)) (row_apart h M) f)) x

  -- and there is nothing before the first
  pub row_first : ((M : ℕ) → M < 32 → value_at rows p M ≡ 0) → InRow rows p (Row 0) rows
  unfolding row_in
  row_first z = row_none rows p (Row 0) z (λ M. refl)
