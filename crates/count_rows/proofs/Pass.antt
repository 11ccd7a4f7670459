-- One turn of the pass: the counts of a position are those of the theory, capped.
use Prim.Native.Nat.{ℕ, zero, suc, ◌+◌, ◌<◌, ◌≤◌}
use native.Mathlib.Nat.{zero-add, mul-one, eq-or-lt_of_le}
use native.Mathlib.Decide.{dec_lt}
use native.Mathlib.Omega.{arith}
use mathlib.Core.Path.{◌≡◌, refl, sym, ◌∙◌, ap}
use mathlib.Core.Logic.{⊎_elim}
use mathlib.Core.Bool.{Bool, true, false, ◌&&◌, false≢true}
use mathlib.Core.List.Memᴰ
use mathlib.Core.List.{List, [], ◌∷◌, map}
use lib.Dec.{eqb, ltb}
use lib.ListN.{length, take, drop, drop_of_length-le}
use lib.Seq.{take_all}
use Rattle.laws.proofs.Bools.{and_right}
use Rattle.vpg.specs.declared.OpenName.{OpenName}
use Rattle.vpg.specs.declared.CloseName.{CloseName}
use Rattle.vpg.specs.declared.Rule.{Rule}
use Rattle.vpg.specs.declared.Token.{Token}
use Rattle.vpg.specs.believed.Grammar.{Rules, left}
use Rattle.vpg.specs.Tests.{is_open}
use Rattle.capped.specs.Capped.{cap}
use Rattle.capped.proofs.Capped.{cap-mul}
use Rattle.level_theory.specs.Masks.{behind, masks}
use Rattle.level_theory.specs.Pending.{Closes, pending_at, close_of}
use Rattle.level_theory.specs.Walk.{test_at}
use Rattle.level_theory.proofs.Pending.{masks-outer, drop-next}
use Rattle.tables.specs.declared.Head.{Head}
use Rattle.tables.specs.declared.Table.{Table}
use Rattle.tables.specs.Table.{rule_in, rules_in}
use Rattle.tables.specs.Ready.{Below, Ready, rules_of}
use Rattle.tables.proofs.Tables.{length_rules, rules_at}
use Rattle.contexts.specs.declared.Context.{Context}
use Rattle.levels.specs.Levels.{Leveled, Stands, Setting}
use Rattle.levels.proofs.Levels.{tokens_length, pending_end, close_below, close_most, close_from}
use Rattle.history_file.specs.believed.HistoryFile.{tokens_of}
use Rattle.count_theory.specs.believed.CountAt.{sum_below}
use Rattle.count_theory.specs.Allowed.{Allowed}
use Rattle.count_theory.specs.Counts.{Counts, given, sum, parts, counts_at, worth}
use Rattle.count_theory.proofs.Here.{counts_here}
use Rattle.count_theory.proofs.Kth.{sum-take}
use Rattle.count_rows.specs.declared.rows.Rows.{Rows}
use Rattle.count_rows.specs.Rows.{value_at, capped_parts, row_in, InRow, Clear, Counted, Empty}

-- ── positions ──

-- the first pending close stands behind its position
pub closes-behind : (w : List Token) (p : ℕ) → p ≤ length w → p ≤ close_of (pending_at w (suc p)) (length w)
closes-behind w p h = ⊎_elim (λ e. rw (pending_end w (suc p) (omega (arith, e))) h) (λ l. omega (arith, close_from w (suc p) l)) (eq-or-lt_of_le h)

-- ── sums over a table ──

-- over the rules before r
pub sum_before : (f : ℕ → Rule → ℕ) (t : Table) (n r : ℕ) → r ≤ n → sum f 0 (take r (rules_in t n)) ≡ sum_below r (λ q. f q (rule_in t q))
sum_before f t n zero h = refl
sum_before f t n (suc r) h = sum-take f 0 (rules_in t n) r (rule_in t r) (rules_at t n r h) ∙ rw (sum_before f t n r (omega arith), zero-add r)

-- over all
pub sum_rules : (f : ℕ → Rule → ℕ) (t : Table) (n : ℕ) → sum f 0 (rules_in t n) ≡ sum_below n (λ q. f q (rule_in t q))
sum_rules f t n = let h : length (rules_in t n) ≤ n = omega (arith, length_rules t n) in ap (sum f 0) (sym (take_all n (rules_in t n) h)) ∙ sum_before f t n n (omega arith)

-- ── what a rule counts for ──

module _ (U : ℕ) (g : Rules) (w : List Token) (p : ℕ) where
  -- only an empty rule can stand where no token is left
  some_token : (R : Rule) → test_at U g (drop p w) R ≡ true → (test_at U g [] R ≡ false) → p < length w
  some_token R q none = go (dec_lt p (length w))
    where
      go : Dec (p < length w) → p < length w
      go (yes h) = h
      go (no h) = let l : length w ≤ p = omega arith in absurd (false≢true (sym none ∙ rw (drop_of_length-le w l) at q))

  pub next_inside : (M : ℕ) (i : Token) (M₁ : ℕ) → test_at U g (drop p w) (Rule.Next M i M₁) ≡ true → p < length w
  unfolding test_at
  next_inside M i M₁ q = some_token (Rule.Next M i M₁) q refl

  pub step_inside : (M : ℕ) (a : OpenName) (M₁ : ℕ) (b : CloseName) (M₂ : ℕ) → test_at U g (drop p w) (Rule.Step M a M₁ b M₂) ≡ true → p < length w
  unfolding test_at
  step_inside M a M₁ b M₂ q = some_token (Rule.Step M a M₁ b M₂) q refl

  -- a step that can stand has its close among the tokens
  pub step-closes : (M : ℕ) (a : OpenName) (M₁ : ℕ) (b : CloseName) (M₂ : ℕ) → test_at U g (drop p w) (Rule.Step M a M₁ b M₂) ≡ true → close_of (pending_at w (suc p)) (length w) < length w
  unfolding test_at
  step-closes M a M₁ b M₂ q = go (drop p w) refl q
    where
      first : (l : Closes) → pending_at w (suc p) ≡ l → behind (ltb M U) U (map (λ d. (d.0, (masks U g (drop (suc d.1) w)).0)) l) b M₂ ≡ true → close_of l (length w) < length w
      first [] e h = absurd (false≢true h)
      first (d ∷ l) e h = close_below w (suc p) d (rw e (Memᴰ.head refl))

      go : (v : List Token) → drop p w ≡ v → test_at U g v (Rule.Step M a M₁ b M₂) ≡ true → close_of (pending_at w (suc p)) (length w) < length w
      go [] e h = absurd (false≢true h)
      go (t ∷ v) e h = first (pending_at w (suc p)) refl (rw (masks-outer U g w (suc p)) at (and_right ((masks U g (drop (suc p) w)).0 M₁) _ (and_right (is_open a t) _ (rw (← (drop-next w p e)) at h))))

  -- capped counts of the parts
  pub parts_capped : (x y C D : Counts) (R : Rule) → Below 32 R → (p < length w → (M : ℕ) → M < 32 → x M ≡ cap (C M)) → (close_of (pending_at w (suc p)) (length w) < length w → (M : ℕ) → M < 32 → y M ≡ cap (D M)) →
      test_at U g (drop p w) R ≡ true → capped_parts x y R ≡ cap (parts C D R)
  parts_capped x y C D (Rule.Empty M) b e f q = refl
  parts_capped x y C D (Rule.Next M i M₁) b e f q = e (next_inside M i M₁ q) M₁ b.1 ∙ ap cap (sym (mul-one (C M₁)))
  parts_capped x y C D (Rule.Step M a M₁ d M₂) b e f q = rw (e (step_inside M a M₁ d M₂ q) M₁ b.1, f (step-closes M a M₁ d M₂ q) M₂ b.2) (sym (cap-mul (C M₁) (D M₂)))

-- ── one position ──

-- a test in two orders
given_tests : (e o b : Bool) (n m : ℕ) → (b ≡ true → n ≡ cap m) → given (e && (o && b)) n ≡ cap (given (e && o) (given b m))
given_tests false o b n m h = refl
given_tests true false b n m h = refl
given_tests true true true n m h = h refl
given_tests true true false n m h = refl

cap-both : (a b c d : ℕ) → cap a ≡ cap b → c ≡ cap d → cap (a + c) ≡ cap (b + d)
cap-both a b c d e f = rw f (omega (arith, e))

module _ (t : Table) (head : Head) (ready : Ready t head) (w : List Token) (mask : List ℕ) (p : ℕ) (context : Context) (stands : Stands head.well w mask p context) (leveled : Leveled head.well (rules_of t head) w mask 0) (ok : Allowed) where
  abbrev U : ℕ
  U = head.well

  abbrev G : Rules
  G = rules_of t head

  abbrev Close : ℕ
  Close = close_of (pending_at w (suc p)) (length w)

  row_up_to : (x y : Counts) → (p < length w → (M : ℕ) → M < 32 → x M ≡ cap (counts_at ok U G w (suc p) M)) → (Close < length w → (M : ℕ) → M < 32 → y M ≡ cap (counts_at ok U G w (suc Close) M)) →
      (M n : ℕ) → n ≤ head.rules → cap (row_in head.well t (ok p) context x y n M) ≡ cap (sum_below n (λ q. given (eqb (left (rule_in t q)) M && ok p q) (worth ok U G w p (rule_in t q))))
  unfolding row_in
  row_up_to x y e f M zero h = refl
  row_up_to x y e f M (suc n) h =
      cap-both _ _ _ _ (row_up_to x y e f M n (omega arith))
      (rw (stands.rules G (λ k l m. leveled k (omega arith) m) (rule_in t n) (ready.small n (omega arith)))
      (given_tests (eqb (left (rule_in t n)) M) (ok p n) (test_at U G (drop p w) (rule_in t n)) _ _ (λ q. parts_capped U G w p x y _ _ (rule_in t n) (ready.small n (omega arith)) e f q)))

  -- the counts of all rules
  row_counts : (x y : Counts) → (p < length w → (M : ℕ) → M < 32 → x M ≡ cap (counts_at ok U G w (suc p) M)) → (Close < length w → (M : ℕ) → M < 32 → y M ≡ cap (counts_at ok U G w (suc Close) M)) →
      (M : ℕ) → cap (row_in head.well t (ok p) context x y head.rules M) ≡ cap (counts_at ok U G w p M)
  row_counts x y e f M = row_up_to x y e f M head.rules (omega arith) ∙ ap cap (sym (counts_here ok U G w p M ∙ sum_rules (λ r R. given (eqb (left R) M && ok p r) (worth ok U G w p R)) t head.rules))

  -- from position p + 1 on to position p
  pub counted_next : (rows rows' : Rows) (j : ℕ) → j ≡ Close → p ≤ length w → Counted ok U G w rows (suc p) →
      InRow rows p (row_in head.well t (ok p) context (value_at rows (suc p)) (value_at rows (suc j)) head.rules) rows' → Counted ok U G w rows' p
  counted_next rows rows' j e h old x k M l m s = ⊎_elim (λ q. here (sym q)) (λ q. behind_it q) (eq-or-lt_of_le l)
    where
      inside : p < length w → (N : ℕ) → N < 32 → value_at rows (suc p) N ≡ cap (counts_at ok U G w (suc p) N)
      inside i N z = old (suc p) N (omega arith) i z

      after : Close < length w → (N : ℕ) → N < 32 → value_at rows (suc j) N ≡ cap (counts_at ok U G w (suc Close) N)
      after i N z = rw e (old (suc Close) N (omega (arith, near)) i z)
        where
          near : p ≤ Close
          near = closes-behind w p h

      here : k ≡ p → value_at rows' k M ≡ cap (counts_at ok U G w k M)
      here q = rw q (x.here M s ∙ row_counts (value_at rows (suc p)) (value_at rows (suc j)) inside after M)

      behind_it : p < k → value_at rows' k M ≡ cap (counts_at ok U G w k M)
      behind_it q = x.others k M s (λ z. omega (arith, z)) ∙ old k M q m s

-- ── the pass ──

-- position i and those behind it are done
pub record Passing (ok : Allowed) (W : ℕ) (g : Rules) (w : List Token) (rows : Rows) (i : ℕ) : Type 0 where
  pub within : i ≤ length w + 1
  pub clear : Clear rows i
  pub counted : Counted ok W g w rows i

pub passing_start : (ok : Allowed) (W : ℕ) (g : Rules) (ts : List ℕ) (rows : Rows) → length ts ≤ 1024 → Clear rows 1025 → Passing ok W g (tokens_of ts) rows (length ts + 1)
passing_start ok W g ts rows few c = record {
  within = omega (arith, tokens_length ts);
  clear = λ k M l m. c k M (omega arith) m;
  counted = λ k M l m z. absurd (omega (arith, tokens_length ts));
}

module _ {t : Table} {head : Head} {ts closes mask : List ℕ} {rows : Rows} {i : ℕ} (x : Setting t head ts closes mask) (ok : Allowed) (s : Passing ok head.well (rules_of t head) (tokens_of ts) rows i) (p : ℕ) (is : i ≡ suc p) where
  here : p ≤ length (tokens_of ts)
  here = omega (arith, s.within)

  module _ (context : Context) (stands : Stands head.well (tokens_of ts) mask p context) where
    pub here_empty : Empty context rows
    here_empty = record {
      near = rw (stands.position, stands.closing) (closes-behind (tokens_of ts) p here);
      far = omega (arith, stands.closing, close_most (tokens_of ts) (suc p), x.tokens.few, tokens_length ts);
      none = λ M l. rw stands.position (s.clear p M (omega arith) l);
    }

    pub passing_next : (rows' : Rows) →
        InRow rows context.position (row_in head.well t (ok context.position) context (value_at rows (suc context.position)) (value_at rows (suc context.closing)) head.rules) rows' →
        Passing ok head.well (rules_of t head) (tokens_of ts) rows' p
    unfolding row_in
    passing_next rows' filled =
        let r = rw stands.position at filled in
        record {
          within = omega (arith, here);
          clear = λ k M l m. r.others k M m (λ z. omega (arith, z)) ∙ s.clear k M (omega arith) m;
          counted = counted_next t head x.indexed.ready (tokens_of ts) mask p context stands x.leveled ok rows rows' context.closing stands.closing here (rw is at s.counted) r;
        }
