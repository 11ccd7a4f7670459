-- The rule that was found is the one that the run of this number has: its capped sizes are those of the theory.
use Prim.Native.Nat.{ℕ, zero, suc, ◌*◌, ◌<◌, ◌≤◌}
use native.Mathlib.Nat.{zero-mul}
use native.Mathlib.Omega.{arith}
use mathlib.Core.Path.{◌≡◌, refl, sym, ◌∙◌}
use mathlib.Core.Bool.{Bool, true, false, ◌&&◌}
use mathlib.Core.List.{List}
use lib.Dec.{eqb}
use lib.ListN.{length, drop}
use Rattle.vpg.specs.declared.Token.{Token}
use Rattle.vpg.specs.believed.Grammar.{Rules, General, left}
use Rattle.vpg.specs.Runs.{Stack, runs}
use Rattle.capped.specs.Capped.{cap, value}
use Rattle.capped.proofs.Capped.{cap-mul, cap-lt}
use Rattle.level_theory.specs.Pending.{pending_at, close_of}
use Rattle.level_theory.specs.Walk.{test_at}
use Rattle.tables.specs.declared.Head.{Head}
use Rattle.tables.specs.declared.Table.{Table}
use Rattle.tables.specs.Table.{rule_in}
use Rattle.tables.specs.Ready.{rules_of}
use Rattle.tables.proofs.Tables.{rules_at, ready_general}
use Rattle.history_file.specs.believed.HistoryFile.{tokens_of}
use Rattle.contexts.specs.declared.Context.{Context}
use Rattle.levels.specs.Levels.{Stands, Setting}
use Rattle.levels.proofs.Setting.{closing_room}
use Rattle.count_theory.specs.believed.CountAt.{sum_below}
use Rattle.count_theory.specs.Allowed.{Allowed}
use Rattle.count_theory.specs.Counts.{given, counts, weight, counts_at}
use Rattle.count_theory.specs.Kth.{size}
use Rattle.count_theory.proofs.Kth.{runs-size}
use Rattle.count_rows.specs.declared.rows.Rows.{Rows}
use Rattle.count_rows.specs.Rows.{value_at, Complete}
use Rattle.count_rows.proofs.Pass.{sum_before, sum_rules, parts_capped}
use Rattle.kth_run.specs.declared.Found.{Found}
use Rattle.kth_run.specs.declared.Sought.{Sought}
use Rattle.kth_run.specs.Search.{size_in, Finds}
use Rattle.kth_run.specs.Walk.{Chosen}

-- ── capped sums ──

cap_sums : (f h : ℕ → ℕ) (n : ℕ) → ((q : ℕ) → q < n → f q ≡ cap (h q)) → cap (sum_below n f) ≡ cap (sum_below n h)
cap_sums f h zero e = refl
cap_sums f h (suc n) e = let a = cap_sums f h n (λ q l. e q (omega arith)) in rw (e n (omega arith)) (omega (arith, a))

-- a size, by the size of the theory
size_capped : (e b : Bool) (n m due w : ℕ) → (b ≡ true → n ≡ cap m) → due ≡ cap w → given (e && b) (cap (n * due)) ≡ cap (given e (given b m) * w)
size_capped true true n m due w h d = rw (h refl, d) (sym (cap-mul m w))
size_capped true false n m due w h d = rw (zero-mul w) refl
size_capped false b n m due w h d = rw (zero-mul w) refl

-- ── one position ──

-- it is among those of the arrays, and so is its close
pub has_room : {t : Table} {head : Head} {ts closes mask : List ℕ} → Setting t head ts closes mask → (p : ℕ) (context : Context) → Stands head.well (tokens_of ts) mask p context → p ≤ length ts → (context.position < 1025) × (context.closing < 1025)
has_room x p context stands h = (omega (arith, stands.position, x.tokens.few), rw stands.closing (closing_room x p h))

module _ {t : Table} {head : Head} {ts closes mask : List ℕ} (x : Setting t head ts closes mask) (rows : Rows) (p : ℕ) (context : Context) (stands : Stands head.well (tokens_of ts) mask p context) where
  abbrev W : List Token
  W = tokens_of ts

  abbrev G : Rules
  G = rules_of t head

  abbrev U : ℕ
  U = head.well

  form : General U G
  form = ready_general t head x.indexed.ready

  sizes : (ok : Allowed) → Complete ok U G W rows → (sought : Sought) (s : Stack) → value sought.due ≡ cap (weight U sought.nonterminal s (counts ok U G p (drop p W)).1) → (q : ℕ) → q < head.rules →
      size_in t U sought context rows q ≡ cap (size ok U G W p (sought.nonterminal, s) (rule_in t q))
  sizes ok c sought s d q l =
      rw (stands.rules G (λ k i m. x.leveled k (omega arith) m) (rule_in t q) (x.indexed.ready.small q l))
      (size_capped (eqb (left (rule_in t q)) sought.nonterminal) (test_at U G (drop p W) (rule_in t q)) _ _ (value sought.due) _
      (λ e. parts_capped U G W p _ _ _ _ (rule_in t q) (x.indexed.ready.small q l) inside after e)
      d)
    where
      inside : p < length W → (M : ℕ) → M < 32 → value_at rows (suc context.position) M ≡ cap (counts_at ok U G W (suc p) M)
      inside i M m = rw stands.position (c.counted (suc p) M (omega arith) i m)

      after : close_of (pending_at W (suc p)) (length W) < length W → (M : ℕ) → M < 32 → value_at rows (suc context.closing) M ≡ cap (counts_at ok U G W (suc (close_of (pending_at W (suc p)) (length W))) M)
      after i M m = rw stands.closing (c.counted (suc (close_of (pending_at W (suc p)) (length W))) M (omega arith) i m)

  pub chosen : (sought : Sought) (found : Found) → Finds t head sought context rows found → Chosen U G W rows p sought found
  chosen sought found finds ok s calm c free d small inside =
      let e = sizes ok c sought s d in
      let all = cap_sums Capped Exact head.rules e in
      let more : length (runs G (sought.nonterminal, s) (drop p W)) ≡ sum_below head.rules Exact = runs-size ok U G form W p free (sought.nonterminal, s) calm ∙ sum_rules (λ q R. size ok U G W p (sought.nonterminal, s) R) t head.rules in
      let h = finds (omega (arith, all, more)) in
      let before = cap_sums Capped Exact found.rule (λ q l. e q (omega (arith, l, h.below))) in
      record {
        rule = rule_in t found.rule;
        is = rules_at t head.rules found.rule h.below;
        skipped = rw (sum_before (λ q R. size ok U G W p (sought.nonterminal, s) R) t head.rules found.rule (le_of_lt h.below)) (omega (arith, before, h.skipped));
        inside = cap-lt (Exact found.rule) found.number (omega (arith, h.skipped)) (rw (e found.rule h.below) at h.inside);
      }
    where
      Capped : ℕ → ℕ
      Capped = size_in t U sought context rows

      Exact : ℕ → ℕ
      Exact q = size ok U G W p (sought.nonterminal, s) (rule_in t q)

      le_of_lt : {a b : ℕ} → a < b → a ≤ b
      le_of_lt l = omega arith
