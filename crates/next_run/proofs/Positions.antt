-- The backward search, one position at a time.
use Prim.Native.Nat.{ℕ, suc, ◌+◌, ◌<◌, ◌≤◌}
use native.Mathlib.Omega.{arith}
use mathlib.Core.Path.{◌≡◌, sym, ◌∙◌, ap}
use mathlib.Core.Bool.{Bool, true, false, ◌&&◌}
use mathlib.Core.List.{List}
use lib.Dec.{eqb}
use lib.ListN.{length, get_or}
use Rattle.std.specs.Prelude.{None}
use Rattle.vpg.specs.believed.Grammar.{left}
use Rattle.contexts.specs.declared.Context.{Context}
use Rattle.tables.specs.declared.Head.{Head}
use Rattle.tables.specs.declared.Table.{Table}
use Rattle.tables.specs.Table.{rule_in}
use Rattle.tables.specs.Ready.{rules_of}
use Rattle.rule_index.specs.Classes.{class_of}
use Rattle.rule_index.specs.Index.{FirstFrom}
use Rattle.history_file.specs.believed.HistoryFile.{tokens_of}
use Rattle.levels.specs.Levels.{Stands, Setting}
use Rattle.levels.proofs.Levels.{tokens_length}
use Rattle.moves.specs.Moves.{rule_fits}
use Rattle.next_run.specs.Next.{fits_at, EachFits, LargerAt, LargerRule}
use Rattle.next_run.proofs.Behind.{NoneBetween, between_first, between_more}

-- the walk at position p has come to r: the rule in the buffer is smaller, and no rule between the two fits
pub record Walked (t : Table) (head : Head) (at e : List ℕ) (p : ℕ) (context : Context) (r : ℕ) : Type 0 where
  pub larger : get_or e p 0 < r
  pub between : NoneBetween head.well t (get_or e p 0) (get_or at p 0) context r

module _ {t : Table} {head : Head} {ts m mask : List ℕ} {p : ℕ} {context : Context} (set-up : Setting t head ts m mask) (at e : List ℕ) (each : EachFits t head (tokens_of ts) at e) (most : p ≤ length ts) (stands : (W : ℕ) → Stands W (tokens_of ts) mask p context) where
  -- the rule in the buffer
  abbrev old : ℕ
  old = get_or e p 0

  abbrev Fits : ℕ → Bool
  Fits r = rule_fits head.well (rule_in t r) (get_or at p 0) context

  abbrev Walks : ℕ → Type 0
  Walks r = Walked t head at e p context r

  fits-same : (r : ℕ) → r < head.rules → fits_at t head (tokens_of ts) at p r ≡ Fits r
  fits-same r small =
      ap (λ b. eqb (left (rule_in t r)) (get_or at p 0) && b) (sym ((stands head.well).rules (rules_of t head) (λ q h l. set-up.leveled q (omega arith) l) (rule_in t r) (set-up.indexed.ready.small r small)))

  pub old_rule : old < head.rules
  old_rule = (each p (omega (arith, tokens_length ts))).0

  old_fits : Fits old ≡ true
  old_fits = sym (fits-same old old_rule) ∙ (each p (omega (arith, tokens_length ts))).1

  pub walk_start : Walks (old + 1)
  walk_start = record { larger = omega arith; between = λ s l k. absurd (omega arith) }

  -- a rule of another class doesn't fit
  pub walk_over : (k n : ℕ) → FirstFrom t head.rules (class_of (rule_in t old)) k n → Walks k → Walks n
  walk_over k n f h = record { larger = omega (arith, f.from, h.larger); between = between_first head.well t old (get_or at p 0) context old_fits f h.between }

  pub walk_next : {r : ℕ} → Walks r → Fits r ≡ false → Walks (suc r)
  walk_next {r} k f = record { larger = omega (arith, k.larger); between = between_more head.well t old (get_or at p 0) context r k.between f }

  pub walk_end : Walks head.rules → LargerRule t head (tokens_of ts) at e p None
  walk_end k s a b = fits-same s b ∙ k.between s a b

  pub walk_found : {r : ℕ} → Walks r → r < head.rules → Fits r ≡ true → LargerAt t head (tokens_of ts) at e p r
  walk_found {r = r} k l f = record { larger = k.larger; rule = l; fits = fits-same r l ∙ f; least = λ s a z. fits-same s (omega (arith, z, l)) ∙ k.between s a z }
