-- A walk over the rules of a position's set: the ways on and, where they are written, the words, rule by rule.
use Prim.Native.Nat.{ℕ, suc, ◌*◌, ◌<◌, ◌≤◌}
use native.Mathlib.Omega.{arith}
use mathlib.Core.Path.{◌≡◌, sym, ◌∙◌}
use mathlib.Core.Bool.{Bool, cond}
use mathlib.Core.List.{List}
use lib.ListN.{length, replicate}
use Rattle.tables.specs.declared.Head.{Head}
use Rattle.tables.specs.declared.Table.{Table}
use Rattle.tables.specs.Table.{rule_in}
use Rattle.rule_index.specs.Classes.{class_at}
use Rattle.rule_index.specs.Index.{FirstFrom, Indexed}
use Rattle.contexts.specs.declared.Context.{Context}
use Rattle.contexts.specs.Context.{code, token_here}
use Rattle.rule_set.specs.Words.{add_in}
use Rattle.rule_set.specs.declared.Ways.{Ways}
use Rattle.rule_set.specs.RuleSet.{keeps_at, ways_with, no_ways, ways_in, words_in}
use Rattle.rule_set.proofs.RuleSet.{ways_passed, words_passed, words_held}
use Rattle.rule_set.proofs.Sums.{sum_most}

module _ (t : Table) (head : Head) (here : ℕ) (context : Context) (written : Type 0) where
  -- before rule r
  pub record Walked (r : ℕ) (ways : Ways) (words : List ℕ) : Type 0 where
    pub ways-so : ways ≡ ways_in head.well t here context r
    pub words-so : written → words ≡ words_in head.well t here context r

-- the ways on of no rules
abbrev Nowhere : Ways → Type 0
Nowhere ways = (ways.sum ≡ 0) × ((ways.next ≡ 0) × (ways.behind ≡ 0))

nowhere-so : {ways : Ways} → Nowhere ways → ways ≡ no_ways
nowhere-so {ways} (e, (f, g)) = go ways.sum ways.next ways.behind e f g
  where
    go : (sum next behind : ℕ) → sum ≡ 0 → next ≡ 0 → behind ≡ 0 → record { sum = sum; next = next; behind = behind } ≡ no_ways
    go sum next behind e f g = rw (e, f, g)

module _ {t : Table} {head : Head} (x : Indexed t head) {here : ℕ} {context : Context} {written : Type 0} where
  pub walked_none : {ways : Ways} {words : List ℕ} → Nowhere ways → (written → words ≡ replicate 4 0) → Walked t head here context written 0 ways words
  unfolding ways_in words_in
  walked_none e f = record { ways-so = nowhere-so e; words-so = f }

  module _ {r : ℕ} {ways : Ways} {words : List ℕ} (k : Walked t head here context written r ways words) where
    pub walked_few : r ≤ head.rules → ways.sum ≤ r * 4294967296
    walked_few l = rw k.ways-so (sum_most head.well t here context r (λ q h. (x.ready.small q (omega arith)).0))

    pub walked_length : r ≤ head.rules → written → length words ≡ 4
    walked_length l w = rw (k.words-so w) (words_held head.well t here context r (omega (arith, x.ready.few))).0

    pub walked_turn : {kept : Bool} {ways' : Ways} {words' : List ℕ} → kept ≡ keeps_at head.well here context (rule_in t r) → ways' ≡ cond kept (ways_with ways (rule_in t r)) ways → (written → words' ≡ cond kept (add_in 32 words r) words) → Walked t head here context written (suc r) ways' words'
    unfolding ways_in words_in
    walked_turn k' e f = record { ways-so = rw (← k', ← k.ways-so) e; words-so = λ w. rw (← k', ← (k.words-so w)) (f w) }

    -- at a mark or an open nothing is added up to the next rule of the class
    pub walked_over : {n : ℕ} → code context.kind < 2 → FirstFrom t head.rules (class_at (token_here context)) r n → Walked t head here context written n ways words
    walked_over h f = record { ways-so = k.ways-so ∙ sym (ways_passed head.well t here context h f); words-so = λ w. k.words-so w ∙ sym (words_passed head.well t here context h f) }
