-- The digits that the rules ask for, written down rule by rule.
use Prim.Native.Nat.{ℕ, suc, ◌<◌}
use native.Mathlib.Omega.{arith}
use native.Mathlib.Decide.{dec_lt}
use mathlib.Core.Path.{◌≡◌, refl, ◌∙◌}
use mathlib.Core.Bool.{Bool, true, false}
use mathlib.Core.List.{List}
use lib.Dec.{ltb}
use lib.ListN.{length, get_or, set, length-set}
use lib.Seq.{get_or-set_same, get_or-set_other}
use Rattle.vpg.specs.declared.Rule.{Rule}
use Rattle.tables.specs.declared.Head.{Head}
use Rattle.tables.specs.declared.Table.{Table}
use Rattle.tables.specs.Table.{Sized, rule_in}
use Rattle.tables.specs.Ready.{Below}
use Rattle.rule_index.specs.Goals.{goal, inside_goal, after_goal}
use Rattle.rule_index.specs.Index.{Goals}
use Rattle.rule_index.specs.Building.{SameRules, with_goals}
use Rattle.rule_index.proofs.Kept.{rule_kept}

-- ── digits of a word of 64 ──

pub goal_small : (low : Bool) (L : ℕ) → L < 32 → goal low L < 64
goal_small true L h = omega arith
goal_small false L h = omega arith

pub inside_small : (W : ℕ) (R : Rule) → Below 32 R → inside_goal W R < 64
inside_small W (Rule.Empty L) b = omega arith
inside_small W (Rule.Next L i L₁) b = goal_small (ltb L W) L₁ b.1
inside_small W (Rule.Step L a L₁ c L₂) b = goal_small true L₁ b.1

pub after_small : (W : ℕ) (R : Rule) → Below 32 R → after_goal W R < 64
after_small W (Rule.Empty L) b = omega arith
after_small W (Rule.Next L i L₁) b = omega arith
after_small W (Rule.Step L a L₁ c L₂) b = goal_small (ltb L W) L₂ b.2

-- ── one rule more ──

pub goals_none : (t : Table) (head : Head) → Goals t head 0
goals_none t head = record { inside = λ r l. absurd (omega arith); after = λ r l. absurd (omega arith) }

-- one place more of a list
grown : (l : List ℕ) (r x : ℕ) (due : ℕ → ℕ) → r < length l → x ≡ due r → ((q : ℕ) → q < r → get_or l q 0 ≡ due q) → (q : ℕ) → q < suc r → get_or (set l r x) q 0 ≡ due q
grown l r x due room e before q h = go (dec_lt q r)
  where
    go : Dec (q < r) → get_or (set l r x) q 0 ≡ due q
    go (yes less) = get_or-set_other l r q x 0 (λ p. omega arith) ∙ before q less
    go (no apart) = let s : q ≡ r = omega arith in rw s (get_or-set_same l r x 0 room ∙ e)

module _ (t : Table) (size : Sized t) (r x y : ℕ) (small : r < 128) where
  abbrev U : Table
  U = with_goals t r x y

  pub goals_same : SameRules t U
  goals_same = record {
    size = record {
      rules = size.rules;
      first = size.first;
      next = size.next;
      inside = length-set t.inside r x ∙ size.inside;
      after = length-set t.after r y ∙ size.after;
    };
    rules = refl;
  }

  pub goals_more : (head : Head) → x ≡ inside_goal head.well (rule_in t r) → y ≡ after_goal head.well (rule_in t r) → Goals t head r → Goals U head (suc r)
  goals_more head a b g = record {
    inside = λ q l. rw (rule_kept t U refl q) (grown t.inside r x (λ (k : ℕ). inside_goal head.well (rule_in t k)) (omega (arith, size.inside)) a g.inside q l);
    after = λ q l. rw (rule_kept t U refl q) (grown t.after r y (λ (k : ℕ). after_goal head.well (rule_in t k)) (omega (arith, size.after)) b g.after q l);
  }
