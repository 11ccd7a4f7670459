-- The smallest rule that fits, as the theory of runs asks for it.
use Prim.Native.Nat.{ℕ, suc, ◌<◌}
use native.Mathlib.Omega.{arith}
use mathlib.Core.Path.{◌≡◌, refl, sym, ◌∙◌, ap}
use mathlib.Core.Bool.{Bool, true, false, false≢true}
use mathlib.Core.List.{List, ◌∷◌}
use mathlib.Core.Option.{some-injective}
use borrow.Author.Tests.{eqb-true, eq-eqb, ltb-true, ltb-false}
use lib.Dec.{eqb, ltb}
use lib.ListN.{length, drop}
use Rattle.vpg.specs.declared.Token.{Token}
use Rattle.vpg.specs.believed.Grammar.{Rules, General, left}
use Rattle.laws.proofs.Bools.{and_left, and_right, both}
use Rattle.level_theory.specs.Masks.{masks, Match}
use Rattle.level_theory.specs.Pending.{pending_at, close_of, due_at}
use Rattle.level_theory.specs.Walk.{test_at}
use Rattle.level_theory.proofs.Alive.{Passes, lefts-some, some-lefts}
use Rattle.level_theory.proofs.Local.{Turn, turn}
use Rattle.level_theory.proofs.Search.{None}
use Rattle.level_theory.proofs.Walk.{level_test}
use Rattle.contexts.specs.declared.Context.{Context}
use Rattle.contexts.specs.Context.{applies_to}
use Rattle.tables.specs.declared.Head.{Head}
use Rattle.tables.specs.declared.Table.{Table}
use Rattle.tables.specs.Table.{rule_in}
use Rattle.tables.specs.Ready.{Ready, rules_of}
use Rattle.tables.proofs.Tables.{rules_at, rules_below}
use Rattle.levels.specs.Levels.{Leveled, Stands}
use Rattle.moves.specs.Moves.{rule_fits, Smallest}

module _ (t : Table) (head : Head) (ready : Ready t head) (w : List Token) (mask : List ℕ) (p L : ℕ) (context : Context) (stands : Stands head.well w mask p context) (leveled : Leveled head.well (rules_of t head) w mask (suc p)) where
  abbrev U : ℕ
  U = head.well

  abbrev G : Rules
  G = rules_of t head

  abbrev Passing : ℕ → Type 0
  Passing r = Passes (test_at U G (drop p w)) G L r

  -- a rule that fits passes
  pub passes : (r : ℕ) → r < head.rules → rule_fits U (rule_in t r) L context ≡ true → Passing r
  passes r h q = record {
    rule = rule_in t r;
    is = rules_at t head.rules r h;
    from = eqb-true _ _ (and_left _ _ q);
    passes = sym (stands.rules G leveled (rule_in t r) (ready.small r h)) ∙ and_right (eqb (left (rule_in t r)) L) (applies_to U (rule_in t r) context) q;
  }

  -- where none fits, none passes
  pub none : (P : ℕ → Type 0) → ((r : ℕ) → r < head.rules → P r → rule_fits U (rule_in t r) L context ≡ false) → None (test_at U G (drop p w)) G L P
  none P h r x k = false≢true (sym (h r l x) ∙ both (eq-eqb _ _ (ap left e ∙ k.from)) (stands.rules G leveled (rule_in t r) (ready.small r l) ∙ rw e k.passes))
    where
      l : r < head.rules
      l = rules_below t head.rules r k.is

      e : rule_in t r ≡ k.rule
      e = some-injective _ _ (sym (rules_at t head.rules r l) ∙ k.is)

  pub least : (r : ℕ) → Smallest t head L context r → None (test_at U G (drop p w)) G L (λ q. q < r)
  least r k = none (λ q. q < r) (λ q h l. k.least q l)

  -- where L derives the rest of the level there is one
  pub found : (r : ℕ) → (masks U G (drop p w)).0 L ≡ true → Smallest t head L context r → r < head.rules
  found r f k = go (ltb r head.rules) refl (lefts-some (test_at U G (drop p w)) G L (level_test U G (drop p w) L ∙ f))
    where
      go : (b : Bool) → ltb r head.rules ≡ b → (q : ℕ) × Passing q → r < head.rules
      go true e x = ltb-true r head.rules e
      go false e x =
          let l = ltb-false r head.rules e in
          let z = rules_below t head.rules x.0 x.1.is in
          absurd (least r k x.0 (omega arith) x.1)

  -- and where one passes, L derives the rest of the level
  pub derives : (r : ℕ) → Passing r → (masks U G (drop p w)).0 L ≡ true
  derives r k = sym (level_test U G (drop p w) L) ∙ some-lefts (test_at U G (drop p w)) G L r k.rule k.is k.from k.passes

  -- where a rule that fits leads over the token here, if what is due matches the levels
  pub fitting_turn : General U G → (f : List ℕ) (u : Token) (here : drop p w ≡ u ∷ drop (suc p) w) → close_of (pending_at w (suc p)) (length w) < length f → Match U L (due_at U f (pending_at w p) L) (masks U G (drop p w)).1 →
      (r : ℕ) → r < head.rules → rule_fits U (rule_in t r) L context ≡ true → Turn U G w (length w) f p u here L r (rule_in t r)
  unfolding passes
  fitting_turn form f u here room due r h q = let x = passes r h q in turn U G w (length w) f p u here form L r (rule_in t r) room (derives r x, due) x.is x.from x.passes
