-- A loop over the rules of a class: what it keeps, turn by turn.
use Prim.Native.Nat.{ℕ, suc, ◌<◌, ◌≤◌}
use mathlib.Core.Path.{◌≡◌}
use mathlib.Core.List.{List, [], ◌∷◌}
use Rattle.vpg.specs.declared.Token.{Token}
use Rattle.tables.specs.declared.Head.{Head}
use Rattle.tables.specs.declared.Table.{Table}
use Rattle.tables.specs.Table.{rule_in}
use Rattle.rule_index.specs.Classes.{class_at, class_of}
use Rattle.rule_index.specs.Chain.{rules_from}
use Rattle.rule_index.specs.Index.{FirstFrom, Indexed, first_in}
use Rattle.rule_index.proofs.Classes.{class_small}
use Rattle.rule_index.proofs.Listed.{begins}

-- the first rule of the class of a token
pub starts : {t : Table} {head : Head} → Indexed t head → (k : Token) (c n : ℕ) → c ≡ class_at k → n ≡ first_in t c → FirstFrom t head.rules (class_at k) 0 n
starts x k c n e f = rw (f, e) (x.firsts (class_at k) (class_small k))

-- in a turn of a loop over the rules of class c, at rule r: G holds of r, and behind it the others are left
pub record Turn (t : Table) (rules c : ℕ) (G : ℕ → Type 0) (r : ℕ) (others : List ℕ) : Type 0 where
  pub below : r < rules
  pub of_class : class_of (rule_in t r) ≡ c
  pub held : G r
  pub rest : others ≡ rules_from t rules c (suc r)

-- what such a loop keeps: G holds in the turn that comes, and of the number of rules where none is left
pub record Along (t : Table) (rules c : ℕ) (G : ℕ → Type 0) (left : List ℕ) : Type 0 where
  pub turn : (r : ℕ) (others : List ℕ) → left ≡ r ∷ others → Turn t rules c G r others
  pub ended : left ≡ [] → G rules

-- rules of other classes don't change G
module _ {t : Table} {rules c : ℕ} {G : ℕ → Type 0} (over : (k n : ℕ) → FirstFrom t rules c k n → G k → G n) where
  pub along : (k : ℕ) {left : List ℕ} → k ≤ rules → left ≡ rules_from t rules c k → G k → Along t rules c G left
  along k {left} l e h = record {
    turn = λ r others s.
        let w = rw (← e, s) at (begins t rules c l) in
        record { below = w.below; of_class = w.first.of_class w.below; held = over _ _ w.first h; rest = w.rest };
    ended = λ s. let f = rw (← e, s) at (begins t rules c l) in over _ _ f h;
  }
