-- From left to right: the nonterminals that can stand at a position, those that can stand behind each pending close, and which rules are kept.
-- Law: front_kept (level_theory/proofs/Kept.antt)
use Rattle.std.specs.Prelude.{ℕ, zero, suc, ◌≤◌, ◌≡◌, ◌⊎◌, ◌↔◌, Bool, true, false, ◌&&◌, List, [], ◌∷◌, drop}
use Rattle.std.proofs.Math.Option.{Option, none, some}
use Rattle.std.proofs.Math.ListN.{get_elem?}
use Rattle.laws.specs.Any.{any}
use Rattle.vpg.specs.declared.Rule.{Rule}
use Rattle.vpg.specs.declared.Token.{Token}
use Rattle.vpg.specs.believed.Grammar.{Rules, Grammar, left}
use Rattle.vpg.specs.Runs.{Stack, move}
use Rattle.vpg.specs.Parts.{onward, beyond, is_it}
use Rattle.level_theory.specs.Masks.{Nonterminals, masks, Fits}
use Rattle.level_theory.specs.Pending.{Closes, pending_at}
use Rattle.level_theory.specs.Walk.{test_at}

-- ── one rule ──

-- is R kept before the tokens v, where the nonterminals F can stand
abbrev pub keeps : ℕ → Rules → List Token → Nonterminals → Rule → Bool
keeps W g v F R = F (left R) && test_at W g v R

-- does R go on with the nonterminal K
abbrev pub goes_to : Rule → Nonterminals
goes_to R = is_it (onward R)

-- does R go on with the nonterminal K behind its close
abbrev pub returns_to : Rule → Nonterminals
returns_to R = is_it (beyond R)

-- those with which the kept rules go on, and those behind their close
abbrev pub going : (Rule → Bool) → Rules → Nonterminals
going k g K = any (λ R. k R && goes_to R K) g

abbrev pub returning : (Rule → Bool) → Rules → Nonterminals
returning k g K = any (λ R. k R && returns_to R K) g

-- is there a rule, and does it pass
abbrev pub passed : (Rule → Bool) → Option Rule → Bool
passed k none = false
passed k (some R) = k R

-- ── what readings reach ──

-- one step on from what A reaches before position p
pub record Step (W : ℕ) (g : Rules) (w : List Token) (p : ℕ) (A : ℕ → Stack → Type 0) (L : ℕ) (s : Stack) : Type 0 where
  pub token : Token
  pub nonterminal : ℕ
  pub due : Stack
  pub number : ℕ
  pub rule : Rule
  pub reached : A nonterminal due
  pub tokens : drop p w ≡ token ∷ drop (suc p) w
  pub is : get_elem? g number ≡ some rule
  pub goes : move rule nonterminal due token ≡ some (L, s)
  pub fits : Fits W L s (masks W g (drop (suc p) w))

-- before position p some reading has L to derive, and then what is due
abbrev pub Reached : ℕ → Grammar → List Token → ℕ → ℕ → Stack → Type 0
Reached W g w zero L s = (L ≡ g.start) × (s ≡ []) × Fits W L s (masks W g.rules w)
Reached W g w (suc p) L s = Step W g.rules w p (Reached W g w p) L s

-- K is due behind the close at position j
abbrev pub Behind : Stack → Closes → ℕ → ℕ → Type 0
Behind [] l j K = ⊥
Behind (d ∷ s) [] j K = ⊥
Behind (d ∷ s) (c ∷ l) j K = ((c.1 ≡ j) × (d.1 ≡ K)) ⊎ Behind s l j K

-- some reading has K behind the close at position j
pub record Returns (W : ℕ) (g : Grammar) (w : List Token) (p j K : ℕ) : Type 0 where
  pub nonterminal : ℕ
  pub due : Stack
  pub reached : Reached W g w p nonterminal due
  pub behind : Behind due (pending_at w p) j K

-- `here` are the nonterminals that can stand at position p, and `back j` those that can stand behind the close at position j
pub record Front (W : ℕ) (g : Grammar) (w : List Token) (p : ℕ) (here : Nonterminals) (back : ℕ → Nonterminals) : Type 0 where
  pub stands : (L : ℕ) → (here L ≡ true) ↔ ((s : Stack) × Reached W g w p L s)
  pub returns : (j K : ℕ) → p ≤ j → (back j K ≡ true) ↔ Returns W g w p j K
