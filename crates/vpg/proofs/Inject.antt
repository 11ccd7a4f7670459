-- A code has one tree: trees of one grammar with equal codes are equal, and derive equal tokens from equal nonterminals.
use Prim.Native.Nat.{ℕ}
use native.Mathlib.Omega.{arith}
use mathlib.Core.Path.{◌≡◌}
use mathlib.Core.List.{List, [], ◌++◌, append_assoc}
use Rattle.vpg.specs.declared.Token.{Token}
use Rattle.vpg.specs.believed.Grammar.{Rules, Tree, code, Derives, by_empty, by_next, by_step}

record Same (L L' : ℕ) (v v' : List Token) (t t' : Tree) (f f' : List ℕ) : Type 0 where
  nonterminals : L ≡ L'
  tokens : v ≡ v'
  trees : t ≡ t'
  after : f ≡ f'

same : (g : Rules) {L L' : ℕ} {v v' : List Token} {t t' : Tree} → Derives g L v t → Derives g L' v' t' → (f f' : List ℕ) → code t ++ f ≡ code t' ++ f' → Same L L' v v' t t' f f'
same g (by_empty p) (by_empty p') f f' e = record { nonterminals = cc; tokens = cc; trees = cc; after = cc }
same g (by_empty p) (by_next p' d') f f' e = absurd (let z : ◌≡◌ {A = ℕ} 0 1 = cc in omega arith)
same g (by_empty p) (by_step p' d' d'') f f' e = absurd (let z : ◌≡◌ {A = ℕ} 0 1 = cc in omega arith)
same g (by_next p d) (by_empty p') f f' e = absurd (let z : ◌≡◌ {A = ℕ} 0 1 = cc in omega arith)
same g (by_next p d) (by_next p' d') f f' e =
    let h = same g d d' f f' cc in
    record { nonterminals = cc; tokens = cc; trees = cc; after = cc }
same g (by_next p d) (by_step p' d' d'') f f' e = absurd (let z : ◌≡◌ {A = ℕ} 0 1 = cc in omega arith)
same g (by_step p d₁ d₂) (by_empty p') f f' e = absurd (let z : ◌≡◌ {A = ℕ} 0 1 = cc in omega arith)
same g (by_step p d₁ d₂) (by_next p' d') f f' e = absurd (let z : ◌≡◌ {A = ℕ} 0 1 = cc in omega arith)
same g (by_step {t} {u} p d₁ d₂) (by_step {t = t'} {u = u'} p' d' d'') f f' e =
    let h = same g d₁ d' (code u ++ f) (code u' ++ f') (cc (append_assoc (code t) (code u) f, append_assoc (code t') (code u') f')) in
    let k = same g d₂ d'' f f' h.after in
    record { nonterminals = cc; tokens = cc; trees = cc; after = cc }

pub code_injective : (g : Rules) {L L' : ℕ} {v v' : List Token} {t t' : Tree} → Derives g L v t → Derives g L' v' t' → code t ≡ code t' → t ≡ t'
code_injective g {t} {t'} d d' e = (same g d d' [] [] (rw e)).trees
