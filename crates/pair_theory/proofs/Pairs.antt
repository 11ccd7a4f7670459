-- The paper's Theorem 4.1: the derivative of a configuration by a token takes w exactly when the configuration takes the token and then w.
-- So the configuration after some tokens accepts exactly when they have a reading (Theorem 4.2), and stop marks are what it accepts.
use Prim.Native.Nat.{ℕ, suc, ◌<◌, ◌≤◌}
use native.Mathlib.Decide.{dec_lt}
use native.Mathlib.Omega.{arith}
use mathlib.Core.Path.{◌≡◌, refl, sym, ◌∙◌, ap}
use mathlib.Core.Logic.{◌↔◌, ◌⊎◌, inl, inr, ⊎_elim}
use mathlib.Core.Bool.{Bool, true, false, ◌&&◌, ◌||◌, or-true, false≢true}
use mathlib.Core.List.{List, [], ◌∷◌, ◌++◌, append_assoc, append-nil, cons≢nil}
use mathlib.Core.Option.{some}
use borrow.Author.Tests.{eqb-true, le-leb, leb-true}
use lib.Dec.{eqb, leb}
use lib.ListN.{get_elem?, length, take}
use Rattle.laws.proofs.Lists.{heads, tails}
use Rattle.vpg.specs.declared.MarkName.{MarkName}
use Rattle.vpg.specs.declared.OpenName.{OpenName}
use Rattle.vpg.specs.declared.CloseName.{CloseName}
use Rattle.vpg.specs.declared.Rule.{Rule}
use Rattle.vpg.specs.declared.Token.{Token}
use Rattle.laws.specs.Any.{any_below}
use Rattle.vpg.specs.believed.Grammar.{Rules, Grammar, Plain, General, Tree, code, Derives, by_empty, by_next, by_step, Reading, left}
use Rattle.vpg.specs.Tests.{same_token}
use Rattle.pair_theory.specs.Pairs.{PairState, PairStack, Configuration, single, begin, next_to, over_next, open_to, over_step, over_open, ends_from, finished, close_to, over_close, over_return, closed, derivative, after, bottom, free, accepts, marks_from, Takes, at-bottom, at-pending, in_step, Proper, Contexts, Stacked, Within}
use Rattle.sets_theory.specs.believed.Sets.{one, stop_mark, listed, stop_marks}
use Rattle.laws.proofs.Any.{any_some, some-any, below_some, some_below}
use Rattle.laws.proofs.Bools.{both, eqb_refl, and_left, and_right, or_cases, same_test}
use Rattle.sets_theory.proofs.Sets.{stop_mark_is, listed_cong}
use Rattle.vpg.proofs.Tests.{name_open, name_close, same_is, same_refl, if_empty_lem, if_next_lem, if_step_lem}

-- ── the tests ──

pub record NextTo (t : Token) (S : PairState) (L₁ L₃ : ℕ) (R : Rule) : Type 0 where
  pub current : ℕ
  pub is : R ≡ Rule.Next current t L₃
  pub pair : S L₁ current ≡ true

pub next_to_lem : (t : Token) (S : PairState) (L₁ L₃ : ℕ) (R : Rule) → next_to t S L₁ L₃ R ≡ true → NextTo t S L₁ L₃ R
next_to_lem t S L₁ L₃ R q =
    let r = if_next_lem _ R q in
    let e = and_right (S L₁ (left R)) _ r.passes in
    record { current = left R; is = r.is ∙ rw (same_is r.token t (and_left _ _ e), eqb-true r.next L₃ (and_right (same_token r.token t) _ e)); pair = and_left _ _ r.passes }

pub record OpenTo (n : ℕ) (a : OpenName) (S : PairState) (L₃ : ℕ) (R : Rule) : Type 0 where
  pub current : ℕ
  pub close : CloseName
  pub next : ℕ
  pub is : R ≡ Rule.Step current a L₃ close next
  pub pair : any_below n (λ L₁. S L₁ current) ≡ true

pub open_to_lem : (n : ℕ) (a : OpenName) (S : PairState) (L₃ : ℕ) (R : Rule) → open_to n a S L₃ R ≡ true → OpenTo n a S L₃ R
open_to_lem n a S L₃ R q =
    let r = if_step_lem _ R q in
    let e = and_right (any_below n (λ L₁. S L₁ (left R))) _ r.passes in
    record { current = left R; close = r.close; next = r.next; is = r.is ∙ rw (name_open {x = r.name} {y = a} (eqb-true _ _ (and_left _ _ e)), eqb-true r.inside L₃ (and_right (eqb r.name.0 a.0) _ e)); pair = and_left _ _ r.passes }

pub record CloseTo (g : Grammar) (b : CloseName) (S S₁ : PairState) (a : OpenName) (L₁ L₅ : ℕ) (R : Rule) : Type 0 where
  pub current : ℕ
  pub inside : ℕ
  pub is : R ≡ Rule.Step current a inside b L₅
  pub pair : S₁ L₁ current ≡ true
  pub ends : finished g S inside ≡ true

pub close_to_lem : (g : Grammar) (b : CloseName) (S S₁ : PairState) (a : OpenName) (L₁ L₅ : ℕ) (R : Rule) → close_to g b S S₁ a L₁ L₅ R ≡ true → CloseTo g b S S₁ a L₁ L₅ R
close_to_lem g b S S₁ a L₁ L₅ R q =
    let r = if_step_lem _ R q in
    let e = and_right (S₁ L₁ (left R)) _ r.passes in
    let f = and_right (finished g S r.inside) _ e in
    let h = and_right (eqb r.name.0 a.0) _ f in
    record {
      current = left R;
      inside = r.inside;
      is = r.is ∙ rw (name_open {x = r.name} {y = a} (eqb-true _ _ (and_left _ _ f)), name_close {x = r.close} {y = b} (eqb-true _ _ (and_left _ _ h)), eqb-true r.next L₅ (and_right (eqb r.close.0 b.0) _ h));
      pair = and_left _ _ r.passes;
      ends = and_left _ _ e;
    }

or-first : (x y : Bool) → x ≡ true → (x || y) ≡ true
or-first x y q = rw q

only_pair : (L₁ L₂ : ℕ) → single L₁ L₂ L₁ L₂ ≡ true
only_pair L₁ L₂ = both (eqb_refl L₁) (eqb_refl L₂)

-- ── what a configuration takes, level by level ──

module _ (W : ℕ) (g : Rules) where
  -- the way back to the state d, at the context L of the current level: w begins with a close, and the stack below d takes the rest
  record Back (d : PairState × OpenName) (T : PairStack) (L : ℕ) (w : List Token) : Type 0 where
    context : ℕ
    current : ℕ
    next : ℕ
    number : ℕ
    close : CloseName
    rest : List Token
    pair : d.0 context current ≡ true
    is : get_elem? g number ≡ some (Rule.Step current d.1 L close next)
    tokens : w ≡ Token.Close close ∷ rest
    takes : Takes W g (single context next) T rest

  -- what may follow the current level, whose context is L
  abbrev Onward : PairStack → ℕ → List Token → Type 0
  Onward [] L w = w ≡ []
  Onward (d ∷ T) L w = ((W ≤ L) × (w ≡ [])) ⊎ Back d T L w

  done : (T : PairStack) (L : ℕ) → W ≤ L → Onward T L []
  done [] L h = refl
  done (d ∷ T) L h = inl (h, refl)

  -- all cases of Definition 4.3 together
  record Split (S : PairState) (T : PairStack) (w : List Token) : Type 0 where
    context : ℕ
    current : ℕ
    level : List Token
    others : List Token
    tree : Tree
    pair : S context current ≡ true
    derives : Derives g current level tree
    tokens : w ≡ level ++ others
    goes : Onward T context others

  split : {S : PairState} {T : PairStack} {w : List Token} → Takes W g S T w → Split S T w
  split (at-bottom L₁ {L₂} {w} {t} p d) = record { context = L₁; current = L₂; level = w; others = []; tree = t; pair = p; derives = d; tokens = sym (append-nil w); goes = refl }
  split (at-pending {T} L₁ {L₂} {w} {t} h p d) = record { context = L₁; current = L₂; level = w; others = []; tree = t; pair = p; derives = d; tokens = sym (append-nil w); goes = done T L₁ h }
  split (in_step L₁ r {L₂} {L₃} {L₄} {L₅} {w₁} {w₂} {b} {t} p d q i k) =
      record {
        context = L₃;
        current = L₄;
        level = w₁;
        others = Token.Close b ∷ w₂;
        tree = t;
        pair = p;
        derives = d;
        tokens = refl;
        goes = inr (record { context = L₁; current = L₂; next = L₅; number = r; close = b; rest = w₂; pair = q; is = i; tokens = refl; takes = k });
      }

  -- a state takes what one of its pairs takes
  joined : (S : PairState) (T : PairStack) (L₁ L₂ : ℕ) (v u : List Token) {t : Tree} → S L₁ L₂ ≡ true → Derives g L₂ v t → Onward T L₁ u → Takes W g S T (v ++ u)
  joined S [] L₁ L₂ v u p d e = rw (e, append-nil) (at-bottom L₁ p d)
  joined S (x ∷ T) L₁ L₂ v u p d (inl (h, e)) = rw (e, append-nil) (at-pending L₁ h p d)
  joined S (x ∷ T) L₁ L₂ v u p d (inr k) = rw k.tokens (in_step k.context k.number p d k.pair k.is k.takes)

  -- what {(L₁, L₂)} takes is taken by each state that has (L₁, L₂)
  widen : (S : PairState) (T : PairStack) (w : List Token) (L₁ L₂ : ℕ) → Takes W g (single L₁ L₂) T w → S L₁ L₂ ≡ true → Takes W g S T w
  widen S T w L₁ L₂ k p =
      let h = split k in
      let e₁ = eqb-true h.context L₁ (and_left _ _ h.pair) in
      let e₂ = eqb-true h.current L₂ (and_right (eqb h.context L₁) _ h.pair) in
      rw h.tokens (joined S T h.context h.current h.level h.others (rw (e₁, e₂) p) h.derives h.goes)

  -- and what a state takes, one of its pairs takes
  record OneTakes (S : PairState) (T : PairStack) (w : List Token) : Type 0 where
    context : ℕ
    current : ℕ
    pair : S context current ≡ true
    takes : Takes W g (single context current) T w

  narrow : (S : PairState) (T : PairStack) (w : List Token) → Takes W g S T w → OneTakes S T w
  narrow S T w k = go (split k)
    where
      go : Split S T w → OneTakes S T w
      go h = record {
        context = h.context;
        current = h.current;
        pair = h.pair;
        takes = rw h.tokens (joined (single h.context h.current) T h.context h.current h.level h.others (only_pair h.context h.current) h.derives h.goes);
      }

  -- in the context of no well-matched nonterminal nothing follows
  nothing_due : General W g → (T : PairStack) (L : ℕ) (w : List Token) → W ≤ L → Onward T L w → w ≡ []
  nothing_due form [] L w h o = o
  nothing_due form (d ∷ T) L w h (inl (l, e)) = e
  nothing_due form (d ∷ T) L w h (inr k) = absurd (let f = form k.number _ k.is in omega (arith, f.0))

  -- a level is left by a close only
  closes-next : (T : PairStack) (L : ℕ) (x : Token) (w : List Token) → Onward T L (x ∷ w) → (b : CloseName) × (x ≡ Token.Close b)
  closes-next [] L x w o = absurd (cons≢nil o)
  closes-next (d ∷ T) L x w (inl (h, o)) = absurd (cons≢nil o)
  closes-next (d ∷ T) L x w (inr o) = (o.close, heads o.tokens)

-- ── Theorem 4.1 ──

-- a derivation of tokens that begin with t, which a rule takes alone; v: those behind it
record NextFirst (g : Rules) (L : ℕ) (t : Token) (v : List Token) : Type 0 where
  number : ℕ
  next : ℕ
  tree : Tree
  is : get_elem? g number ≡ some (Rule.Next L t next)
  derives : Derives g next v tree

-- .. or with the open of a step
record OpenFirst (g : Rules) (L : ℕ) (a : OpenName) (v : List Token) : Type 0 where
  number : ℕ
  inside : ℕ
  close : CloseName
  next : ℕ
  within : List Token
  rest : List Token
  tree : Tree
  tree' : Tree
  is : get_elem? g number ≡ some (Rule.Step L a inside close next)
  derives : Derives g inside within tree
  tokens : v ≡ within ++ (Token.Close close ∷ rest)
  derives' : Derives g next rest tree'

data FirstOf (g : Rules) (L : ℕ) (v : List Token) : Token → Type 0 where
  taken_alone : {t : Token} → NextFirst g L t v → FirstOf g L v t
  taken_open : {a : OpenName} → OpenFirst g L a v → FirstOf g L v (Token.Open a)

first_of : (g : Rules) {L : ℕ} {w : List Token} {t : Tree} → Derives g L w t → (x : Token) (v : List Token) → w ≡ x ∷ v → FirstOf g L v x
first_of g (by_empty i) x v e = absurd (let z : ◌≡◌ {A = ℕ} 0 1 = cc in omega arith)
first_of g (by_next {r} {i = y} {L₁} {t = t} i d) x v e =
    let h : y ≡ x = heads e in
    taken_alone {t = x} (record { number = r; next = L₁; tree = t; is = rw (← h) i; derives = rw (← tails e) d })
first_of g (by_step {r} {a = a} {L₁} {b} {L₂} {v = x'} {w = y} {t} {u} i d d') x v e =
    rw (← (heads e)) (taken_open (record { number = r; inside = L₁; close = b; next = L₂; within = x'; rest = y; tree = t; tree' = u; is = i; derives = d; tokens = sym (tails e); derives' = d' }))

alone-mark : {g : Rules} {L : ℕ} {v : List Token} {c : MarkName} → FirstOf g L v (Token.Mark c) → NextFirst g L (Token.Mark c) v
alone-mark (taken_alone h) = h

alone_close : {g : Rules} {L : ℕ} {v : List Token} {b : CloseName} → FirstOf g L v (Token.Close b) → NextFirst g L (Token.Close b) v
alone_close (taken_alone h) = h

open_cases : {g : Rules} {L : ℕ} {v : List Token} {a : OpenName} → FirstOf g L v (Token.Open a) → NextFirst g L (Token.Open a) v ⊎ OpenFirst g L a v
open_cases (taken_alone h) = inl h
open_cases (taken_open h) = inr h

record EmptyOnly (g : Rules) (L : ℕ) : Type 0 where
  number : ℕ
  is : get_elem? g number ≡ some (Rule.Empty L)

empty_only : (g : Rules) {L : ℕ} {w : List Token} {t : Tree} → Derives g L w t → w ≡ [] → EmptyOnly g L
empty_only g (by_empty {r} i) e = record { number = r; is = i }
empty_only g (by_next i d) e = absurd (cons≢nil e)
empty_only g (by_step i d d') e = absurd (cons≢nil e)

-- tokens in two parts, the first of which may be empty
data Parts (x : Token) (w v u : List Token) : Type 0 where
  none_first : v ≡ [] → u ≡ x ∷ w → Parts x w v u
  some_first : (v' : List Token) → v ≡ x ∷ v' → w ≡ v' ++ u → Parts x w v u

parts : (x : Token) (w v u : List Token) → x ∷ w ≡ v ++ u → Parts x w v u
parts x w [] u e = none_first refl (sym e)
parts x w (y ∷ v) u e =
    let h : y ≡ x = sym (heads e) in
    some_first v (rw h) (tails e)

no_more : (v u : List Token) → v ++ u ≡ [] → (v ≡ []) × (u ≡ [])
no_more [] u e = (refl, e)
no_more (x ∷ v) u e = absurd (cons≢nil e)

module _ (g : Grammar) (form : General g.well g.rules) where
  abbrev pub W : ℕ
  W = g.well

  abbrev pub G : Rules
  G = g.rules

  -- a rule that takes an open or a close alone stands where nothing is due
  pub pending_context : (S : PairState) → Contexts g S → (L₁ L₂ r L₃ : ℕ) (t : Token) → (Plain t → ⊥) → S L₁ L₂ ≡ true → get_elem? G r ≡ some (Rule.Next L₂ t L₃) → W ≤ L₁
  pending_context S small L₁ L₂ r L₃ t unplain p i = go (dec_lt L₁ W)
    where
      go : Dec (L₁ < W) → W ≤ L₁
      go (yes h) = absurd (unplain (form r _ i ((small L₁ L₂ p).1 h)).0)
      go (no h) = omega arith

  -- the pair that a rule which takes t alone leads to
  next_pair : (t : Token) (S : PairState) (L₁ L₂ r L₃ : ℕ) → S L₁ L₂ ≡ true → get_elem? G r ≡ some (Rule.Next L₂ t L₃) → over_next g t S L₁ L₃ ≡ true
  next_pair t S L₁ L₂ r L₃ p i = some-any (next_to t S L₁ L₃) G r i (both p (both (same_refl t) (eqb_refl L₃)))

  -- (1) (S, T) ⇝ c w exactly when (δ S, T) ⇝ w
  pub mark-derivative : (c : MarkName) (S : PairState) (T : PairStack) (w : List Token) → Takes W G S T (Token.Mark c ∷ w) ↔ Takes W G (over_next g (Token.Mark c) S) T w
  mark-derivative c S T w = (λ k. forth (split W G k), λ k. back (split W G k))
    where
      forth : Split W G S T (Token.Mark c ∷ w) → Takes W G (over_next g (Token.Mark c) S) T w
      forth h = go (parts (Token.Mark c) w h.level h.others h.tokens)
        where
          go : Parts (Token.Mark c) w h.level h.others → Takes W G (over_next g (Token.Mark c) S) T w
          go (none_first e f) = let q = closes-next W G T h.context (Token.Mark c) w (rw f at h.goes) in absurd (let z : ◌≡◌ {A = ℕ} 0 1 = cc q.1 in omega arith)
          go (some_first v e f) =
              let m = alone-mark (first_of G h.derives (Token.Mark c) v e) in
              rw f (joined W G (over_next g (Token.Mark c) S) T h.context m.next v h.others (next_pair (Token.Mark c) S h.context h.current m.number m.next h.pair m.is) m.derives h.goes)

      back : Split W G (over_next g (Token.Mark c) S) T w → Takes W G S T (Token.Mark c ∷ w)
      back h =
          let s = any_some (next_to (Token.Mark c) S h.context h.current) G h.pair in
          let m = next_to_lem (Token.Mark c) S h.context h.current s.element s.passes in
          rw h.tokens (joined W G S T h.context m.current (Token.Mark c ∷ h.level) h.others m.pair (by_next (rw m.is at s.is) h.derives) h.goes)

  -- a token that is taken alone, and isn't a mark: before it any stack, behind it any other
  pending_forth : (t : Token) → (Plain t → ⊥) → (S S' : PairState) (T T' : PairStack) (w : List Token) → Contexts g S → ((L₁ L₃ : ℕ) → over_next g t S L₁ L₃ ≡ true → S' L₁ L₃ ≡ true) →
      (h : Split W G S T (t ∷ w)) (v : List Token) → w ≡ v ++ h.others → NextFirst G h.current t v → Takes W G S' T' w
  pending_forth t unplain S S' T T' w small wide h v f m =
      let l = pending_context S small h.context h.current m.number m.next t unplain h.pair m.is in
      let e = nothing_due W G form T h.context h.others l h.goes in
      let q = wide h.context m.next (next_pair t S h.context h.current m.number m.next h.pair m.is) in
      rw (f, e) (joined W G S' T' h.context m.next v [] q m.derives (done W G T' h.context l))

  pending_back : (t : Token) → (Plain t → ⊥) → (S S' : PairState) (T T' : PairStack) (w : List Token) → Contexts g S → (h : Split W G S' T' w) → over_next g t S h.context h.current ≡ true → Takes W G S T (t ∷ w)
  pending_back t unplain S S' T T' w small h q =
      let s = any_some (next_to t S h.context h.current) G q in
      let m = next_to_lem t S h.context h.current s.element s.passes in
      let i = rw m.is at s.is in
      let l = pending_context S small h.context m.current s.number h.current t unplain m.pair i in
      let e = nothing_due W G form T' h.context h.others l h.goes in
      rw (h.tokens, e) (joined W G S T h.context m.current (t ∷ h.level) [] m.pair (by_next i h.derives) (done W G T h.context l))

  -- (2) (S, T) ⇝ ⟨a w exactly when (δ S, [S, ⟨a] · T) ⇝ w
  pub open_derivative : (a : OpenName) (S : PairState) (T : PairStack) (w : List Token) → Contexts g S →
      Takes W G S T (Token.Open a ∷ w) ↔ Takes W G (over_open g a S) ((S, a) ∷ T) w
  open_derivative a S T w small = (λ k. forth (split W G k), λ k. back (split W G k))
    where
      forth : Split W G S T (Token.Open a ∷ w) → Takes W G (over_open g a S) ((S, a) ∷ T) w
      forth h = go (parts (Token.Open a) w h.level h.others h.tokens)
        where
          go : Parts (Token.Open a) w h.level h.others → Takes W G (over_open g a S) ((S, a) ∷ T) w
          go (none_first e f) = let q = closes-next W G T h.context (Token.Open a) w (rw f at h.goes) in absurd (let z : ◌≡◌ {A = ℕ} 0 1 = cc q.1 in omega arith)
          go (some_first v e f) = ⊎_elim by_alone by_open (open_cases (first_of G h.derives (Token.Open a) v e))
            where
              by_alone : NextFirst G h.current (Token.Open a) v → Takes W G (over_open g a S) ((S, a) ∷ T) w
              by_alone m = pending_forth (Token.Open a) (λ z. z) S (over_open g a S) T ((S, a) ∷ T) w small (λ L₁ L₃ q. rw q (or-true (over_step g a S L₁ L₃))) h v f m

              by_open : OpenFirst G h.current a v → Takes W G (over_open g a S) ((S, a) ∷ T) w
              by_open m =
                  let pair : over_step g a S m.inside m.inside ≡ true =
                  both (eqb_refl m.inside)
                  (some-any (open_to g.nonterminals a S m.inside) G m.number m.is
                  (both (some_below g.nonterminals (λ L. S L h.current) h.context (small h.context h.current h.pair).0 h.pair) (both (eqb_refl a.0) (eqb_refl m.inside)))) in
                  rw (f, m.tokens, append_assoc)
                  (in_step h.context m.number (or-first (over_step g a S m.inside m.inside) _ pair) m.derives h.pair m.is
                  (joined W G (single h.context m.next) T h.context m.next m.rest h.others (only_pair h.context m.next) m.derives' h.goes))

      back : Split W G (over_open g a S) ((S, a) ∷ T) w → Takes W G S T (Token.Open a ∷ w)
      back h = ⊎_elim by_open (pending_back (Token.Open a) (λ z. z) S (over_open g a S) T ((S, a) ∷ T) w small h) (or_cases (over_step g a S h.context h.current) _ h.pair)
        where
          by_open : over_step g a S h.context h.current ≡ true → Takes W G S T (Token.Open a ∷ w)
          by_open p = ⊎_elim (λ o. absurd (free_inside o.0)) (λ b. go b (split W G b.takes)) h.goes
            where
              free_inside : W ≤ h.context → ⊥
              free_inside l =
                  let s = any_some (open_to g.nonterminals a S h.context) G (and_right (eqb h.context h.current) _ p) in
                  let m = open_to_lem g.nonterminals a S h.context s.element s.passes in
                  let f = form s.number (Rule.Step m.current a h.context m.close m.next) (rw m.is at s.is) in
                  omega (arith, f.0)

              go : (b : Back W G (S, a) T h.context h.others) → Split W G (single b.context b.next) T b.rest → Takes W G S T (Token.Open a ∷ w)
              go b k =
                  let e = eqb-true h.context h.current (and_left _ _ p) in
                  let e₁ = eqb-true k.context b.context (and_left _ _ k.pair) in
                  let e₂ = eqb-true k.current b.next (and_right (eqb k.context b.context) _ k.pair) in
                  let i : get_elem? G b.number ≡ some (Rule.Step b.current a h.current b.close k.current) = rw (← e, e₂) b.is in
                  let t : w ≡ h.level ++ (Token.Close b.close ∷ (k.level ++ k.others)) = h.tokens ∙ ap (λ (v : List Token). h.level ++ v) b.tokens ∙ ap (λ (v : List Token). h.level ++ (Token.Close b.close ∷ v)) k.tokens in
                  rw (t, ← append_assoc h.level (Token.Close b.close ∷ k.level) k.others)
                  (joined W G S T k.context b.current (Token.Open a ∷ (h.level ++ (Token.Close b.close ∷ k.level))) k.others (rw e₁ b.pair) (by_step i h.derives k.derives) k.goes)

  -- (3) (S, [S₁, ⟨a] · T) ⇝ b⟩ w exactly when (δ S, T) ⇝ w
  pub close_derivative : (b : CloseName) (S S₁ : PairState) (a : OpenName) (T : PairStack) (w : List Token) → Contexts g S →
      Takes W G S ((S₁, a) ∷ T) (Token.Close b ∷ w) ↔ Takes W G (over_return g b S S₁ a) T w
  close_derivative b S S₁ a T w small = (λ k. forth (split W G k), λ k. back (split W G k))
    where
      forth : Split W G S ((S₁, a) ∷ T) (Token.Close b ∷ w) → Takes W G (over_return g b S S₁ a) T w
      forth h = go (parts (Token.Close b) w h.level h.others h.tokens) h.goes
        where
          go : Parts (Token.Close b) w h.level h.others → Onward W G ((S₁, a) ∷ T) h.context h.others → Takes W G (over_return g b S S₁ a) T w
          go (some_first v e f) k =
              pending_forth (Token.Close b) (λ z. z) S (over_return g b S S₁ a) ((S₁, a) ∷ T) T w small (λ L₁ L₃ q. rw q (or-true (over_close g b S S₁ a L₁ L₃))) h v f (alone_close (first_of G h.derives (Token.Close b) v e))
          go (none_first e f) (inl o) = absurd (cons≢nil (sym f ∙ o.1))
          go (none_first e f) (inr k) =
              let m = empty_only G h.derives e in
              let r : k.rest ≡ w = tails (sym k.tokens ∙ f) in
              let c : k.close ≡ b = cc in
              let i : get_elem? G k.number ≡ some (Rule.Step k.current a h.context b k.next) = rw (← c) k.is in
              let ends = some-any (ends_from S h.context) G m.number m.is h.pair in
              widen W G (over_return g b S S₁ a) T w k.context k.next
              (rw (← r) k.takes)
              (or-first (over_close g b S S₁ a k.context k.next) _ (some-any (close_to g b S S₁ a k.context k.next) G k.number i (both k.pair (both ends (both (eqb_refl a.0) (both (eqb_refl b.0) (eqb_refl k.next)))))))

      back : Split W G (over_return g b S S₁ a) T w → Takes W G S ((S₁, a) ∷ T) (Token.Close b ∷ w)
      back h = ⊎_elim by_step' (pending_back (Token.Close b) (λ z. z) S (over_return g b S S₁ a) ((S₁, a) ∷ T) T w small h) (or_cases (over_close g b S S₁ a h.context h.current) _ h.pair)
        where
          by_step' : over_close g b S S₁ a h.context h.current ≡ true → Takes W G S ((S₁, a) ∷ T) (Token.Close b ∷ w)
          by_step' p =
              let s = any_some (close_to g b S S₁ a h.context h.current) G p in
              let m = close_to_lem g b S S₁ a h.context h.current s.element s.passes in
              let s' = any_some (ends_from S m.inside) G m.ends in
              let m' = if_empty_lem (S m.inside) s'.element s'.passes in
              let k : Takes W G (single h.context h.current) T w = rw h.tokens (joined W G (single h.context h.current) T h.context h.current h.level h.others (only_pair h.context h.current) h.derives h.goes) in
              in_step h.context s.number m'.1 (by_empty (rw m'.0 at s'.is)) m.pair (rw m.is at s.is) k

  -- with no open before it, a close is taken alone
  bottom-derivative : (b : CloseName) (S : PairState) (w : List Token) → Contexts g S → Takes W G S [] (Token.Close b ∷ w) ↔ Takes W G (over_next g (Token.Close b) S) [] w
  bottom-derivative b S w small = (λ k. forth (split W G k), λ k. let h = split W G k in pending_back (Token.Close b) (λ z. z) S (over_next g (Token.Close b) S) [] [] w small h h.pair)
    where
      forth : Split W G S [] (Token.Close b ∷ w) → Takes W G (over_next g (Token.Close b) S) [] w
      forth h = go (parts (Token.Close b) w h.level h.others h.tokens)
        where
          go : Parts (Token.Close b) w h.level h.others → Takes W G (over_next g (Token.Close b) S) [] w
          go (none_first e f) = absurd (cons≢nil (sym f ∙ h.goes))
          go (some_first v e f) = pending_forth (Token.Close b) (λ z. z) S (over_next g (Token.Close b) S) [] [] w small (λ L₁ L₃ q. q) h v f (alone_close (first_of G h.derives (Token.Close b) v e))

  -- the cases together
  pub derivative-takes : (t : Token) (x : Configuration) (w : List Token) → Within g x →
      Takes W G x.0 x.1 (t ∷ w) ↔ Takes W G (derivative g t x).0 (derivative g t x).1 w
  derivative-takes (Token.Mark c) x w h = mark-derivative c x.0 x.1 w
  derivative-takes (Token.Open a) x w h = open_derivative a x.0 x.1 w h.0
  derivative-takes (Token.Close b) x w h = go x.1
    where
      go : (T : PairStack) → Takes W G x.0 T (Token.Close b ∷ w) ↔ Takes W G (closed g b x.0 T).0 (closed g b x.0 T).1 w
      go [] = bottom-derivative b x.0 w h.0
      go (d ∷ T) = close_derivative b x.0 d.0 d.1 T w h.0

  -- ── many tokens ──

  -- a rule that takes a token alone keeps the context
  next-within : (t : Token) (S : PairState) → Contexts g S → Contexts g (over_next g t S)
  next-within t S h L₁ L₃ p =
      let s = any_some (next_to t S L₁ L₃) G p in
      let m = next_to_lem t S L₁ L₃ s.element s.passes in
      let k = h L₁ m.current m.pair in
      (k.0, λ l. (form s.number (Rule.Next m.current t L₃) (rw m.is at s.is) (k.1 l)).1, k.2)

  -- states stay within V × V
  pub derivative-within : Proper g → (t : Token) (x : Configuration) → Within g x → Within g (derivative g t x)
  derivative-within v (Token.Mark c) x h = (next-within (Token.Mark c) x.0 h.0, h.1)
  derivative-within v (Token.Open a) x h = (λ L L' p. ⊎_elim (inside L L') (next-within (Token.Open a) x.0 h.0 L L') (or_cases (over_step g a x.0 L L') _ p), h)
    where
      inside : (L L' : ℕ) → over_step g a x.0 L L' ≡ true → (L < g.nonterminals) × (L < W → L' < W) × (W ≤ L → L ≡ g.start)
      inside L L' p =
          let s = any_some (open_to g.nonterminals a x.0 L) G (and_right (eqb L L') _ p) in
          let m = open_to_lem g.nonterminals a x.0 L s.element s.passes in
          let i = rw m.is at s.is in
          let f = form s.number (Rule.Step m.current a L m.close m.next) i in
          (v.inside_in s.number m.current a L m.close m.next i, λ l. rw (eqb-true L L' (and_left _ _ p)) at l, λ l. absurd (omega (arith, f.0)))
  derivative-within v (Token.Close b) x h = go x.1 h.1
    where
      go : (T : PairStack) → Stacked g T → Within g (closed g b x.0 T)
      go [] k = (next-within (Token.Close b) x.0 h.0, tt)
      go (d ∷ T) k = (λ L₁ L₅ p. ⊎_elim (behind L₁ L₅) (next-within (Token.Close b) x.0 h.0 L₁ L₅) (or_cases (over_close g b x.0 d.0 d.1 L₁ L₅) _ p), k.1)
        where
          behind : (L₁ L₅ : ℕ) → over_close g b x.0 d.0 d.1 L₁ L₅ ≡ true → (L₁ < g.nonterminals) × (L₁ < W → L₅ < W) × (W ≤ L₁ → L₁ ≡ g.start)
          behind L₁ L₅ p =
              let s = any_some (close_to g b x.0 d.0 d.1 L₁ L₅) G p in
              let m = close_to_lem g b x.0 d.0 d.1 L₁ L₅ s.element s.passes in
              let c = k.0 L₁ m.current m.pair in
              (c.0, λ l. (form s.number (Rule.Step m.current d.1 m.inside b L₅) (rw m.is at s.is)).1 (c.1 l), c.2)

  after-takes : Proper g → (v : List Token) (x : Configuration) → Within g x →
      Within g (after g x v) × (Takes W G x.0 x.1 v ↔ Takes W G (after g x v).0 (after g x v).1 [])
  unfolding after
  after-takes p [] x h = (h, (λ k. k, λ k. k))
  after-takes p (t ∷ v) x h =
      let d = derivative-takes t x v h in
      let a = after-takes p v (derivative g t x) (derivative-within p t x h) in
      (a.0, (λ k. a.1.0 (d.0 k), λ k. d.1 (a.1.1 k)))

  -- a configuration accepts where it takes no token more
  accepts-takes : (x : Configuration) → Within g x → (accepts g x ≡ true) ↔ Takes W G x.0 x.1 []
  accepts-takes x h = (accepting x.1, λ k. accepted x.1 (split W G k))
    where
      end_free : (T : PairStack) (L : ℕ) → free g T L ≡ true → Onward W G T L []
      end_free [] L q = refl
      end_free (d ∷ T) L q = inl (leb-true W L q, refl)

      free_end : (T : PairStack) (L : ℕ) (w : List Token) → w ≡ [] → Onward W G T L w → free g T L ≡ true
      free_end [] L w e o = refl
      free_end (d ∷ T) L w e (inl o) = le-leb W L o.0
      free_end (d ∷ T) L w e (inr k) = absurd (cons≢nil (sym k.tokens ∙ e))

      accepting : (T : PairStack) → any_below g.nonterminals (λ L. free g T L && finished g x.0 L) ≡ true → Takes W G x.0 T []
      accepting T q =
          let b = below_some g.nonterminals (λ L. free g T L && finished g x.0 L) q in
          let s = any_some (ends_from x.0 b.number) G (and_right (free g T b.number) _ b.passes) in
          let m = if_empty_lem (x.0 b.number) s.element s.passes in
          joined W G x.0 T b.number (left s.element) [] [] m.1 (by_empty (rw m.0 at s.is)) (end_free T b.number (and_left _ _ b.passes))

      accepted : (T : PairStack) → Split W G x.0 T [] → any_below g.nonterminals (λ L. free g T L && finished g x.0 L) ≡ true
      accepted T k =
          let n = no_more k.level k.others (sym k.tokens) in
          let m = empty_only G k.derives n.0 in
          some_below g.nonterminals (λ L. free g T L && finished g x.0 L) k.context (h.0 k.context k.current k.pair).0
          (both (free_end T k.context k.others n.1 k.goes) (some-any (ends_from x.0 k.context) G m.number m.is k.pair))

  -- with an open unmatched nothing is due in the start alone, where that isn't well matched
  pub accepts_inside : (x : Configuration) → Within g x → bottom x.1 ≡ false → accepts g x ≡ (leb W g.start && finished g x.0 g.start)
  accepts_inside x h e = same_test (accepts g x) (leb W g.start && finished g x.0 g.start) forth back
    where
      inside : (L : ℕ) → free g x.1 L ≡ leb W L
      inside L = ap (λ (b : Bool). b || leb W L) e

      forth : accepts g x ≡ true → (leb W g.start && finished g x.0 g.start) ≡ true
      forth q =
          let b = below_some g.nonterminals (λ L. free g x.1 L && finished g x.0 L) q in
          let l : leb W b.number ≡ true = sym (inside b.number) ∙ and_left (free g x.1 b.number) _ b.passes in
          let k = and_right (free g x.1 b.number) _ b.passes in
          let s = any_some (ends_from x.0 b.number) G k in
          let m = if_empty_lem (x.0 b.number) s.element s.passes in
          let is = (h.0 b.number (left s.element) m.1).2 (leb-true W b.number l) in
          rw (← is) (both l k)

      back : (leb W g.start && finished g x.0 g.start) ≡ true → accepts g x ≡ true
      back q =
          let k = and_right (leb W g.start) _ q in
          let s = any_some (ends_from x.0 g.start) G k in
          let m = if_empty_lem (x.0 g.start) s.element s.passes in
          some_below g.nonterminals (λ L. free g x.1 L && finished g x.0 L) g.start (h.0 g.start (left s.element) m.1).0
          (both (inside g.start ∙ and_left (leb W g.start) _ q) k)

  pub begin-within : Proper g → Within g (begin g)
  begin-within p = (
    λ L₁ L₂ q.
        let e = eqb-true L₁ g.start (and_left _ _ q) in
        (rw e p.start_in, λ l. rw (e, ← (eqb-true L₂ g.start (and_right (eqb L₁ g.start) _ q))) at l, λ l. e),
    tt,
  )

  -- the start takes what the start nonterminal derives
  pub begin-takes : (v : List Token) → Takes W G (begin g).0 [] v ↔ ((e : List ℕ) × Reading g v e)
  begin-takes v = (λ k. reading (split W G k), λ h. at-bottom g.start (only_pair g.start g.start) h.1.1)
    where
      reading : Split W G (begin g).0 [] v → (e : List ℕ) × Reading g v e
      reading k =
          let e = eqb-true k.current g.start (and_right (eqb k.context g.start) _ k.pair) in
          (code k.tree, (k.tree, rw (k.tokens, k.goes, append-nil, ← e) k.derives, refl))

module _ (g : Grammar) where
  -- Theorem 4.2: the tokens have a reading exactly when the configuration after them accepts
  pub accepts_readings : Proper g → (v : List Token) → (accepts g (after g (begin g) v) ≡ true) ↔ ((e : List ℕ) × Reading g v e)
  accepts_readings p v =
      let a = after-takes g p.form p v (begin g) (begin-within g p.form p) in
      let c = accepts-takes g p.form (after g (begin g) v) a.0 in
      let b = begin-takes g p.form v in
      (λ q. b.0 (a.1.1 (c.0 q)), λ h. c.1 (a.1.0 (b.1 h)))

  -- a stop mark is 1 exactly when the configuration after the first i tokens accepts, else 0
  pub stop_mark_pairs : Proper g → (w : List Token) (i : ℕ) → stop_mark g w i ≡ one (accepts g (after g (begin g) (take i w)))
  stop_mark_pairs p w i = go (accepts g (after g (begin g) (take i w))) refl
    where
      go : (b : Bool) → accepts g (after g (begin g) (take i w)) ≡ b → stop_mark g w i ≡ one b
      go true q = (stop_mark_is g w i).0.1 ((accepts_readings p (take i w)).0 q)
      go false q = (stop_mark_is g w i).1.1 (λ e h. false≢true (sym q ∙ (accepts_readings p (take i w)).1 (e, h)))

  marks-listed : (x : Configuration) (w : List Token) → marks_from g x w ≡ listed (suc (length w)) (λ i. one (accepts g (after g x (take i w))))
  unfolding marks_from after
  marks-listed x [] = refl
  marks-listed x (t ∷ w) = ap (λ (l : List ℕ). one (accepts g x) ∷ l) (marks-listed (derivative g t x) w)

  -- the stop marks are found in one pass from left to right
  pub stop_marks_pairs : Proper g → (w : List Token) → stop_marks g w ≡ marks_from g (begin g) w
  unfolding stop_marks
  stop_marks_pairs p w =
      listed_cong (suc (length w)) (stop_mark g w) (λ i. one (accepts g (after g (begin g) (take i w)))) (λ i l. stop_mark_pairs p w i)
      ∙ sym (marks-listed (begin g) w)
