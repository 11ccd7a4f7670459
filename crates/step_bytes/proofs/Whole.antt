-- The part of a step holds exactly its tokens: the open, a balanced inside and the close that every other service takes for the step's. In a
-- history that has passed every open has one, so that 17 says that no open stands at the position.
use Prim.Native.Nat.{ℕ, zero, suc, ◌+◌, ◌<◌}
use mathlib.Core.Path.{◌≡◌, refl, sym, ap, ◌∙◌, subst}
use mathlib.Core.Logic.{◌↔◌}
use mathlib.Core.Bool.{Bool, true, false, ◌&&◌}
use mathlib.Core.List.{List, [], ◌∷◌, ◌++◌, Memᴰ, append_assoc}
use mathlib.Core.Option.{some, some-injective}
use native.Mathlib.Omega.{arith}
use native.Mathlib.Numerals.{add-one}
use lib.ListN.{length, get_or, get_elem?, take, drop, length-append}
use lib.Seq.{drop-cons, take-append_seam}
use lib.Dec.{eqb, ltb}
use borrow.Author.Tests.{eq-eqb, ne_eqb, eqb-true, lt-ltb}
use Rattle.vpg.specs.declared.CloseName.{CloseName}
use Rattle.vpg.specs.declared.Token.{Token}
use Rattle.level_theory.specs.Pending.{Closes, rest, pending_over, pending, pending_at, close_of}
use Rattle.numbers.specs.believed.Number.{bytes}
use Rattle.numbers.specs.Written.{written}
use Rattle.history_file.specs.believed.HistoryFile.{HistoryFile, history_of, kind, token_of, tokens_of, depth_after}
use Rattle.history_file.specs.Wellformed.{TokenNumber, Nested, Wellformed}
use Rattle.history_file.proofs.Accepted.{history_wellformed}
use Rattle.history_file.proofs.Shapes.{Shape, is_mark, is_open, is_close, shape, depth_mark, depth_open, depth_close}
use Rattle.step_bytes.specs.believed.StepBytes.{part, refused, later, step_length, part_from, step_in, step_from, step_of}
use Rattle.step_bytes.proofs.Steps.{open_at, open_inside, step_at_open, no_step}
use Rattle.step_bytes.proofs.Parts.{step_at_lem, step_in_lem}

-- with r + 1 steps of our own open, and e around them, the tokens go on to the close of the outermost of ours
pub record Closing (ts : List ℕ) (r : ℕ) : Type 0 where
  pub inside : List ℕ
  pub close : ℕ
  pub behind : List ℕ
  pub tokens : ts ≡ inside ++ (close ∷ behind)
  pub ends : step_length (suc r) ts ≡ some (suc (length inside))
  pub balanced : Nested r inside
  pub closes : kind close ≡ 2
  pub pends : (q : ℕ) → (b : CloseName) × (get_elem? (pending (tokens_of ts) q) r ≡ some (b, q + length inside))

rest_at : (l : Closes) (r : ℕ) → get_elem? (rest l) r ≡ get_elem? l (suc r)
rest_at [] r = refl
rest_at (d ∷ l) r = refl

-- what the token t, which stands inside, makes of the pending closes behind it: number d of them is number r with it
abbrev Kept : Token → ℕ → ℕ → Type 0
Kept x r d = (q : ℕ) (l : Closes) → get_elem? (pending_over x q l) r ≡ get_elem? l d

module _ (t : ℕ) (ts : List ℕ) (r : ℕ) where
  goes_on : (d : ℕ) → depth_after t (suc r) ≡ suc d → step_length (suc r) (t ∷ ts) ≡ later (step_length (suc d) ts)
  unfolding step_length
  goes_on d e = rw (e, ne_eqb (suc d) 0 (omega arith))

  onward : (x : Token) → token_of t ≡ x → (d : ℕ) (c : Closing ts d) → depth_after t (suc r) ≡ suc d → Nested r (t ∷ c.inside) → Kept x r d → Closing (t ∷ ts) r
  unfolding pending
  onward x is d c step nest kept = record {
    inside = t ∷ c.inside;
    close = c.close;
    behind = c.behind;
    tokens = ap (λ (l : List ℕ). t ∷ l) c.tokens;
    ends = goes_on d step ∙ ap later c.ends;
    balanced = nest;
    closes = c.closes;
    pends =
        λ q.
        let f = c.pends (suc q) in
        let l = pending (tokens_of ts) (suc q) in
        let n : suc q + length c.inside ≡ q + suc (length c.inside) = omega arith in
        (f.0, ap (λ (y : Token). get_elem? (pending_over y q l) r) is ∙ (kept q l ∙ (f.1 ∙ ap (λ (m : ℕ). some (f.0, m)) n)));
  }

  over : (x : Token) → token_of t ≡ x → (b : CloseName) → x ≡ Token.Close b → r ≡ 0 → kind t ≡ 2 → Closing (t ∷ ts) r
  unfolding step_length pending
  over x is b c z e = record {
    inside = [];
    close = t;
    behind = ts;
    tokens = refl;
    ends = rw (z, depth_close t 1 e);
    balanced = z;
    closes = e;
    pends =
        λ q.
        let l = pending (tokens_of ts) (suc q) in
        let n : q ≡ q + 0 = omega arith in
        (b, ap (λ (y : Token). get_elem? (pending_over y q l) r) (is ∙ c) ∙ (ap (λ (m : ℕ). get_elem? ((b, q) ∷ l) m) z ∙ ap (λ (m : ℕ). some (b, m)) n));
  }

pub closing : (ts : List ℕ) (r e : ℕ) → Nested (suc r + e) ts → ((t : ℕ) → Memᴰ t ts → TokenNumber t) → Closing ts r
closing [] r e h k = absurd (omega (arith, h))
closing (t ∷ ts) r e h k =
    go (λ d n. closing ts d e n (λ u m. k u (Memᴰ.tail m))) (token_of t) (shape t (k t (Memᴰ.head refl)).kinds) refl
  where
    further : ((d : ℕ) → Nested (suc d + e) ts → Closing ts d) → (d : ℕ) → depth_after t (suc r + e) ≡ suc d + e → Closing ts d
    further on d q = on d (rw (← q) h.2)

    go : ((d : ℕ) → Nested (suc d + e) ts → Closing ts d) → (x : Token) → Shape t x → token_of t ≡ x → Closing (t ∷ ts) r
    go on x (is_mark z) is =
        let c = further on r (depth_mark t (suc r + e) z) in
        onward t ts r x is r c (depth_mark t (suc r) z)
        (λ two. absurd (omega (arith, z, two)), λ one. absurd (omega (arith, z, one)), rw (depth_mark t r z) c.balanced) (λ q l. refl)
    go on x (is_open z) is =
        let c = further on (suc r) (depth_open t (suc r + e) z ∙ omega arith) in
        let deeper : depth_after t r ≡ suc r = depth_open t r z ∙ add-one r in
        onward t ts r x is (suc r) c (depth_open t (suc r) z ∙ add-one (suc r))
        (λ two. absurd (omega (arith, z, two)), λ one. omega (arith, h.1 z), rw deeper c.balanced) (λ q l. rest_at l r)
    go on x (is_close {b} z) is = closes r refl
      where
        closes : (n : ℕ) → r ≡ n → Closing (t ∷ ts) r
        closes zero z₀ = over t ts r x is b refl z₀ z
        closes (suc d) z₀ =
            let c = further on d (depth_close t (suc r + e) z ∙ omega arith) in
            let out : depth_after t r ≡ d = depth_close t r z ∙ omega arith in
            onward t ts r x is d c (depth_close t (suc r) z ∙ omega arith)
            (λ two. omega arith, λ one. absurd (omega (arith, z, one)), rw out c.balanced) (λ q l. ap (λ (m : ℕ). get_elem? ((b, q) ∷ l) m) z₀)

-- ── a step of a history that has passed ──

-- the tokens of a step, and where its close stands
pub record StepTokens (ts : List ℕ) (p : ℕ) (us : List ℕ) : Type 0 where
  pub opening : ℕ
  pub inside : List ℕ
  pub close : ℕ
  pub tokens : us ≡ opening ∷ (inside ++ (close ∷ []))
  pub opens : kind opening ≡ 1
  pub balanced : Nested 0 inside
  pub closes : kind close ≡ 2
  pub here : take (length us) (drop p ts) ≡ us
  pub matches : close_of (pending_at (tokens_of ts) (suc p)) (length ts) ≡ suc p + length inside

nested_drop : (ts : List ℕ) (depth p : ℕ) → Nested depth ts → p < length ts → (d : ℕ) × Nested d (drop p ts)
nested_drop [] depth p h l = absurd (omega arith)
nested_drop (t ∷ ts) depth zero h l = (depth, h)
nested_drop (t ∷ ts) depth (suc p) h l = nested_drop ts (depth_after t depth) p h.2 (omega arith)

tokens_drop : (ts : List ℕ) (p : ℕ) → drop p (tokens_of ts) ≡ tokens_of (drop p ts)
tokens_drop ts zero = refl
tokens_drop [] (suc p) = refl
tokens_drop (t ∷ ts) (suc p) = tokens_drop ts p

member_drop : (ts : List ℕ) (p x : ℕ) → Memᴰ x (drop p ts) → Memᴰ x ts
member_drop ts zero x m = m
member_drop [] (suc p) x m = m
member_drop (t ∷ ts) (suc p) x m = Memᴰ.tail (member_drop ts p x m)

first-pending : (l : Closes) (n q : ℕ) (b : CloseName) → get_elem? l 0 ≡ some (b, q) → close_of l n ≡ q
first-pending [] n q b e = absurd (let z : ◌≡◌ {A = ℕ} 0 1 = cc in omega arith)
first-pending (d ∷ l) n q b e = let z : d ≡ (b, q) = some-injective d (b, q) e in ap (λ (x : CloseName × ℕ). x.1) z

-- an open stands at position p
abbrev pub OpenAt : List ℕ → ℕ → Type 0
OpenAt ts p = (p < length ts) × (kind (get_or ts p 0) ≡ 1)

module _ (ts : List ℕ) (w : Wellformed ts) (p : ℕ) (inside_of : p < length ts) (is-open-here : kind (get_or ts p 0) ≡ 1) where
  abbrev t : ℕ
  t = get_or ts p 0

  abbrev v : List ℕ
  v = drop (suc p) ts

  at_open : drop p ts ≡ t ∷ v
  at_open = drop-cons ts p 0 inside_of

  found : Closing v 0
  found =
      let n = nested_drop ts 0 p w.nested inside_of in
      let m : Nested n.0 (t ∷ v) = rw at_open at n.1 in
      let deeper : depth_after t n.0 ≡ suc 0 + n.0 = depth_open t n.0 is-open-here ∙ omega arith in
      closing v 0 n.0 (rw (← deeper) m.2) (λ x y. w.tokens x (member_drop ts (suc p) x y))

  -- the open, its inside and its close
  abbrev step : List ℕ
  step = t ∷ (found.inside ++ (found.close ∷ []))

  length_is : step_length 0 (drop p ts) ≡ some (length step)
  unfolding step_length
  length_is =
      let deeper : depth_after t 0 ≡ 1 = depth_open t 0 is-open-here in
      let n : suc (suc (length found.inside)) ≡ length step = rw (length-append) (omega arith) in
      ap (step_length 0) at_open ∙ (rw (deeper, found.ends, ap some n))

  step_is : take (length step) (drop p ts) ≡ step
  step_is =
      let e : drop p ts ≡ step ++ found.behind = at_open ∙ ap (λ (l : List ℕ). t ∷ l) (found.tokens ∙ sym (append_assoc found.inside (found.close ∷ []) found.behind)) in
      ap (take (length step)) e ∙ take-append_seam step found.behind

  open_step : step_in ts p ≡ part (length (written (length ts ∷ take p ts))) step
  open_step =
      step_at_open ts p (rw (lt-ltb p (length ts) inside_of, eq-eqb (kind t) 1 is-open-here))
      ∙ (ap (part_from ts p) length_is ∙ ap (part (length (written (length ts ∷ take p ts)))) step_is)

  open_tokens : StepTokens ts p step
  open_tokens =
      let f = found.pends (suc p) in
      record {
        opening = t;
        inside = found.inside;
        close = found.close;
        tokens = refl;
        opens = is-open-here;
        balanced = found.balanced;
        closes = found.closes;
        here = step_is;
        matches = ap (λ (x : List Token). close_of (pending x (suc p)) (length ts)) (tokens_drop ts (suc p)) ∙ first-pending (pending (tokens_of v) (suc p)) (length ts) (suc p + length found.inside) f.0 f.1;
      }

-- ── of the bytes of a file ──

apart : {start k : ℕ} {us : List ℕ} → part start us ≡ refused k → ⊥
apart e = let z : ◌≡◌ {A = ℕ} 0 1 = cc in omega arith

open_is : (ts : List ℕ) (p : ℕ) → open_at ts p ≡ true → OpenAt ts p
open_is ts p e = (open_inside ts p e, go (ltb p (length ts)) (eqb (kind (get_or ts p 0)) 1) refl e)
  where
    go : (a b : Bool) → eqb (kind (get_or ts p 0)) 1 ≡ b → (a && b) ≡ true → kind (get_or ts p 0) ≡ 1
    go true true q e = eqb-true (kind (get_or ts p 0)) 1 q
    go true false q e = absurd (let z : ◌≡◌ {A = ℕ} 0 1 = cc in omega arith)
    go false b q e = absurd (let z : ◌≡◌ {A = ℕ} 0 1 = cc in omega arith)

not_open : (ts : List ℕ) (p : ℕ) → (OpenAt ts p → ⊥) → open_at ts p ≡ false
not_open ts p h = go (open_at ts p) refl
  where
    go : (b : Bool) → open_at ts p ≡ b → open_at ts p ≡ false
    go true q = absurd (h (open_is ts p q))
    go false q = q

-- the part that was found: in front of it stand the count and the tokens before position p, and it is the step of the open there
pub record StepFound (s : List ℕ) (p start : ℕ) (us : List ℕ) : Type 0 where
  pub tokens : List ℕ
  pub is : history_of s ≡ HistoryFile.accepted tokens
  pub starts : start ≡ length (written (length tokens ∷ take p tokens))
  pub step : StepTokens tokens p us

pub step_tokens : (s : List ℕ) (p start : ℕ) (us : List ℕ) → step_of s p ≡ part start us → StepFound s p start us
step_tokens s p start us e =
    let i = step_in_lem s p start us e in
    let ts = i.tokens in
    let w = history_wellformed (bytes s) ts i.is in
    let o = open_is ts p i.step.opens in
    let n = some-injective i.step.count (length (step ts w p o.0 o.1)) (sym i.step.ends ∙ length_is ts w p o.0 o.1) in
    let same : us ≡ step ts w p o.0 o.1 = i.step.tokens ∙ (ap (λ (k : ℕ). take k (drop p ts)) n ∙ step_is ts w p o.0 o.1) in
    record { tokens = ts; is = i.is; starts = i.step.starts; step = subst (λ (l : List ℕ). StepTokens ts p l) (sym same) (open_tokens ts w p o.0 o.1) }

module _ (s ts : List ℕ) (is : history_of s ≡ HistoryFile.accepted ts) (p : ℕ) where
  at : step_of s p ≡ step_in ts p
  at = ap (λ (f : HistoryFile). step_from f p) is

  -- there is a part exactly where an open stands at the position
  pub step_exists : ((start : ℕ) × (us : List ℕ) × (step_of s p ≡ part start us)) ↔ OpenAt ts p
  step_exists = (
    λ (start, us, e). open_is ts p (step_at_lem ts p start us (sym at ∙ e)).opens,
    λ (l, k). (_, _, at ∙ open_step ts (history_wellformed (bytes s) ts is) p l k),
  )

  -- 17: "when the position is not that of an open", and at no other
  pub seventeen : (step_of s p ≡ refused 17) ↔ (OpenAt ts p → ⊥)
  seventeen = (
    λ e (l, k). apart (sym (at ∙ open_step ts (history_wellformed (bytes s) ts is) p l k) ∙ e),
    λ none. at ∙ no_step ts p (not_open ts p none),
  )
