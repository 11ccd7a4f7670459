-- One step of the passes over the positions: the matching closes, and what stands at a position.
use Prim.Native.Nat.{ℕ, zero, suc, ◌+◌, ◌*◌, ◌-◌, ◌/◌, ◌<◌, ◌≤◌}
use native.Mathlib.Nat.{le_of_suc-le-suc, not-suc-le-zero, eq-or-lt_of_le}
use native.Mathlib.Omega.{arith}
use mathlib.Core.Path.{◌≡◌, refl, sym, ◌∙◌, ap}
use mathlib.Core.Logic.{⊎_elim}
use mathlib.Core.Bool.{Bool, true, false, cond, ◌&&◌, and-false, and_comm}
use mathlib.Core.List.{List, [], ◌∷◌, map, Memᴰ}
use borrow.Author.Tests.{leb-false, lt-leb, lt-ltb, le-ltb}
use lib.Dec.{eqb, leb}
use lib.ListN.{length, drop, get_or, set, drop_of_length-le, length-map}
use lib.Seq.{get_or-set_same, get_or-set_other}
use Rattle.laws.specs.Any.{any}
use Rattle.laws.proofs.Any.{any_snoc}
use Rattle.laws.proofs.Lists.{heads}
use Rattle.bits.specs.Bit.{bit}
use Rattle.bits.proofs.Bits.{bit-zero, joined_low, joined_high}
use Rattle.vpg.specs.declared.CloseName.{CloseName}
use Rattle.vpg.specs.declared.Rule.{Rule}
use Rattle.vpg.specs.declared.Token.{Token}
use Rattle.vpg.specs.believed.Grammar.{Rules, left}
use Rattle.level_theory.specs.Masks.{Nonterminals, floor, onto, behind, alone, stands, masks}
use Rattle.vpg.specs.Tests.{same_token}
use Rattle.level_theory.specs.Pending.{Closes, rest, pending, pending_at, close_of}
use Rattle.level_theory.specs.Walk.{test_at}
use Rattle.level_theory.proofs.Walk.{level_test}
use Rattle.level_theory.proofs.Pending.{pending-from, pending_next, pending_close, pending-rest, masks-outer}
use Rattle.contexts.specs.declared.Context.{Context}
use Rattle.contexts.proofs.NumberedKinds.{numbered_token, numbered_end}
use Rattle.contexts.specs.Context.{code, applies_to, end_context, level_in}
use Rattle.contexts.proofs.Contexts.{level-bit}
use Rattle.contexts.proofs.Ends.{level-ends}
use Rattle.tables.specs.declared.Head.{Head}
use Rattle.tables.specs.declared.Table.{Table}
use Rattle.tables.specs.Table.{rule_in, rules_in}
use Rattle.tables.specs.Ready.{Below, rules_of}
use Rattle.rule_index.specs.Goals.{goal}
use Rattle.rule_index.specs.Index.{Indexed, ends_in}
use Rattle.history_file.specs.believed.HistoryFile.{kind, token_with, token_of, tokens_of}
use Rattle.levels.specs.Levels.{kind_of, next_top, Matched, Leveled, Stands, floor_of}

-- ── tokens and their numbers ──

pub tokens_length : (ts : List ℕ) → length (tokens_of ts) ≡ length ts
tokens_length ts = length-map ts token_of

pub tokens_at : (ts : List ℕ) (p : ℕ) → p < length ts → drop p (tokens_of ts) ≡ token_of (get_or ts p 0) ∷ drop (suc p) (tokens_of ts)
tokens_at [] p h = absurd (not-suc-le-zero h)
tokens_at (t ∷ ts) zero h = refl
tokens_at (t ∷ ts) (suc p) h = tokens_at ts p (le_of_suc-le-suc h)

close_of_lem : (t : ℕ) (b : CloseName) → token_of t ≡ Token.Close b → b.0 ≡ t / 4
unfolding token_of token_with
close_of_lem t b h = go (eqb (kind t) 0) (eqb (kind t) 1) h
  where
    go : (x y : Bool) → cond x (Token.Mark (record { 0 = t / 4 })) (cond y (Token.Open (record { 0 = t / 4 })) (Token.Close (record { 0 = t / 4 }))) ≡ Token.Close b → b.0 ≡ t / 4
    go true y e = absurd (let z : ◌≡◌ {A = ℕ} 0 1 = cc in omega arith)
    go false true e = absurd (let z : ◌≡◌ {A = ℕ} 0 1 = cc in omega arith)
    go false false e = let z : record { 0 = t / 4 } ≡ b = named e in sym (ap (λ (x : CloseName). x.0) z)
      where
        named : {x y : CloseName} → Token.Close x ≡ Token.Close y → x ≡ y
        named q = cc

-- the kind of a token: its number makes the same token, and none is that of the end
pub kind_token : (t : ℕ) → token_with (code (kind_of t)) (t / 4) ≡ token_of t
unfolding token_of
kind_token t = numbered_token (kind t) (t / 4)

pub kind_near : (t : ℕ) → code (kind_of t) < 4
kind_near t = leb-false 4 (code (kind_of t)) (numbered_end (kind t) ∙ lt-leb 4 (kind t) (omega arith))

-- ── matching closes ──

pub pending_end : (w : List Token) (p : ℕ) → length w ≤ p → pending_at w p ≡ []
unfolding pending
pending_end w p h = rw (drop_of_length-le w h)

drop-some : {A : Type 0} (w : List A) (p : ℕ) {t : A} {v : List A} → drop p w ≡ t ∷ v → p < length w
drop-some [] zero e = absurd (let z : ◌≡◌ {A = ℕ} 0 1 = cc in omega arith)
drop-some [] (suc p) e = absurd (let z : ◌≡◌ {A = ℕ} 0 1 = cc in omega arith)
drop-some (x ∷ w) zero e = omega arith
drop-some (x ∷ w) (suc p) e = omega (arith, drop-some w p e)

pub close_below : (w : List Token) (p : ℕ) (d : CloseName × ℕ) → Memᴰ d (pending_at w p) → d.1 < length w
close_below w p d m = drop-some w d.1 (pending_close w p d m).at

pub close_most : (w : List Token) (p : ℕ) → close_of (pending_at w p) (length w) ≤ length w
close_most w p = go (pending_at w p) refl
  where
    go : (l : Closes) → pending_at w p ≡ l → close_of l (length w) ≤ length w
    go [] e = omega arith
    go (d ∷ l) e = omega (arith, close_below w p d (rw e (Memᴰ.head refl)))

pub close_from : (w : List Token) (p : ℕ) → p ≤ length w → p ≤ close_of (pending_at w p) (length w)
close_from w p h = go (pending_at w p) refl
  where
    go : (l : Closes) → pending_at w p ≡ l → p ≤ close_of l (length w)
    go [] e = h
    go (d ∷ l) e = pending-from (drop p w) p d (rw e (Memᴰ.head refl))

-- the first pending close from a token on
pub top_next : (w : List Token) (i : ℕ) (t : Token) (v : List Token) (top beyond : ℕ) → drop i w ≡ t ∷ v → top ≡ close_of (pending_at w (suc i)) (length w) →
    beyond ≡ close_of (pending_at w (suc top)) (length w) → next_top t i top beyond ≡ close_of (pending_at w i) (length w)
top_next w i (Token.Mark c) v top beyond e p q = p ∙ rw (pending_next w i e)
top_next w i (Token.Close b) v top beyond e p q = rw (pending_next w i e)
top_next w i (Token.Open a) v top beyond e p q = rw (pending_next w i e) (go (pending_at w (suc i)) refl)
  where
    go : (l : Closes) → pending_at w (suc i) ≡ l → beyond ≡ close_of (rest l) (length w)
    go [] f =
        let k : top ≡ length w = rw f at p in
        q ∙ rw (k, pending_end w (suc (length w)) (omega arith))
    go (d ∷ l) f =
        let k : top ≡ d.1 = rw f at p in
        q ∙ rw (k, pending-rest w (suc i) d l f)

-- ── what stands at a position ──

-- the same nonterminals behind the token and behind the close: the same rules can stand
same-stands : {x y : Bool → Nonterminals} {after after' : Bool → CloseName → Nonterminals} {low low' : Bool} (t : Token) → low ≡ low' → ((k : Bool) (L : ℕ) → L < 32 → x k L ≡ y k L) →
    ((k : Bool) (c : CloseName) (L : ℕ) → L < 32 → after k c L ≡ after' k c L) → (R : Rule) → Below 32 R → stands low x after t R ≡ stands low' y after' t R
same-stands t e h k (Rule.Empty M) b = rw e
same-stands {low'} t e h k (Rule.Next M i M₁) b = rw (e, h low' M₁ b.1)
same-stands {low'} t e h k (Rule.Step M a M₁ c M₂) b = rw (e, h true M₁ b.1, k low' c M₂ b.2)

pub stands_end : (W : ℕ) (w : List Token) (mask : List ℕ) (p : ℕ) → p ≡ length w → Stands W w mask p (end_context p)
unfolding test_at token_with
stands_end W w mask p h = record { position = refl; closing = rw (pending_end w (suc p) (omega arith)) h; rules = λ g l R b. ends g R }
  where
    over : length w ≤ p
    over = omega arith

    ends : (g : Rules) (R : Rule) → applies_to W R (end_context p) ≡ test_at W g (drop p w) R
    ends g (Rule.Empty M) = rw (drop_of_length-le w over)
    ends g (Rule.Next M i M₁) = rw (drop_of_length-le w over, bit-zero (goal true M₁)) (and_none (same_token i (Token.Close (record { 0 = 0 }))) (alone i true))
      where
        and_none : (a b : Bool) → (a && (b && false)) ≡ false
        and_none true true = refl
        and_none true false = refl
        and_none false b = refl
    ends g (Rule.Step M a M₁ b M₂) = rw (drop_of_length-le w over)

-- the first nonterminal that derives all that is left, from position p on
pub floor-pending : (W : ℕ) (ts : List ℕ) (g : Rules) (p : ℕ) → floor_of (close_of (pending_at (tokens_of ts) p) (length (tokens_of ts))) (length ts) W ≡ floor W (masks W g (drop p (tokens_of ts))).1
floor-pending W ts g p = rw (masks-outer W g (tokens_of ts) p) (go (pending_at (tokens_of ts) p) refl)
  where
    go : (q : Closes) → pending_at (tokens_of ts) p ≡ q → floor_of (close_of q (length (tokens_of ts))) (length ts) W ≡ floor {A = CloseName × Nonterminals} W (map (λ d. (d.0, (masks W g (drop (suc d.1) (tokens_of ts))).0)) q)
    go [] e = rw (tokens_length ts, le-ltb (length ts) (length ts) (omega arith))
    go (d ∷ q) e = rw (lt-ltb d.1 (length ts) (omega (arith, tokens_length ts, close_below (tokens_of ts) p d (rw e (Memᴰ.head refl)))))

module _ (W : ℕ) (ts mask : List ℕ) (p : ℕ) (here : p < length ts) where
  abbrev T : List Token
  T = tokens_of ts

  abbrev Closing : ℕ
  Closing = close_of (pending_at T (suc p)) (length T)

  -- the context with the close b, and y as the word behind it
  abbrev Here : CloseName → ℕ → Context
  Here b y = record { position = p; closing = Closing; kind = kind_of (get_or ts p 0); name = get_or ts p 0 / 4; inside = get_or mask (suc p) 0; close = b; after = y }

  -- where what follows the close is right
  stands-with : (b : CloseName) (y : ℕ) →
      ((g : Rules) → Leveled W g T mask (suc p) → (k : Bool) (c : CloseName) (L : ℕ) → L < 32 → (eqb c.0 b.0 && bit y (goal k L)) ≡ behind k W (masks W g (drop (suc p) T)).1 c L) →
      Stands W T mask p (Here b y)
  unfolding test_at token_of
  stands-with b y k = record { position = refl; closing = refl; rules = right }
    where
      right : (g : Rules) → Leveled W g T mask (suc p) → (R : Rule) → Below 32 R → applies_to W R (Here b y) ≡ test_at W g (drop p T) R
      right g l R small =
          rw (tokens_at ts p here, kind_token (get_or ts p 0))
          (same-stands (token_of (get_or ts p 0)) (rw (lt-leb 4 (code (kind_of (get_or ts p 0))) (kind_near (get_or ts p 0)))) (λ low L m. l (suc p) (omega arith) (rw tokens_length here) L m low) (k g l) R small)

  pub stands-closed : (b : CloseName) → Closing < length ts → b.0 ≡ get_or ts Closing 0 / 4 → Stands W T mask p (Here b (get_or mask (suc Closing) 0))
  stands-closed b h e = stands-with b (get_or mask (suc Closing) 0) (λ g l k c L m. rw (masks-outer W g T (suc p)) (go g l (pending_at T (suc p)) refl k c L m))
    where
      go : (g : Rules) → Leveled W g T mask (suc p) → (q : Closes) → pending_at T (suc p) ≡ q → (k : Bool) (c : CloseName) (L : ℕ) → L < 32 →
          (eqb c.0 b.0 && bit (get_or mask (suc Closing) 0) (goal k L)) ≡ behind k W (map (λ d. (d.0, (masks W g (drop (suc d.1) T)).0)) q) c L
      go g l [] f k c L m = absurd (let z : Closing ≡ length T = rw f in omega (arith, tokens_length ts))
      go g l (d ∷ q) f k c L m =
          let z : Closing ≡ d.1 = rw f in
          let i = pending_close T (suc p) d (rw f (Memᴰ.head refl)) in
          let n : d.0.0 ≡ get_or ts d.1 0 / 4 = close_of_lem (get_or ts d.1 0) d.0 (heads (sym (tokens_at ts d.1 (rw z at h)) ∙ i.at)) in
          let n' : b.0 ≡ d.0.0 = e ∙ rw z (sym n) in
          let v : floor W (masks W g (drop (suc d.1) T)).1 ≡ floor {A = CloseName × Nonterminals} W (map (λ d. (d.0, (masks W g (drop (suc d.1) T)).0)) q) =
          ap (floor {A = CloseName × Nonterminals} W) (masks-outer W g T (suc d.1) ∙ ap (map (λ (d : CloseName × ℕ). (d.0, (masks W g (drop (suc d.1) T)).0))) (sym (pending-rest T (suc p) d q f))) in
          rw (n', z, ← v) (ap (λ (x : Bool). eqb c.0 d.0.0 && x) (l (suc d.1) (after f) (close_below T (suc p) d (rw f (Memᴰ.head refl))) L m k))
        where
          after : pending_at T (suc p) ≡ d ∷ q → suc p ≤ suc d.1
          after f = omega (arith, pending-from (drop (suc p) T) (suc p) d (rw f (Memᴰ.head refl)))

  pub stands_open : (b : CloseName) → length ts ≤ Closing → Stands W T mask p (Here b 0)
  stands_open b h = stands-with b 0 (λ g l k c L m. rw (masks-outer W g T (suc p)) (go g (pending_at T (suc p)) refl k c L))
    where
      go : (g : Rules) (q : Closes) → pending_at T (suc p) ≡ q → (k : Bool) (c : CloseName) (L : ℕ) → (eqb c.0 b.0 && bit 0 (goal k L)) ≡ behind k W (map (λ d. (d.0, (masks W g (drop (suc d.1) T)).0)) q) c L
      go g [] f k c L = rw (bit-zero (goal k L)) (and-false (eqb c.0 b.0))
      go g (d ∷ q) f k c L = absurd (let z : Closing ≡ d.1 = rw f in let k = close_below T (suc p) d (rw f (Memᴰ.head refl)) in omega (arith, tokens_length ts))

-- ── one turn of each pass ──

module _ (ts : List ℕ) where
  abbrev Words : List Token
  Words = tokens_of ts

  pub matched_end : (m : List ℕ) → length ts < length m → Matched Words (set m (length ts) (length ts)) (length ts)
  matched_end m h k p q =
      let e : k ≡ length ts = omega (arith, tokens_length ts) in
      rw (e, get_or-set_same m (length ts) (length ts) 0 h, pending_end Words (suc (length ts)) (rw tokens_length (omega arith)), tokens_length)

  pub top_end : length ts ≡ close_of (pending_at Words (length ts)) (length Words)
  top_end = rw (pending_end Words (length ts) (rw tokens_length (omega arith)), tokens_length)

  pub top_turn : (m : List ℕ) (i top : ℕ) → 0 < i → i ≤ length ts → top ≡ close_of (pending_at Words i) (length Words) → Matched Words m i →
      next_top (token_of (get_or ts (i - 1) 0)) (i - 1) top (get_or m top 0) ≡ close_of (pending_at Words (i - 1)) (length Words)
  top_turn m zero top pos h p q = absurd (omega arith)
  top_turn m (suc i) top pos h p q =
      let e : suc i - 1 ≡ i = omega arith in
      rw e (top_next Words i (token_of (get_or ts i 0)) (drop (suc i) Words) top (get_or m top 0) (tokens_at ts i h) p (q top from (rw p (close_most Words (suc i)))))
    where
      from : suc i ≤ top
      from = rw p (close_from Words (suc i) (rw tokens_length h))

  pub matched_turn : (m : List ℕ) (i top : ℕ) → 0 < i → i ≤ length ts → length ts < length m → top ≡ close_of (pending_at Words i) (length Words) → Matched Words m i →
      Matched Words (set m (i - 1) top) (i - 1)
  matched_turn m zero top pos h r p q = absurd (omega arith)
  matched_turn m (suc i) top pos h r p q = let e : suc i - 1 ≡ i = omega arith in rw e (λ k f l. ⊎_elim (now k) (then k l) (eq-or-lt_of_le f))
    where
      now : (k : ℕ) → i ≡ k → get_or (set m i top) k 0 ≡ close_of (pending_at Words (suc k)) (length Words)
      now k e = rw (← e, get_or-set_same m i top 0 (omega arith)) p

      then : (k : ℕ) → k ≤ length Words → i < k → get_or (set m i top) k 0 ≡ close_of (pending_at Words (suc k)) (length Words)
      then k l f = rw (get_or-set_other m i k top 0 (λ e. omega arith)) (q k f l)

-- ── words ──

onto_same : (low : Bool) (n : ℕ) (x y : Nonterminals) (L : ℕ) → x L ≡ y L → onto low n x L ≡ onto low n y L
onto_same true n x y L e = e
onto_same false n x y L e = ap (λ (b : Bool). b && leb n L) e

-- two sets in one word: the second has the members of the first from n on
pub word-joined : (set high n : ℕ) → set < 4294967296 → ((L : ℕ) → bit high L ≡ (leb n L && bit set L)) → (L : ℕ) → L < 32 → (low : Bool) → bit (set + high * 4294967296) (goal low L) ≡ onto low n (bit set) L
word-joined set high n h e L l true = joined_low 32 set high L l
word-joined set high n h e L l false = joined_high 32 set high L h ∙ e L ∙ and_comm (leb n L) (bit set L)

-- tests that agree on the first n rules of a table
pub any_like : (t : Table) (f h : Rule → Bool) (n : ℕ) → ((r : ℕ) → r < n → f (rule_in t r) ≡ h (rule_in t r)) → any f (rules_in t n) ≡ any h (rules_in t n)
unfolding rules_in
any_like t f h zero e = refl
any_like t f h (suc n) e = any_snoc f (rules_in t n) (rule_in t n) ∙ rw (any_like t f h n (λ r l. e r (omega arith)), e n (omega arith)) (sym (any_snoc h (rules_in t n) (rule_in t n)))

module _ (t : Table) (head : Head) (x : Indexed t head) (ts : List ℕ) where
  abbrev G : Rules
  G = rules_of t head

  abbrev U : ℕ
  U = head.well

  abbrev T₀ : List Token
  T₀ = tokens_of ts

  -- the word of a set, where k is the first pending close
  abbrev WordOf : ℕ → ℕ → ℕ → Type 0
  WordOf v set k = (L : ℕ) → L < 32 → (low : Bool) → bit v (goal low L) ≡ onto low (floor_of k (length ts) U) (bit set) L

  -- the nonterminals of the rules that can stand at a position derive what is ahead
  pub level_says : (mask : List ℕ) (i : ℕ) (context : Context) → Stands U T₀ mask i context → Leveled U G T₀ mask (suc i) → (L : ℕ) → bit (level_in U t context head.rules) L ≡ (masks U G (drop i T₀)).0 L
  level_says mask i context s l L =
      level-bit U t context head.rules L
      ∙ any_like t (λ R. eqb (left R) L && applies_to U R context) (λ R. eqb (left R) L && test_at U G (drop i T₀) R) head.rules
      (λ r m. ap (λ (b : Bool). eqb (left (rule_in t r)) L && b) (s.rules G l (rule_in t r) (x.ready.small r m)))
      ∙ level_test U G (drop i T₀) L

  -- what the word has to say
  abbrev Says : ℕ → ℕ → Type 0
  Says v i = (L : ℕ) → L < 32 → (low : Bool) → bit v (goal low L) ≡ onto low (floor U (masks U G (drop i T₀)).1) (masks U G (drop i T₀)).0 L

  word_says : (set v k i : ℕ) → k ≡ close_of (pending_at T₀ i) (length T₀) → WordOf v set k →
      ((L : ℕ) → bit set L ≡ (masks U G (drop i T₀)).0 L) → Says v i
  word_says set v k i e w s L l low = w L l low ∙ rw (e, floor-pending U ts G i) (onto_same low (floor U (masks U G (drop i T₀)).1) (bit set) (masks U G (drop i T₀)).0 L (s L))

  word-turn : (mask : List ℕ) (i v : ℕ) → 0 < i → i ≤ length mask → Leveled U G T₀ mask i → Says v (i - 1) → Leveled U G T₀ (set mask (i - 1) v) (i - 1)
  word-turn mask zero v pos h l e = absurd (omega arith)
  word-turn mask (suc i) v pos h l e = let q : suc i - 1 ≡ i = omega arith in rw q (λ k f r. ⊎_elim (now k) (then k r) (eq-or-lt_of_le f))
    where
      q : suc i - 1 ≡ i
      q = omega arith

      now : (k : ℕ) → i ≡ k → Says (get_or (set mask i v) k 0) k
      now k f = rw (← f, get_or-set_same mask i v 0 h) (rw q at e)

      then : (k : ℕ) → k ≤ length T₀ → i < k → Says (get_or (set mask i v) k 0) k
      then k r f = rw (get_or-set_other mask i k v 0 (λ e. omega arith)) (l k f r)

  -- at the end the nonterminals that have an empty rule
  pub leveled_end : (mask : List ℕ) (v : ℕ) → length ts < length mask → WordOf v (ends_in t) (length ts) → Leveled U G T₀ (set mask (length ts) v) (length ts)
  leveled_end mask v h w k f r =
      let e : k ≡ length ts = omega (arith, tokens_length ts) in
      rw (e, get_or-set_same mask (length ts) v 0 h)
      (word_says (ends_in t) v (length ts) (length ts) (top_end ts) w
      (λ L. ap (λ (m : ℕ). bit m L) (sym (level-ends U t head (end_context (length ts)) x (omega arith))) ∙ level_says mask (length ts) (end_context (length ts)) (stands_end U T₀ mask (length ts) (sym (tokens_length ts))) beyond L))
    where
      beyond : Leveled U G T₀ mask (suc (length ts))
      beyond k f r = absurd (omega (arith, tokens_length ts))

  pub leveled_turn : (mask : List ℕ) (i : ℕ) (context : Context) (top v : ℕ) → 0 < i → i ≤ length mask → Leveled U G T₀ mask i → Stands U T₀ mask (i - 1) context →
      top ≡ close_of (pending_at T₀ (i - 1)) (length T₀) → WordOf v (level_in U t context head.rules) top → Leveled U G T₀ (set mask (i - 1) v) (i - 1)
  leveled_turn mask i context top v pos h l s e w =
      let q : suc (i - 1) ≡ i = omega arith in
      word-turn mask i v pos h l (word_says (level_in U t context head.rules) v top (i - 1) e w (level_says mask (i - 1) context s (rw q l)))
