-- What is computed on words is the derivative of the state that the words are (Definition 4.2 of the paper).
use Prim.Native.Nat.{ℕ, ◌<◌}
use mathlib.Core.Path.{◌≡◌, refl, sym, ◌∙◌, ap}
use mathlib.Core.Bool.{Bool, true, false, cond, ◌&&◌, ◌||◌, false≢true, and-true, and-false, or-true, or-false}
use mathlib.Core.List.{List, [], ◌∷◌}
use borrow.Author.Tests.{eqb-true, eq-eqb}
use lib.Dec.{eqb}
use lib.ListN.{length, get_or, set, replicate, length-replicate, get_or-replicate}
use lib.Seq.{get_or-set_same, get_or-set_other}
use Rattle.laws.specs.Any.{any, any_below}
use Rattle.laws.proofs.Any.{below_same}
use Rattle.laws.proofs.Bools.{both, and_left, and_right, or_comm, same_test}
use Rattle.bits.specs.Bit.{bit, add_bit}
use Rattle.bits.proofs.Bits.{bit-zero, bit-add}
use Rattle.vpg.specs.declared.OpenName.{OpenName}
use Rattle.vpg.specs.declared.CloseName.{CloseName}
use Rattle.vpg.specs.declared.Rule.{Rule}
use Rattle.vpg.specs.declared.Token.{Token}
use Rattle.vpg.specs.Tests.{is_open, same_token}
use Rattle.vpg.specs.believed.Grammar.{Grammar}
use Rattle.pair_theory.specs.Pairs.{PairState, single, next_to, over_next, open_to, over_open, finished, close_to, over_close, over_return, derivative}
use Rattle.tables.specs.declared.Head.{Head}
use Rattle.tables.specs.declared.Table.{Table}
use Rattle.tables.specs.Ready.{Below}
use Rattle.tables.specs.Table.{rule_in, rules_in}
use Rattle.rule_index.specs.Index.{Indexed, ends_in}
use Rattle.pair_words.specs.Words.{Gives, gives_at, gives_behind, words_by}
use Rattle.pair_words.proofs.Below.{Fits, at-fits, behind-fits}
use Rattle.pair_words.proofs.Digits.{adds, words_size, bit_words}
use Rattle.pair_states.specs.Encodes.{Encodes}
use Rattle.pair_states.specs.Finished.{finished_of}
use Rattle.pair_states.specs.Wide.{wide_grammar}
use Rattle.pair_states.proofs.Finished.{any_rules, finished_members}

-- ── tests in another order ──

last-first : (a b x : Bool) → (a && (b && x)) ≡ (x && (a && b))
last-first false b true = refl
last-first false b false = refl
last-first true false true = refl
last-first true false false = refl
last-first true true true = refl
last-first true true false = refl

reorder : (a b d l x : Bool) → ((a && (b && d)) && (l && x)) ≡ (x && (d && (a && (b && l))))
reorder a b d l false = go (a && (b && d)) l
  where
    go : (m l : Bool) → (m && (l && false)) ≡ false
    go false l = refl
    go true false = refl
    go true true = refl
reorder false b true l true = refl
reorder false b false l true = refl
reorder true false true l true = refl
reorder true false false l true = refl
reorder true true false l true = refl
reorder true true true false true = refl
reorder true true true true true = refl

-- one test that doesn't go by the element
any-both : (b : Bool) (q : Rule → Bool) (l : List Rule) → any (λ R. b && q R) l ≡ (b && any q l)
any-both true q l = refl
any-both false q [] = refl
any-both false q (R ∷ l) = any-both false q l

-- one of two tests
any-or : (p q : Rule → Bool) (l : List Rule) → any (λ R. p R || q R) l ≡ (any p l || any q l)
any-or p q [] = refl
any-or p q (R ∷ l) = ap (λ (b : Bool). (p R || q R) || b) (any-or p q l) ∙ four (p R) (q R) (any p l) (any q l)
  where
    four : (a b c d : Bool) → ((a || b) || (c || d)) ≡ ((a || c) || (b || d))
    four true b c d = refl
    four false true c d = sym (or-true c)
    four false false c d = refl

-- ── one rule ──

-- behind a token that doesn't open a step
next_rule : (i : Token) → ((a : OpenName) → is_open a i ≡ false) → (words : List ℕ) (S : PairState) (L₁ L₃ : ℕ) (R : Rule) → Below 32 R → L₁ < 32 → Encodes words S →
    adds (gives_at i words) L₃ L₁ R ≡ next_to i S L₁ L₃ R
next_rule i o words S L₁ L₃ (Rule.Empty M) h l x = refl
next_rule i o words S L₁ L₃ (Rule.Next M i' M₁) h l x = rw (x.at L₁ M l h.0) (last-first (same_token i' i) (eqb M₁ L₃) (S L₁ M))
next_rule i o words S L₁ L₃ (Rule.Step M a M₁ b M₂) h l x = rw (o a)

-- itself alone as context
bit-itself : (b : Bool) (M K : ℕ) → bit (cond b (add_bit 0 M) 0) K ≡ (b && eqb K M)
bit-itself true M K = bit-add 0 M K ∙ rw bit-zero
bit-itself false M K = bit-zero K

open_step : (a x : Bool) (M L K : ℕ) → (a && (eqb M L && (x && eqb K M))) ≡ (eqb K L && (x && (a && eqb M K)))
open_step a x M L K =
    same_test (a && (eqb M L && (x && eqb K M))) (eqb K L && (x && (a && eqb M K)))
    (λ q.
    let r = and_right a _ q in
    let s = and_right (eqb M L) _ r in
    let e = eqb-true M L (and_left (eqb M L) _ r) in
    let f = eqb-true K M (and_right x _ s) in
    both (eq-eqb K L (f ∙ e)) (both (and_left x _ s) (both (and_left a _ q) (eq-eqb M K (sym f)))))
    (λ q.
    let r = and_right (eqb K L) _ q in
    let s = and_right x _ r in
    let e = eqb-true K L (and_left (eqb K L) _ q) in
    let f = eqb-true M K (and_right a _ s) in
    both (and_left a _ s) (both (eq-eqb M L (f ∙ e)) (both (and_left x _ r) (eq-eqb K M (sym f)))))

open_rule : (a : OpenName) (words : List ℕ) (S : PairState) (L₁ L₃ : ℕ) (R : Rule) → Below 32 R → L₁ < 32 → Encodes words S →
    adds (gives_at (Token.Open a) words) L₃ L₁ R ≡ ((eqb L₁ L₃ && open_to 32 a S L₁ R) || next_to (Token.Open a) S L₁ L₃ R)
open_rule a words S L₁ L₃ (Rule.Empty M) h l x = rw (and-false (eqb L₁ L₃))
open_rule a words S L₁ L₃ (Rule.Next M i M₁) h l x =
    rw (and-false (eqb L₁ L₃), x.at L₁ M l h.0) (last-first (same_token i (Token.Open a)) (eqb M₁ L₃) (S L₁ M))
open_rule a words S L₁ L₃ (Rule.Step M a' M₁ b M₂) h l x =
    let some : any_below 32 (bit (get_or words M 0)) ≡ any_below 32 (λ K. S K M) = below_same 32 (bit (get_or words M 0)) (λ K. S K M) (λ K k. x.at K M k h.0) in
    let inside : adds (gives_at (Token.Open a) words) L₃ L₁ (Rule.Step M a' M₁ b M₂) ≡ (eqb L₁ L₃ && open_to 32 a S L₁ (Rule.Step M a' M₁ b M₂)) =
    ap (λ (b : Bool). eqb a'.0 a.0 && (eqb M₁ L₃ && b)) (bit-itself (any_below 32 (bit (get_or words M 0))) M₁ L₁)
    ∙ rw some (open_step (eqb a'.0 a.0) (any_below 32 (λ K. S K M)) M₁ L₃ L₁) in
    inside ∙ sym (or-false (eqb L₁ L₃ && open_to 32 a S L₁ (Rule.Step M a' M₁ b M₂)))

close_rule : (g : Grammar) (b : CloseName) (a : OpenName) (saved : List ℕ) (done : ℕ) (S S₁ : PairState) (L₁ L₅ : ℕ) (R : Rule) → Below 32 R → L₁ < 32 →
    Encodes saved S₁ → ((L : ℕ) → L < 32 → bit done L ≡ finished g S L) → adds (gives_behind a b done saved) L₅ L₁ R ≡ close_to g b S S₁ a L₁ L₅ R
close_rule g b a saved done S S₁ L₁ L₅ (Rule.Empty M) h l x y = refl
close_rule g b a saved done S S₁ L₁ L₅ (Rule.Next M i M₁) h l x y = refl
close_rule g b a saved done S S₁ L₁ L₅ (Rule.Step M a' M₁ b' M₂) h l x y =
    rw (x.at L₁ M l h.0, y M₁ h.1) (reorder (eqb a'.0 a.0) (eqb b'.0 b.0) (finished g S M₁) (eqb M₂ L₅) (S₁ L₁ M))

-- ── words ──

-- the start
pub single_encodes : (s : ℕ) → s < 32 → Encodes (set (replicate 32 0) s (add_bit 0 s)) (single s s)
single_encodes s h = record { at = λ L₁ L₂ l₁ l₂. go L₁ L₂ l₂ (eqb L₂ s) refl }
  where
    go : (L₁ L₂ : ℕ) → L₂ < 32 → (b : Bool) → eqb L₂ s ≡ b → bit (get_or (set (replicate 32 0) s (add_bit 0 s)) L₂ 0) L₁ ≡ (eqb L₁ s && b)
    go L₁ L₂ l true q =
        let e = eqb-true L₂ s q in
        ap (λ (k : ℕ). bit (get_or (set (replicate 32 0) s (add_bit 0 s)) k 0) L₁) e
        ∙ ap (λ (w : ℕ). bit w L₁) (get_or-set_same (replicate 32 0) s (add_bit 0 s) 0 (rw (length-replicate {A = ℕ} 32 0) h))
        ∙ bit-add 0 s L₁
        ∙ rw (bit-zero, and-true)
    go L₁ L₂ l false q =
        ap (λ (w : ℕ). bit w L₁) (get_or-set_other (replicate 32 0) s L₂ (add_bit 0 s) 0 (λ e. false≢true (sym q ∙ eq-eqb L₂ s e)) ∙ get_or-replicate 32 L₂ 0 0 l)
        ∙ bit-zero L₁
        ∙ sym (and-false (eqb L₁ s))

module _ (t : Table) (head : Head) (indexed : Indexed t head) where
  abbrev g : Grammar
  g = wide_grammar t head

  abbrev n : ℕ
  n = head.rules

  -- by a law of one rule
  by_rules : (p : Gives) → Fits p → (base : List ℕ) → length base ≡ 32 → (L K : ℕ) (q : Rule → Bool) → L < 32 → ((R : Rule) → Below 32 R → adds p L K R ≡ q R) →
      bit (get_or (words_by p base t n) L 0) K ≡ (bit (get_or base L 0) K || any q (rules_in t n))
  by_rules p fits base long L K q l h =
      bit_words p base long t fits n indexed.ready.small L K l
      ∙ ap (λ (b : Bool). bit (get_or base L 0) K || b)
      (any_rules (adds p L K) t n
      ∙ below_same n (λ r. adds p L K (rule_in t r)) (λ r. q (rule_in t r)) (λ r m. h (rule_in t r) (indexed.ready.small r m))
      ∙ sym (any_rules q t n))

  -- with no word besides
  by_rules_alone : (p : Gives) → Fits p → (L K : ℕ) (q : Rule → Bool) → L < 32 → ((R : Rule) → Below 32 R → adds p L K R ≡ q R) →
      bit (get_or (words_by p (replicate 32 0) t n) L 0) K ≡ any q (rules_in t n)
  by_rules_alone p fits L K q l h =
      by_rules p fits (replicate 32 0) (length-replicate {A = ℕ} 32 0) L K q l h
      ∙ ap (λ (b : Bool). b || any q (rules_in t n)) (ap (λ (w : ℕ). bit w K) (get_or-replicate 32 L 0 0 l) ∙ bit-zero K)

  -- (1)
  next_encodes : (i : Token) → ((a : OpenName) → is_open a i ≡ false) → (words : List ℕ) (S : PairState) → Encodes words S → Encodes (words_by (gives_at i words) (replicate 32 0) t n) (over_next g i S)
  next_encodes i o words S x = record {
    at = λ L₁ L₃ l₁ l₃. by_rules_alone (gives_at i words) (at-fits i words) L₃ L₁ (next_to i S L₁ L₃) l₃ (λ R h. next_rule i o words S L₁ L₃ R h l₁ x);
  }

  -- (2)
  open_encodes : (a : OpenName) (words : List ℕ) (S : PairState) → Encodes words S → Encodes (words_by (gives_at (Token.Open a) words) (replicate 32 0) t n) (over_open g a S)
  open_encodes a words S x = record {
    at = λ L₁ L₃ l₁ l₃.
        by_rules_alone (gives_at (Token.Open a) words) (at-fits (Token.Open a) words) L₃ L₁ (λ R. (eqb L₁ L₃ && open_to 32 a S L₁ R) || next_to (Token.Open a) S L₁ L₃ R) l₃ (λ R h. open_rule a words S L₁ L₃ R h l₁ x)
        ∙ any-or (λ R. eqb L₁ L₃ && open_to 32 a S L₁ R) (next_to (Token.Open a) S L₁ L₃) (rules_in t n)
        ∙ ap (λ (b : Bool). b || over_next g (Token.Open a) S L₁ L₃) (any-both (eqb L₁ L₃) (open_to 32 a S L₁) (rules_in t n));
  }

  -- over any token, with no step to go back to
  pub token_encodes : (i : Token) (words : List ℕ) (S : PairState) → Encodes words S → Encodes (words_by (gives_at i words) (replicate 32 0) t n) (derivative g i (S, [])).0
  token_encodes (Token.Mark c) words S x = next_encodes (Token.Mark c) (λ a. refl) words S x
  token_encodes (Token.Open a) words S x = open_encodes a words S x
  token_encodes (Token.Close b) words S x = next_encodes (Token.Close b) (λ a. refl) words S x

  pub alone-size : (p : Gives) {out : List ℕ} → out ≡ words_by p (replicate 32 0) t n → length out ≡ 32
  alone-size p e = ap length e ∙ words_size p (replicate 32 0) (length-replicate {A = ℕ} 32 0) t n

  -- (3) the step's close, besides a close that is taken alone
  pub close_encodes : (b : CloseName) (a : OpenName) (words saved : List ℕ) (S S₁ : PairState) → Encodes words S → Encodes saved S₁ →
      Encodes (words_by (gives_behind a b (finished_of words (ends_in t) 32) saved) (words_by (gives_at (Token.Close b) words) (replicate 32 0) t n) t n) (over_return g b S S₁ a)
  close_encodes b a words saved S S₁ x y = record {
    at = λ L₁ L₅ l₁ l₅.
        let done = finished_of words (ends_in t) 32 in
        by_rules (gives_behind a b done saved) (behind-fits a b done saved) _ (alone-size (gives_at (Token.Close b) words) refl) L₅ L₁ (close_to g b S S₁ a L₁ L₅) l₅
        (λ R h. close_rule g b a saved done S S₁ L₁ L₅ R h l₁ y (finished_members t head indexed words S x))
        ∙ ap (λ (c : Bool). c || over_close g b S S₁ a L₁ L₅) ((token_encodes (Token.Close b) words S x).at L₁ L₅ l₁ l₅)
        ∙ or_comm (over_next g (Token.Close b) S L₁ L₅) (over_close g b S S₁ a L₁ L₅);
  }
