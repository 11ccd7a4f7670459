-- One turn of the pass over the tokens: the marks that are written, and those that the configuration still gives.
use Prim.Native.Nat.{ℕ, suc, ◌+◌, ◌<◌, ◌≤◌}
use native.Mathlib.Numerals.{add-one}
use native.Mathlib.Omega.{arith}
use mathlib.Core.Path.{◌≡◌, refl, sym, ◌∙◌, ap, ap₂}
use mathlib.Core.List.{List, [], ◌∷◌, ◌++◌}
use lib.ListN.{length, take, drop, get_or, set, length-set, length-map, get_or-map}
use lib.Seq.{drop-cons, drop-drop, drop-length, take-suc-set, drop-set-lt, set_split, append_snoc}
use Rattle.vpg.specs.declared.Token.{Token}
use Rattle.pair_theory.specs.Depth.{Shallow, open_after}
use Rattle.vpg.specs.believed.Grammar.{Grammar}
use Rattle.pair_theory.specs.Pairs.{Configuration, begin, single, derivative, accepts, marks_from, Within}
use Rattle.sets_theory.specs.believed.Sets.{one, stop_mark, stop_marks}
use Rattle.pair_theory.proofs.Pairs.{begin-within, derivative-within, stop_marks_pairs}
use Rattle.tables.specs.declared.Head.{Head}
use Rattle.tables.specs.declared.Table.{Table}
use Rattle.tables.specs.Ready.{grammar_in}
use Rattle.rule_index.specs.Index.{Indexed, ends_in}
use Rattle.history_file.specs.believed.HistoryFile.{token_of, tokens_of}
use Rattle.pair_states.specs.Encodes.{Encodes}
use Rattle.pair_states.specs.Wide.{wide_grammar}
use Rattle.pair_states.proofs.Grammars.{proper}
use Rattle.configurations.specs.declared.stack.Stack.{Stack}
use Rattle.configurations.specs.Stack.{Holds, StepHolds}
use Rattle.stop_marks_core.specs.MarkOf.{mark_of}
use Rattle.stop_marks_core.proofs.Accepting.{mark-accepts}

pub drop_token : (ts : List ℕ) (i : ℕ) → i < length ts → drop i (tokens_of ts) ≡ token_of (get_or ts i 0) ∷ drop (i + 1) (tokens_of ts)
drop_token ts i h =
    rw add-one
    (drop-cons (tokens_of ts) i (token_of 0) (rw length-map h) ∙ ap (λ (x : Token). x ∷ drop (suc i) (tokens_of ts)) (get_or-map token_of ts i 0))

-- what is known before token i: ts are the token numbers, out₀ the buffer as it was lent
pub record Turn (g : Grammar) (ts out₀ : List ℕ) (i : ℕ) (rows : List ℕ) (stack : Stack) (out : List ℕ) : Type 0 where
  pub configuration : Configuration
  pub holds : Holds rows stack configuration
  pub within : Within g configuration
  pub shallow : Shallow 128 (drop i (tokens_of ts)) stack.depth
  pub marks : take i out ++ marks_from g configuration (drop i (tokens_of ts)) ≡ marks_from g (begin g) (tokens_of ts)
  pub rest : drop i out ≡ drop i out₀
  pub size : length out ≡ length out₀

-- how many steps are open after token i
pub depth-next : {g : Grammar} {ts out₀ : List ℕ} {i : ℕ} {rows : List ℕ} {stack : Stack} {out : List ℕ} → Turn g ts out₀ i rows stack out → i < length ts →
    open_after (token_of (get_or ts i 0)) stack.depth ≤ 128
depth-next {ts} {i} {stack} u h = go (drop (i + 1) (tokens_of ts)) (rw (drop_token ts i h) at u.shallow)
  where
    go : (v : List Token) → Shallow 128 (token_of (get_or ts i 0) ∷ v) stack.depth → open_after (token_of (get_or ts i 0)) stack.depth ≤ 128
    go [] s = s.1
    go (x ∷ v) s = s.1.0

-- the stop marks go by the rules and the start alone: how many nonterminals there are changes none
marks-wide : (table : Table) (head : Head) (w : List Token) → stop_marks (wide_grammar table head) w ≡ stop_marks (grammar_in table head) w
unfolding stop_mark stop_marks
marks-wide table head w = refl

module _ (table : Table) (head : Head) (ts out₀ : List ℕ) where
  abbrev g : Grammar
  g = wide_grammar table head

  pub first-turn : Indexed table head → (rows : List ℕ) (stack : Stack) → Encodes rows (single head.start head.start) → Shallow 128 (tokens_of ts) 0 → stack.depth ≡ 0 → Turn g ts out₀ 0 rows stack out₀
  first-turn indexed rows stack x s e =
      let v = proper table head indexed.ready in
      record {
        configuration = begin g;
        holds = record { state = x; saved = rw e tt };
        within = begin-within g v.form v;
        shallow = rw e s;
        marks = refl;
        rest = refl;
        size = refl;
      }

  module _ (i : ℕ) (rows : List ℕ) (stack : Stack) (out : List ℕ) (m : ℕ) (room : length ts + 1 ≤ length out₀) (u : Turn g ts out₀ i rows stack out) (indexed : Indexed table head)
      (is : m ≡ mark_of stack.depth rows (ends_in table) head) where
    accepted : m ≡ one (accepts g u.configuration)
    accepted = is ∙ mark-accepts table head indexed rows stack u.configuration u.holds u.within

    written : i < length out → take (i + 1) (set out i m) ≡ take i out ++ (m ∷ [])
    written h = rw add-one (take-suc-set out i m h)

    rest-next : drop (i + 1) out ≡ drop (i + 1) out₀
    rest-next = sym (drop-drop 1 i out) ∙ ap (drop 1) u.rest ∙ drop-drop 1 i out₀

    pub next-turn : (rows' : List ℕ) (stack' : Stack) → i < length ts → StepHolds table head (token_of (get_or ts i 0)) rows stack rows' stack' → Turn g ts out₀ (i + 1) rows' stack' (set out i m)
    unfolding marks_from
    next-turn rows' stack' h s =
        let x = u.configuration in
        let y = derivative g (token_of (get_or ts i 0)) x in
        let v = drop (i + 1) (tokens_of ts) in
        let p = proper table head indexed.ready in
        let below : i < length out = omega (arith, u.size) in
        record {
          configuration = y;
          holds = s.holds x u.holds;
          within = derivative-within g p.form p (token_of (get_or ts i 0)) x u.within;
          shallow = rw s.steps_open (rw (drop_token ts i h) at u.shallow).1;
          marks =
              ap (λ (l : List ℕ). l ++ marks_from g y v) (written below)
              ∙ append_snoc (take i out) m (marks_from g y v)
              ∙ ap (λ (k : ℕ). take i out ++ (k ∷ marks_from g y v)) accepted
              ∙ ap (λ (l : List Token). take i out ++ marks_from g x l) (sym (drop_token ts i h))
              ∙ u.marks;
          rest = drop-set-lt (i + 1) out i m (omega arith) ∙ rest-next;
          size = length-set out i m ∙ u.size;
        }

    pub last_turn : i ≡ length ts → set out i m ≡ stop_marks (grammar_in table head) (tokens_of ts) ++ drop (length ts + 1) out₀
    unfolding marks_from
    last_turn e =
        let below : i < length out = omega (arith, u.size) in
        let none : drop i (tokens_of ts) ≡ [] = rw e (rw (length-map ts token_of) at (drop-length (tokens_of ts))) in
        let all : take i out ++ (m ∷ []) ≡ marks_from g (begin g) (tokens_of ts) =
        ap (λ (k : ℕ). take i out ++ (k ∷ [])) accepted ∙ ap (λ (l : List Token). take i out ++ marks_from g u.configuration l) (sym none) ∙ u.marks in
        let after : drop (suc i) out ≡ drop (length ts + 1) out₀ =
        ap (λ (k : ℕ). drop k out) (sym (add-one i)) ∙ rest-next ∙ ap (λ (k : ℕ). drop (k + 1) out₀) e in
        set_split out i m below
        ∙ sym (append_snoc (take i out) m (drop (suc i) out))
        ∙ ap₂ ◌++◌ (all ∙ sym (stop_marks_pairs g (proper table head indexed.ready) (tokens_of ts)) ∙ marks-wide table head (tokens_of ts)) after
