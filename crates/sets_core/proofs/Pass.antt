-- The pass over the positions: where it begins, one turn of it, and the set that it finds at a position.
use Prim.Native.Nat.{ℕ, zero, suc, ◌*◌, ◌+◌, ◌%◌, ◌^◌, ◌<◌, ◌≤◌}
use native.Mathlib.Nat.{mod-lt}
use native.Mathlib.Numerals.{add-one}
use native.Mathlib.Omega.{arith}
use mathlib.Core.Path.{◌≡◌, refl, sym, ◌∙◌, ap, fun_ext}
use mathlib.Core.Bool.{Bool, true, false, cond, ◌&&◌, ◌||◌, or-false}
use mathlib.Core.List.{List}
use mathlib.Core.Option.{Option, none, some}
use borrow.Author.Tests.{eqb-true, eqb-false, ltb-true, ltb-false, lt-ltb}
use lib.Bits.{bit_and, bit_or}
use lib.Dec.{eqb, ltb}
use lib.ListN.{length, get_or, set, drop, replicate, get_elem?, length-set}
use lib.Pow.{pow_pos}
use lib.Seq.{ext_get_or, get_or-set_same, get_or-set_other}
use Rattle.laws.specs.Any.{any, any_below}
use Rattle.laws.proofs.Any.{below_same}
use Rattle.bits.specs.Bit.{bit, add_bit}
use Rattle.bits.proofs.Bits.{bit-zero, bit-add, bit-or, bit-mod, add_below, same}
use Rattle.vpg.specs.declared.Rule.{Rule}
use Rattle.vpg.specs.declared.Token.{Token}
use Rattle.vpg.specs.believed.Grammar.{Rules, Grammar, General, left}
use Rattle.sets_theory.specs.ChoiceTest.{met_before, choice}
use Rattle.sets_theory.specs.KeptTest.{kept}
use Rattle.sets_theory.specs.believed.Sets.{listed, word_of, set_word}
use Rattle.sets_theory.proofs.Sets.{length-listed, get_or-listed}
use Rattle.level_theory.specs.Pending.{pending_at, close_of}
use Rattle.level_theory.specs.Kept.{keeps, goes_to, returns_to, going, returning, passed, Front}
use Rattle.level_theory.proofs.Kept.{front_kept, front_start, front_next}
use Rattle.tables.specs.declared.Head.{Head}
use Rattle.tables.specs.declared.Table.{Table}
use Rattle.tables.specs.Table.{rule_in}
use Rattle.tables.specs.Ready.{rules_of, grammar_in}
use Rattle.tables.proofs.Tables.{length_rules, rules_at, rules_below, ready_general}
use Rattle.contexts.specs.declared.Context.{Context}
use Rattle.contexts.specs.Context.{applies_to, level_in}
use Rattle.history_file.specs.believed.HistoryFile.{token_of, tokens_of}
use Rattle.levels.specs.Levels.{Leveled, Stands, Setting, derives_all}
use Rattle.levels.proofs.Levels.{tokens_at, tokens_length, any_like, level_says}
use Rattle.levels.proofs.Setting.{closing, closing_room, close_room}
use Rattle.rule_set.specs.declared.Ways.{Ways}
use Rattle.rule_set.specs.RuleSet.{keeps_at, ways_in, words_in}
use Rattle.rule_set.specs.Words.{Held}
use Rattle.rule_set.proofs.RuleSet.{words_held, next-going, behind-returning}
use Rattle.rule_set.proofs.Sums.{Again, choice-sum}
use Rattle.rule_set.proofs.Words.{zeros, held_word}
use Rattle.sets_core.specs.Start.{start_set}

-- ── tests ──

start-bit : (d : Bool) (s L : ℕ) (f : ℕ → Bool) → d ≡ f s → bit (start_set d s) L ≡ (eqb L s && f L)
start-bit d s L f e = go d e (eqb L s) refl
  where
    go : (d : Bool) → d ≡ f s → (x : Bool) → eqb L s ≡ x → bit (start_set d s) L ≡ (x && f L)
    go true e true q = bit-add 0 s L ∙ rw (bit-zero L, q) (e ∙ ap f (sym (eqb-true L s q)))
    go true e false q = bit-add 0 s L ∙ rw (bit-zero L, q)
    go false e true q = bit-zero L ∙ e ∙ ap f (sym (eqb-true L s q))
    go false e false q = bit-zero L

-- `here` are the nonterminals that can stand at position p, and `behind` has those that can stand behind each close
abbrev pub Fronted : Table → Head → List ℕ → ℕ → ℕ → List ℕ → Type 0
Fronted t head ts p here behind = Front head.well (grammar_in t head) (tokens_of ts) p (bit here) (λ j. bit (get_or behind j 0))

-- the state of the pass before position p
pub record Going (t : Table) (head : Head) (ts : List ℕ) (p here : ℕ) (behind : List ℕ) : Type 0 where
  pub within : p ≤ length ts + 1
  pub long : length behind ≡ 1025
  pub front : p ≤ length ts → Fronted t head ts p here behind

module _ {t : Table} {head : Head} {ts m mask : List ℕ} (x : Setting t head ts m mask) where
  abbrev W : List Token
  W = tokens_of ts

  abbrev G : Rules
  G = rules_of t head

  abbrev g : Grammar
  g = grammar_in t head

  abbrev n : ℕ
  n = head.rules

  abbrev U : ℕ
  U = head.well

  form : General U G
  form = ready_general t head x.indexed.ready

  pub going_start : {d : Bool} → d ≡ derives_all U G W head.start → Going t head ts 0 (start_set d head.start) (replicate 1025 0)
  going_start {d} e = record {
    within = omega arith;
    long = refl;
    front = λ h.
        front_start U g form W _ _
        (λ L. start-bit d head.start L (derives_all U G W) e)
        (λ j K. rw (zeros 1025 j) (bit-zero K));
  }

  module _ {here p : ℕ} {behind : List ℕ} (k : Going t head ts p here behind) (h : p ≤ length ts) where
    pub onward_room : (length behind ≡ 1025) × (p < 1025) × (get_or m p 0 < 1025)
    onward_room = (k.long, omega (arith, x.tokens.few), close_room x p h)

    module _ (context : Context) (s : Stands U W mask p context) where
      abbrev Keeps : Rule → Bool
      Keeps = keeps U G (drop p W) (bit here)

      ahead : Leveled U G W mask (suc p)
      ahead k a b = x.leveled k (omega arith) b

      keeps_same : (q : ℕ) → q < n → keeps_at U here context (rule_in t q) ≡ Keeps (rule_in t q)
      keeps_same q l = ap (λ (b : Bool). bit here (left (rule_in t q)) && b) (s.rules G ahead (rule_in t q) (x.indexed.ready.small q l))

      -- so a test of the rules of the set besides
      same-any : (f : Rule → Bool) → any (λ R. keeps_at U here context R && f R) G ≡ any (λ R. Keeps R && f R) G
      same-any f = any_like t (λ R. keeps_at U here context R && f R) (λ R. Keeps R && f R) n (λ q l. ap (λ (b : Bool). b && f (rule_in t q)) (keeps_same q l))

      -- ── one turn ──

      module _ (r : Ways) (e : r ≡ ways_in U t here context n) where
        next_bit : (K : ℕ) → bit r.next K ≡ going Keeps G K
        next_bit K = rw e (next-going U t here context K n ∙ same-any (λ R. goes_to R K))

        behind-bit : (K : ℕ) → bit r.behind K ≡ returning Keeps G K
        behind-bit K = rw e (behind-returning U t here context K n ∙ same-any (λ R. returns_to R K))

      pub going_next : {next : ℕ} {behind' : List ℕ} {r : Ways} → r ≡ ways_in U t here context n → next ≡ bit_or (get_or behind p 0) r.next →
          behind' ≡ set behind (get_or m p 0) (bit_or (get_or behind (get_or m p 0) 0) r.behind) → Going t head ts (p + 1) next behind'
      going_next {next} {behind'} {r} e q q' = record {
        within = omega arith;
        long = ap length q' ∙ length-set behind (get_or m p 0) (bit_or (get_or behind (get_or m p 0) 0) r.behind) ∙ k.long;
        front = λ l. rw add-one (fronted (omega arith));
      }
        where
          close : ℕ
          close = close_of (pending_at W (suc p)) (length W)

          is : get_or m p 0 ≡ close
          is = closing x p h

          room : close < length behind
          room = rw k.long (closing_room x p h)

          stored : (i K : ℕ) (b : Bool) → eqb i close ≡ b → bit (get_or (set behind (get_or m p 0) (bit_or (get_or behind (get_or m p 0) 0) r.behind)) i 0) K ≡ (bit (get_or behind i 0) K || (b && returning Keeps G K))
          stored i K true d =
              let j : i ≡ close = eqb-true i close d in
              rw (is, j, get_or-set_same behind close (bit_or (get_or behind close 0) r.behind) 0 room)
              (bit-or (get_or behind close 0) r.behind K ∙ ap (λ (b : Bool). bit (get_or behind close 0) K || b) (behind-bit r e K))
          stored i K false d =
              rw (is, get_or-set_other behind close i (bit_or (get_or behind close 0) r.behind) 0 (eqb-false i close d))
              (sym (or-false (bit (get_or behind i 0) K)))

          fronted : p < length ts → Fronted t head ts (suc p) next behind'
          fronted l =
              front_next U g form W p (length W) (token_of (get_or ts p 0)) (tokens_at ts p l) (bit here) (λ j. bit (get_or behind j 0)) (k.front h) (bit next) (λ j. bit (get_or behind' j 0))
              (λ K. rw q (bit-or (get_or behind p 0) r.next K ∙ ap (λ (b : Bool). bit (get_or behind p 0) K || b) (next_bit r e K)))
              (λ i K. rw q' (stored i K (eqb i close) refl))

      -- ── the set at the position ──

      set_here : (r : ℕ) → kept g W p r ≡ (ltb r n && keeps_at U here context (rule_in t r))
      set_here r = front_kept U g form W p (bit here) (λ j. bit (get_or behind j 0)) (k.front h) r ∙ go (ltb r n) refl
        where
          go : (b : Bool) → ltb r n ≡ b → passed Keeps (get_elem? G r) ≡ (b && keeps_at U here context (rule_in t r))
          go true e = let l = ltb-true r n e in rw (rules_at t n r l) (sym (keeps_same r l))
          go false e = past (get_elem? G r) refl
            where
              past : (o : Option Rule) → get_elem? G r ≡ o → passed Keeps o ≡ false
              past none q = refl
              past (some R) q = absurd (omega (arith, rules_below t n r q, ltb-false r n e))

      -- what is written has its words
      pub words_here : {ws : List ℕ} → ws ≡ words_in U t here context n → ws ≡ listed 4 (set_word g W p)
      unfolding set_word
      words_here {ws} e = ext_get_or 0 ws (listed 4 (set_word g W p)) (held.0 ∙ sym (length-listed 4 (set_word g W p))) word
        where
          held : (length ws ≡ 4) × Held 32 n (λ q. keeps_at U here context (rule_in t q)) ws
          held = rw e (words_held U t here context n x.indexed.ready.few)

          word : (i : ℕ) → i < length ws → get_or ws i 0 ≡ get_or (listed 4 (set_word g W p)) i 0
          word i l =
              held_word 32 n (λ q. keeps_at U here context (rule_in t q)) ws held.1 i
              ∙ ap (word_of 32) (fun_ext (λ b. sym (set_here (32 * i + b))))
              ∙ sym (get_or-listed 4 (set_word g W p) i 0 (rw held.0 at l))

      in_set : (q : ℕ) → q < n → kept g W p q ≡ keeps_at U here context (rule_in t q)
      in_set q l = set_here q ∙ rw (lt-ltb q n l)

      met_here : (q : ℕ) → q < n → met_before g W p q ≡ any_below q (λ q'. keeps_at U here context (rule_in t q') && eqb (left (rule_in t q')) (left (rule_in t q)))
      met_here q l = below_same q _ _ (λ q' l'. let b : q' < n = omega arith in rw (in_set q' b, rules_at t n q' b, rules_at t n q l))

      level_small : (k : ℕ) → k ≤ n → level_in U t context k < 2 ^ 32
      unfolding level_in
      level_small zero l = pow_pos 32
      level_small (suc k) l = go (applies_to U (rule_in t k) context) (level_small k (omega arith))
        where
          go : (b : Bool) → level_in U t context k < 2 ^ 32 → cond b (add_bit (level_in U t context k) (left (rule_in t k))) (level_in U t context k) < 2 ^ 32
          go true m = add_below 32 (level_in U t context k) (left (rule_in t k)) m (x.indexed.ready.small k l).0
          go false m = m

      -- the nonterminals that derive the rest of the level here are those of the rules that can stand here
      level_here : get_or mask p 0 % 4294967296 ≡ level_in U t context n
      level_here =
          same 32 (get_or mask p 0 % 2 ^ 32) (level_in U t context n) (mod-lt (get_or mask p 0) (pow_pos 32)) (level_small n (omega arith))
          (λ L l. bit-mod 32 (get_or mask p 0) L l ∙ x.leveled p (omega arith) (rw (tokens_length ts) h) L l true ∙ sym (level_says t head x.indexed ts mask p context s ahead L))

      -- "a position is now a choice when its set holds two rules of one and the same stage"
      pub choice_here : {r : Ways} → r ≡ ways_in U t here context n → choice g W p ≡ ltb (bit_and here (get_or mask p 0 % 4294967296)) r.sum
      unfolding choice
      choice_here {r} e =
          let two : choice g W p ≡ any_below n (Again U t here context) = rw (length_rules t n) (below_same n _ (Again U t here context) (λ q l. rw (in_set q l, met_here q l))) in
          two ∙ sym (rw (e, level_here) (choice-sum U t here context n))
