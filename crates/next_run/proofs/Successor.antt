-- A reading in the buffer: the next one, or that there is no further.
use Prim.Native.Nat.{ℕ, zero, suc, ◌+◌, ◌-◌, ◌<◌, ◌≤◌}
use native.Mathlib.Nat.{eq-or-lt_of_le}
use native.Mathlib.Omega.{arith}
use mathlib.Core.Path.{◌≡◌, refl, sym, ◌∙◌, ap, ap₂, subst}
use mathlib.Core.Logic.{⊎_elim}
use mathlib.Core.Bool.{true, false, false≢true}
use mathlib.Core.List.{List, [], ◌∷◌, ◌++◌}
use mathlib.Core.Option.{some, some-injective}
use borrow.Author.Tests.{eqb-true, eq-eqb}
use lib.Dec.{eqb}
use lib.ListN.{length, take, drop, get_or, get_elem?, take-append-drop, drop_of_length-le}
use lib.Seq.{drop-cons, take-take}
use Rattle.vpg.specs.declared.Rule.{Rule}
use Rattle.vpg.specs.declared.Token.{Token}
use Rattle.vpg.specs.believed.Grammar.{Rules, General, left}
use Rattle.vpg.specs.Extremes.{Least, Next, Last}
use Rattle.listing_model.specs.believed.Listing.{next, written, no_further, refused, over_entries}
use Rattle.listing_model.specs.Calls.{call_on}
use Rattle.vpg.specs.Runs.{State, entries}
use Rattle.vpg.proofs.Ascends.{entries_ascending}
use Rattle.laws.proofs.Bools.{and_left, and_right, both}
use Rattle.listing_model.proofs.Calls.{next-refused, next-written, next_no_further}
use Rattle.vpg.proofs.Take.{end}
use Rattle.level_theory.specs.Masks.{finishes, masks}
use Rattle.level_theory.specs.Pending.{pending_at, close_of, due_at}
use Rattle.level_theory.specs.Walk.{Run, test_at}
use Rattle.level_theory.specs.Local.{state_at}
use Rattle.level_theory.proofs.Alive.{Passes, goes_applies, run_fits}
use Rattle.level_theory.proofs.Search.{None, end_last, end_next}
use Rattle.level_theory.proofs.Walk.{passes_end, end_passes}
use Rattle.level_theory.proofs.Pending.{calm_due}
use Rattle.level_theory.proofs.Local.{Turn, turn, RunFrom, LastFrom, NextFrom, leads, run_left, last-left, next_here, next-all}
use Rattle.tables.specs.declared.Head.{Head}
use Rattle.tables.specs.declared.Table.{Table}
use Rattle.tables.specs.Table.{rule_in}
use Rattle.tables.specs.Ready.{rules_of, grammar_in}
use Rattle.tables.proofs.Tables.{rules_at, rules_below, ready_general}
use Rattle.history_file.specs.believed.HistoryFile.{token_of, tokens_of}
use Rattle.levels.specs.Levels.{Setting}
use Rattle.levels.proofs.Levels.{tokens_length, tokens_at, pending_end}
use Rattle.levels.proofs.Setting.{closing, closing_room}
use Rattle.first_run.specs.Fill.{state_of, Derives}
use Rattle.first_run.proofs.Whole.{none_due}
use Rattle.replay.specs.Replayed.{Reads}
use Rattle.replay.proofs.Replaying.{number, numbers, state_start}
use Rattle.next_run.specs.declared.Branch.{Branch}
use Rattle.next_run.specs.Next.{fits_at, EachFits, NoneFrom, LastAt, Follows, onward, Rewritten}

module _ {t : Table} {head : Head} {ts m mask : List ℕ} (set-up : Setting t head ts m mask) (buf : List ℕ) (long : length ts < length buf) where
  abbrev W : List Token
  W = tokens_of ts

  abbrev G : Rules
  G = rules_of t head

  abbrev U : ℕ
  U = head.well

  form : General U G
  form = ready_general t head set-up.indexed.ready

  -- the numbers of the reading
  abbrev E : List ℕ
  E = take (suc (length ts)) buf

  -- the call is made on these numbers
  on_numbers : take (suc (length W)) buf ≡ E
  on_numbers = rw tokens_length

  pub none-refused : (Run G (head.start, []) W E → ⊥) → (refused 16, buf) ≡ call_on (over_entries (grammar_in t head) W) next buf
  none-refused h = sym (next-refused (entries (grammar_in t head) W) (suc (length W)) buf (λ r. h (rw on_numbers at r)))

  module _ {at f : List ℕ} (k : Reads (grammar_in t head) W E at f) where
    -- ── what the search found, as the theory of runs asks for it ──

    passes_at : (q r : ℕ) → r < head.rules → fits_at t head W at q r ≡ true → Passes (test_at U G (drop q W)) G (get_or at q 0) r
    passes_at q r h x = record { rule = rule_in t r; is = rules_at t head.rules r h; from = eqb-true _ _ (and_left _ _ x); passes = and_right (eqb (left (rule_in t r)) (get_or at q 0)) _ x }

    none-at : (q : ℕ) (P : ℕ → Type 0) → ((r : ℕ) → r < head.rules → P r → fits_at t head W at q r ≡ false) → None (test_at U G (drop q W)) G (get_or at q 0) P
    none-at q P h r x z =
        let l = rules_below t head.rules r z.is in
        let e : rule_in t r ≡ z.rule = some-injective _ _ (sym (rules_at t head.rules r l) ∙ z.is) in
        false≢true (sym (h r l x) ∙ both (eq-eqb _ _ (ap left e ∙ z.from)) (rw e z.passes))

    -- ── runs and last runs from each position ──

    done : drop (length W) W ≡ []
    done = drop_of_length-le W {i = length W} (omega arith)

    state_end : state_at U W at f (length W) ≡ (get_or at (length W) 0, [])
    state_end = rw (pending_end W (length W) (omega arith))

    last-number : drop (length W) E ≡ get_or E (length W) 0 ∷ []
    last-number = drop-cons E (length W) 0 (omega (arith, numbers ts buf long, tokens_length ts)) ∙ rw (drop_of_length-le E {i = suc (length W)} (omega (arith, numbers ts buf long, tokens_length ts)))

    run_end : RunFrom U G W at f E (length W)
    run_end = rw (last-number, state_end, done) (end G k.ends)

    run_from : (d p : ℕ) → p + d ≡ length W → RunFrom U G W at f E p
    run_from zero p e = let q : p ≡ length W = omega arith in rw q run_end
    run_from (suc d) p e = run_left U G W at f E p (k.leads p (omega arith)) (omega (arith, numbers ts buf long, tokens_length ts)) (run_from d (suc p) (omega arith))

    -- ── each number is a rule that fits where it stands ──

    fits_rule : (q r : ℕ) (R : Rule) → get_elem? G r ≡ some R → left R ≡ get_or at q 0 → test_at U G (drop q W) R ≡ true → (r < head.rules) × (fits_at t head W at q r ≡ true)
    fits_rule q r R i a x =
        let l = rules_below t head.rules r i in
        let e : rule_in t r ≡ R = some-injective _ _ (sym (rules_at t head.rules r l) ∙ i) in
        (l, both (eq-eqb _ _ (ap left e ∙ a)) (rw e x))

    fits_before : (q : ℕ) → q < length W → (get_or E q 0 < head.rules) × (fits_at t head W at q (get_or E q 0) ≡ true)
    unfolding test_at
    fits_before q l =
        let d = k.leads q l in
        let v = leads U G W at f E q d (omega (arith, numbers ts buf long, tokens_length ts)) in
        let s = state_at U W at f (suc q) in
        let a = goes_applies U (masks U G (drop (suc q) W)) (form (get_or E q 0) v.rule v.is) (calm_due U f (pending_at W q) (get_or at q 0)) v.goes (run_fits U G form (drop (suc q) W) s.0 s.1 (calm_due U f (pending_at W (suc q)) (get_or at (suc q) 0)) (drop (suc q) E) (run_from (length W - suc q) (suc q) (omega arith))) in
        fits_rule q (get_or E q 0) v.rule v.is a.from (rw d.here a.applied)

    fits_end : (get_or E (length W) 0 < head.rules) × (fits_at t head W at (length W) (get_or E (length W) 0) ≡ true)
    unfolding test_at
    fits_end = fits_rule (length W) (get_or E (length W) 0) (Rule.Empty (get_or at (length W) 0)) k.ends refl (rw done refl)

    pub each_fits : EachFits t head W at buf
    each_fits q l = rw (← (number ts buf q (omega (arith, tokens_length ts)))) (⊎_elim (λ e. rw e fits_end) (λ h. fits_before q h) (eq-or-lt_of_le l))

    -- the state at position 0 is the start, with nothing due
    at_start_lem : (P : State → Type 0) → P (state_at U W at f 0) → P (head.start, [])
    at_start_lem P x = subst P (state_start U W at f (none_due set-up f k.all) k.begins) x

    pub is_run : Run G (head.start, []) W E
    is_run = at_start_lem (λ s. Run G s W E) (run_from (length W) 0 (omega arith))

    larger_none : (p q : ℕ) → NoneFrom t head W at buf p → p ≤ q → q ≤ length W → None (test_at U G (drop q W)) G (get_or at q 0) (λ r. get_or E q 0 < r)
    larger_none p q x h l = none-at q (λ r. get_or E q 0 < r) (λ r b a. x q h l r (rw (number ts buf q (omega (arith, tokens_length ts))) at a) b)

    last_end : NoneFrom t head W at buf (length W) → LastFrom U G W at f E (length W)
    last_end x = rw (last-number, state_end, done) (end_last G (get_or at (length W) 0) (get_or E (length W) 0) (λ r a z. at_end (drop (length W) W) done (larger_none (length W) (length W) x (omega arith) (omega arith)) r a z))
      where
        at_end : (v : List Token) → v ≡ [] → None (test_at U G v) G (get_or at (length W) 0) (λ r. get_or E (length W) 0 < r) → None finishes G (get_or at (length W) 0) (λ r. get_or E (length W) 0 < r)
        at_end v e h r a z = (rw e at h) r a (end_passes U z)

    last-from : (d p : ℕ) → p + d ≡ length W → NoneFrom t head W at buf p → LastFrom U G W at f E p
    last-from zero p e x = let q : p ≡ length W = omega arith in rw q (last_end (rw q at x))
    last-from (suc d) p e x =
        last-left U G W at f E p (k.leads p (omega arith)) (omega (arith, numbers ts buf long, tokens_length ts)) form (last-from d (suc p) (omega arith) (λ q h. x q (omega arith))) (larger_none p p x (omega arith) (omega arith))

    pub no_further_is : NoneFrom t head W at buf 0 → (no_further, buf) ≡ call_on (over_entries (grammar_in t head) W) next buf
    no_further_is x =
        sym (next_no_further (entries (grammar_in t head) W) (suc (length W)) buf (entries_ascending (grammar_in t head) W) (rw on_numbers is_run)
        (rw on_numbers (at_start_lem (λ s. Last (Run G s W) E) (last-from (length W) 0 (omega arith) x))))

    -- ── the position and the rule found ──

    module _ (p r : ℕ) (h : LastAt t head W at buf p r) where
      -- where the next reading leaves this one
      abbrev B : Branch
      B = record { from = record { position = p; nonterminal = get_or at p 0; behind = f }; rule = r }

      last-behind : p < length W → LastFrom U G W at f E (suc p)
      last-behind l = last-from (length W - suc p) (suc p) (omega arith) h.last

      above : get_or E p 0 < r
      above = rw (number ts buf p (omega (arith, h.position, tokens_length ts))) h.larger

      between : None (test_at U G (drop p W)) G (get_or at p 0) (λ s. (get_or E p 0 < s) × (s < r))
      between = none-at p (λ s. (get_or E p 0 < s) × (s < r)) (λ s b a. h.least s (rw (number ts buf p (omega (arith, h.position, tokens_length ts))) at a.0) a.1)

      module _ (more : p < length ts) where
        here : drop p W ≡ token_of (get_or ts p 0) ∷ drop (suc p) W
        here = tokens_at ts p more

        inside : close_of (pending_at W (suc p)) (length W) < length f
        inside = rw k.room_behind (closing_room set-up p (omega arith))

        -- where rule r leads from the state at p
        found_turn : (u : Token) (e : drop p W ≡ u ∷ drop (suc p) W) → Turn U G W (length W) f p u e (get_or at p 0) r (rule_in t r)
        unfolding passes_at
        found_turn u e =
            let x = passes_at p r h.rule h.fits in
            turn U G W (length W) f p u e form (get_or at p 0) r (rule_in t r) inside
            (run_fits U G form (drop p W) (get_or at p 0) (due_at U f (pending_at W p) (get_or at p 0)) (calm_due U f (pending_at W p) (get_or at p 0)) (drop p E) (run_from (length W - p) p (omega (arith, h.position)))) x.is x.from x.passes

        pub rewrite_derives : Derives U G W (onward t m B)
        rewrite_derives = rw (closing set-up p (omega arith)) (found_turn (token_of (get_or ts p 0)) here).fits

      -- the state behind position p
      abbrev S : State
      S = state_of U W (onward t m B)

      next_on_lem : (x : List ℕ) → p < length ts → Least (Run G S (drop (suc p) W)) x → NextFrom U G W at f E p (r ∷ x)
      next_on_lem x more l =
          next_here U G W at f E p (k.leads p (rw tokens_length more)) (omega (arith, numbers ts buf long)) form (length W) r (rule_in t r) x (last-behind (rw tokens_length more)) above
          (found_turn more (k.leads p (rw tokens_length more)).token (k.leads p (rw tokens_length more)).here) between (rw (closing set-up p (omega arith)) at l)

      next_end : p ≡ length W → NextFrom U G W at f E p (r ∷ [])
      next_end e = go p e (passes_at p r h.rule h.fits) above between
        where
          go : (p : ℕ) → p ≡ length W → Passes (test_at U G (drop p W)) G (get_or at p 0) r → get_or E p 0 < r → None (test_at U G (drop p W)) G (get_or at p 0) (λ s. (get_or E p 0 < s) × (s < r)) → NextFrom U G W at f E p (r ∷ [])
          go p e x a d = rw e (at_end (rw e at x) (rw e at a) (rw e at d))
            where
              at_end : Passes (test_at U G (drop (length W) W)) G (get_or at (length W) 0) r → get_or E (length W) 0 < r → None (test_at U G (drop (length W) W)) G (get_or at (length W) 0) (λ s. (get_or E (length W) 0 < s) × (s < r)) → NextFrom U G W at f E (length W) (r ∷ [])
              at_end x a d = rw (last-number, state_end, done) (end_next G (get_or at (length W) 0) (get_or E (length W) 0) r a (passes_end U (rw done at x)) (λ s b z. (rw done at d) s b (end_passes U z)))

      follows_next : (x : List ℕ) → Follows G S (drop p W) x → NextFrom U G W at f E p (r ∷ x)
      follows_next x y = ⊎_elim (λ e. ending e) (λ l. going l) (eq-or-lt_of_le h.position)
        where
          ending : p ≡ length W → NextFrom U G W at f E p (r ∷ x)
          ending e = let z : x ≡ [] = empty (drop p W) (drop_of_length-le W {i = p} (omega arith)) y in rw z (next_end e)
            where
              empty : (v : List Token) → v ≡ [] → Follows G S v x → x ≡ []
              empty v q a = rw q at a

          going : p < length W → NextFrom U G W at f E p (r ∷ x)
          going l = let more : p < length ts = rw tokens_length at l in next_on_lem x more (on (drop p W) (here more) y)
            where
              on : (v : List Token) {u : Token} → v ≡ u ∷ drop (suc p) W → Follows G S v x → Least (Run G S (drop (suc p) W)) x
              on v q a = rw q at a

      pub written_is : (new : List ℕ) → Rewritten t head W m B buf new → (written, new) ≡ call_on (over_entries (grammar_in t head) W) next buf
      written_is new x =
          let y : NextFrom U G W at f E 0 (take p E ++ (r ∷ x.rest)) = next-all U G W at f E p (r ∷ x.rest) (omega (arith, numbers ts buf long, h.position, tokens_length ts)) (λ q l. k.leads q (omega (arith, h.position))) (follows_next x.rest x.follows) in
          let z : take p E ≡ take p buf = take-take p (suc (length ts)) buf (omega (arith, h.position, tokens_length ts)) in
          let e : new ≡ (take p E ++ (r ∷ x.rest)) ++ drop (suc (length W)) buf = sym (take-append-drop (suc (length W)) new) ∙ ap₂ ◌++◌ (x.written ∙ ap (λ (b : List ℕ). b ++ (r ∷ x.rest)) (sym z)) x.kept in
          ap (λ (b : List ℕ). (written, b)) e
          ∙ sym (next-written (entries (grammar_in t head) W) (suc (length W)) buf (take p E ++ (r ∷ x.rest)) (entries_ascending (grammar_in t head) W) (rw on_numbers is_run)
          (rw on_numbers (at_start_lem (λ s. Next (Run G s W) E (take p E ++ (r ∷ x.rest))) y)))
