-- The walk, one position at a time: what is written so far, what is due, and which of the runs from here it goes on with.
use Prim.Native.Nat.{ℕ, zero, suc, ◌+◌, ◌*◌, ◌<◌, ◌≤◌}
use native.Mathlib.Nat.{zero-mul}
use native.Mathlib.Numerals.{add-one}
use native.Mathlib.Omega.{arith}
use mathlib.Core.Path.{◌≡◌, refl, sym, ◌∙◌, ap, ap₂}
use mathlib.Core.Bool.{Bool, true, false}
use mathlib.Core.List.{List, [], ◌∷◌, ◌++◌, map}
use mathlib.Core.Option.{some, none-ne-some, some-injective}
use borrow.Author.Tests.{eqb-true}
use lib.Dec.{eqb}
use lib.ListN.{length, take, drop, get_or, get_elem?, set, length-set, take-append-drop, drop_of_length-le}
use lib.Seq.{take-suc-set, drop-set-lt, get_or-set_same, get_or-set_other}
use Rattle.laws.proofs.Lists.{at_member}
use Rattle.vpg.specs.declared.CloseName.{CloseName}
use Rattle.vpg.specs.declared.Token.{Token}
use Rattle.vpg.specs.believed.Grammar.{Rules, General, left}
use Rattle.vpg.specs.Runs.{Stack, runs, entries}
use Rattle.capped.specs.Capped.{limit, cap, value}
use Rattle.std.specs.Prelude.{Option, Some, None}
use Rattle.level_theory.specs.Masks.{Nonterminals, masks, Calm, Match, Fits}
use Rattle.level_theory.specs.Pending.{pending_at, close_of, due_at}
use Rattle.level_theory.specs.Walk.{test_at, inner, later}
use Rattle.level_theory.proofs.Alive.{run_fits}
use Rattle.level_theory.proofs.Local.{Turn, turn}
use Rattle.level_theory.proofs.Pending.{calm_due, due_none, masks-outer}
use Rattle.tables.specs.declared.Head.{Head}
use Rattle.tables.specs.declared.Table.{Table}
use Rattle.tables.specs.Table.{rule_in}
use Rattle.tables.specs.Ready.{Below, rules_of, grammar_in}
use Rattle.tables.proofs.Tables.{rules_at, rules_below, ready_general}
use Rattle.history_file.specs.believed.HistoryFile.{token_of, tokens_of}
use Rattle.contexts.specs.declared.Context.{Context}
use Rattle.levels.specs.Levels.{Stands, Setting}
use Rattle.levels.proofs.Levels.{tokens_length, tokens_at, close_most}
use Rattle.levels.proofs.Setting.{closing_room}
use Rattle.count_theory.specs.Allowed.{anywhere}
use Rattle.count_theory.specs.Counts.{given, weight, counts, counts_at}
use Rattle.count_theory.specs.Kth.{size, Onward}
use Rattle.count_theory.specs.Kth as kth
use Rattle.count_theory.proofs.Kth.{kth-next, inside_next, kth-last, all-free}
use Rattle.count_rows.specs.declared.rows.Rows.{Rows}
use Rattle.count_rows.specs.Rows.{value_at, Complete}
use Rattle.kth_run.specs.declared.Found.{Found}
use Rattle.kth_run.specs.declared.Sought.{Sought}
use Rattle.kth_run.specs.Search.{Finds}
use Rattle.kth_run.specs.Walk.{due_with, Chosen, due_product, Dues, count_in, number_in}
use Rattle.kth_run.proofs.Chosen.{chosen}
use Rattle.kth_run.proofs.Dues.{due_weight, first_due, dues_none, Apart, dues_next}

-- ── sizes ──

-- a rule that some run has is for the nonterminal and can stand here
fits-size : (e b : Bool) (n w i : ℕ) → i < given e (given b n) * w → (e ≡ true) × (b ≡ true)
fits-size true true n w i h = (refl, refl)
fits-size true false n w i h = absurd (omega (arith, zero-mul w))
fits-size false b n w i h = absurd (omega (arith, zero-mul w))

element_is : {A : Type 0} (l : List A) (k : ℕ) (e d : A) → get_elem? l k ≡ some e → get_or l k d ≡ e
element_is [] k e d h = absurd (none-ne-some e h)
element_is (x ∷ l) ℕ.zero e d h = some-injective x e h
element_is (x ∷ l) (suc k) e d h = element_is l k e d h

-- ── the walk ──

pub record Walking (t : Table) (head : Head) (ts : List ℕ) (k : ℕ) (old new behind : List ℕ) (dues : List (Option ℕ)) (sought : Sought) (p : ℕ) : Type 0 where
  pub most : p ≤ length ts
  pub room : length behind ≡ 1025
  pub due_room : length dues ≡ 1025
  pub as_long : length new ≡ length old
  pub due_is : value sought.due ≡ count_in dues (close_of (pending_at (tokens_of ts) p) (length (tokens_of ts)))
  pub due : Dues head.well (counts_at anywhere head.well (rules_of t head) (tokens_of ts)) (number_in behind) (count_in dues) (length (tokens_of ts)) (pending_at (tokens_of ts) p) sought.nonterminal
  pub small : sought.number < limit
  pub inside : sought.number < length (runs (rules_of t head) (sought.nonterminal, due_at head.well behind (pending_at (tokens_of ts) p) sought.nonterminal) (drop p (tokens_of ts)))
  pub onward : Onward (rules_of t head) (head.start, []) (tokens_of ts) k (take p new) p (sought.nonterminal, due_at head.well behind (pending_at (tokens_of ts) p) sought.nonterminal) sought.number
  pub kept : drop (suc (length (tokens_of ts))) new ≡ drop (suc (length (tokens_of ts))) old

module _ {t : Table} {head : Head} {ts closes mask : List ℕ} {rows : Rows} (x : Setting t head ts closes mask) (c : Complete anywhere head.well (rules_of t head) (tokens_of ts) rows) (k : ℕ) (old : List ℕ) (long : length ts < length old) where
  abbrev W : List Token
  W = tokens_of ts

  abbrev G : Rules
  G = rules_of t head

  abbrev U : ℕ
  U = head.well

  form : General U G
  form = ready_general t head x.indexed.ready

  abbrev Walks : List ℕ → List ℕ → List (Option ℕ) → Sought → ℕ → Type 0
  Walks new behind dues sought p = Walking t head ts k old new behind dues sought p

  pub walking_start : (behind : List ℕ) (dues : List (Option ℕ)) → length behind ≡ 1025 → length dues ≡ 1025 → ((j : ℕ) → j < 1025 → count_in dues j ≡ 1) → k < limit → k < length (entries (grammar_in t head) W) →
      Walks old behind dues (record { nonterminal = head.start; due = Some 1; number = k }) 0
  walking_start behind dues b d one small h = record {
    most = omega arith;
    room = b;
    due_room = d;
    as_long = refl;
    due_is = sym first;
    due = dues_none U (counts_at anywhere U G W) (number_in behind) Level (count_in dues) (length W) (pending_at W 0) head.start matching first;
    small = small;
    inside = rw (← nothing) h;
    onward = rw (← nothing) (λ f q. q);
    kept = refl;
  }
    where
      Level : CloseName × ℕ → CloseName × Nonterminals
      Level d = (d.0, (masks U G (drop (suc d.1) W)).0)

      -- there is a run, so nothing is due
      matching : Match U head.start [] (map Level (pending_at W 0))
      matching = rw (masks-outer U G W 0) at (run_fits U G form W head.start [] tt _ (at_member (entries (grammar_in t head) W) k [] h)).1

      nothing : [] ≡ due_at U behind (pending_at W 0) head.start
      nothing = due_none U behind Level (pending_at W 0) head.start matching

      first : count_in dues (close_of (pending_at W 0) (length W)) ≡ 1
      first = one _ (omega (arith, close_most W 0, tokens_length ts, x.tokens.few))

  module _ {new behind : List ℕ} {dues : List (Option ℕ)} {sought : Sought} {p : ℕ} (s : Walks new behind dues sought p) (found : Found) (chosen : Chosen U G W rows p sought found) where
    abbrev L : ℕ
    L = sought.nonterminal

    abbrev number : ℕ
    number = sought.number

    abbrev Rest : Stack
    Rest = due_at U behind (pending_at W p) L

    calm : Calm U L Rest
    calm = calm_due U behind (pending_at W p) L

    -- what is due is the weight of the stack
    due_first : value sought.due ≡ cap (due_product U (counts_at anywhere U G W) (number_in behind) (pending_at W p) L)
    due_first = s.due_is ∙ first_due U (counts_at anywhere U G W) (number_in behind) (count_in dues) (length W) (pending_at W p) L s.due

    due_weighs : value sought.due ≡ cap (weight U L Rest (counts anywhere U G p (drop p W)).1)
    due_weighs = due_first ∙ ap cap (sym (due_weight anywhere U G W p behind L))

    free : kth.Free anywhere U G W (suc p)
    free = all-free 1026 0 U G form W (suc p) (omega (arith, s.most, tokens_length ts)) (omega (arith, x.tokens.few, tokens_length ts))

    rule_found : kth.Located (size anywhere U G W p (L, Rest)) G number found.rule found.number
    rule_found = chosen anywhere Rest calm c free due_weighs s.small s.inside

    pub found_below : found.rule < head.rules
    found_below = rules_below t head.rules found.rule rule_found.is

    is_rule : rule_in t found.rule ≡ rule_found.rule
    is_rule = some-injective _ _ (sym (rules_at t head.rules found.rule found_below) ∙ rule_found.is)

    -- it is the theory's, by the table
    here_found : kth.Located (size anywhere U G W p (L, Rest)) G number found.rule found.number
    here_found = record { rule = rule_in t found.rule; is = rules_at t head.rules found.rule found_below; skipped = rule_found.skipped; inside = rw is_rule rule_found.inside }

    fits : (eqb (left (rule_in t found.rule)) L ≡ true) × (test_at U G (drop p W) (rule_in t found.rule) ≡ true)
    unfolding here_found
    fits = fits-size (eqb (left (rule_in t found.rule)) L) (test_at U G (drop p W) (rule_in t found.rule)) _ _ found.number here_found.inside

    state_fits : Fits U L Rest (masks U G (drop p W))
    state_fits = run_fits U G form (drop p W) L Rest calm _ (at_member (runs G (L, Rest) (drop p W)) number [] s.inside)

    module _ (more : p < length ts) where
      here : drop p W ≡ token_of (get_or ts p 0) ∷ drop (suc p) W
      here = tokens_at ts p more

      here_turn : Turn U G W (length W) behind p (token_of (get_or ts p 0)) here L found.rule (rule_in t found.rule)
      unfolding here_found
      here_turn =
          turn U G W (length W) behind p (token_of (get_or ts p 0)) here form L found.rule (rule_in t found.rule) (rw s.room (closing_room x p (omega arith))) state_fits here_found.is (eqb-true _ _ fits.0) fits.1

      close_counts : close_of (pending_at W (suc p)) (length W) < length W → (M : ℕ) → M < 32 → value_at rows (suc (close_of (pending_at W (suc p)) (length W))) M ≡ cap (counts_at anywhere U G W (suc (close_of (pending_at W (suc p)) (length W))) M)
      close_counts i M m = c.counted (suc (close_of (pending_at W (suc p)) (length W))) M (omega arith) i m

      pub walking_next : (j : ℕ) → j ≡ close_of (pending_at W (suc p)) (length W) → (later-due : Option ℕ) → value later-due ≡ due_with (rule_in t found.rule) (value_at rows (suc j)) (value sought.due) (count_in dues j) →
          Walks (set new p found.rule) (set behind j (later (rule_in t found.rule) (get_or behind j 0))) (set dues j later-due) (record { nonterminal = inner (rule_in t found.rule) (get_or behind p 0); due = later-due; number = found.number }) (p + 1)
      unfolding here_found
      walking_next j is later-due e =
          rw (is, add-one p)
          (record {
            most = more;
            room = length-set behind _ _ ∙ s.room;
            due_room = length-set dues _ _ ∙ s.due_room;
            as_long = length-set new p found.rule ∙ s.as_long;
            due_is = sym (ap value (get_or-set_same dues Close later-due (Some 0) due_room));
            due = dues_next U G W p (counts_at anywhere U G W) (number_in behind) (number_in behind') (count_in dues) (count_in dues') here_turn.goes (form _ _ here_found.is) calm here here_turn.fits apart (value_at rows (suc Close)) (value sought.due) (x.indexed.ready.small found.rule found_below) close_counts due_first (get_or-set_same behind Close _ 0 room) (ap value (get_or-set_same dues Close later-due (Some 0) due_room) ∙ rw is at e) refl s.due;
            small = omega (arith, here_found.skipped, s.small);
            inside = inside_next anywhere U G form W p free (L, Rest) calm (token_of (get_or ts p 0)) (drop (suc p) W) here number found.rule found.number here_found _ _ here_turn.goes;
            onward = rw (take-suc-set new p found.rule (omega (arith, s.as_long))) (kth-next anywhere U G form W p free (L, Rest) calm (head.start, []) k (take p new) (token_of (get_or ts p 0)) (drop (suc p) W) here number found.rule found.number here_found _ _ here_turn.goes s.onward);
            kept = drop-set-lt (suc (length W)) new p found.rule (omega (arith, tokens_length ts)) ∙ s.kept;
          })
        where
          Close : ℕ
          Close = close_of (pending_at W (suc p)) (length W)

          behind' : List ℕ
          behind' = set behind Close (later (rule_in t found.rule) (get_or behind Close 0))

          dues' : List (Option ℕ)
          dues' = set dues Close later-due

          room : Close < length behind
          room = rw s.room (closing_room x p (omega arith))

          due_room : Close < length dues
          due_room = rw s.due_room (closing_room x p (omega arith))

          apart : Apart U G W p (counts_at anywhere U G W) (number_in behind) (number_in behind') (count_in dues) (count_in dues')
          apart = record { numbers = λ j d. sym (get_or-set_other behind Close j _ 0 d); values = λ j d. sym (ap value (get_or-set_other dues Close j later-due (Some 0) d)) }

    -- at the end
    pub walked : p ≡ length ts → set new p found.rule ≡ get_or (entries (grammar_in t head) W) k [] ++ drop (length ts + 1) old
    walked e =
        let done : drop p W ≡ [] = drop_of_length-le W {i = p} (omega (arith, e, tokens_length ts)) in
        let last = kth-last anywhere U G form W p free (L, Rest) calm (head.start, []) k (take p new) done number found.rule found.number here_found s.onward in
        let front : take (suc p) (set new p found.rule) ≡ get_or (entries (grammar_in t head) W) k [] = take-suc-set new p found.rule (omega (arith, s.as_long)) ∙ sym (element_is (entries (grammar_in t head) W) k _ [] last) in
        let q : length ts + 1 ≡ suc p = omega (arith, e) in
        let z : suc p ≡ suc (length W) = omega (arith, e, tokens_length ts) in
        sym (take-append-drop (suc p) (set new p found.rule)) ∙ rw q (ap₂ ◌++◌ front (drop-set-lt (suc p) new p found.rule (omega arith) ∙ rw z s.kept))

-- ── what a turn may take for granted ──

module _ {t : Table} {head : Head} {ts closes mask : List ℕ} {rows : Rows} (x : Setting t head ts closes mask) (c : Complete anywhere head.well (rules_of t head) (tokens_of ts) rows) (k : ℕ) (old : List ℕ) (long : length ts < length old) {new behind : List ℕ} {dues : List (Option ℕ)} {sought : Sought} {p : ℕ} (s : Walking t head ts k old new behind dues sought p) (context : Context) (stands : (W : ℕ) → Stands W (tokens_of ts) mask p context) where
  module _ (found : Found) (finds : Finds t head sought context rows found) where
    goes : Chosen head.well (rules_of t head) (tokens_of ts) rows p sought found
    goes = chosen x rows p context (stands head.well) sought found finds

    -- what was found is a rule
    pub rule_room : found.rule < 128
    rule_room = omega (arith, x.indexed.ready.few, found_below x c k old long s found goes)

    pub rule_small : Below 32 (rule_in t found.rule)
    rule_small = x.indexed.ready.small found.rule (found_below x c k old long s found goes)

    -- the walk goes on
    pub turned : p < length ts → (later-due : Option ℕ) → value later-due ≡ due_with (rule_in t found.rule) (value_at rows (suc context.closing)) (value sought.due) (count_in dues context.closing) →
        Walking t head ts k old (set new p found.rule) (set behind context.closing (later (rule_in t found.rule) (get_or behind context.closing 0))) (set dues context.closing later-due) (record { nonterminal = inner (rule_in t found.rule) (get_or behind p 0); due = later-due; number = found.number }) (p + 1)
    turned more later-due e = walking_next x c k old long s found goes more context.closing (stands head.well).closing later-due e

    -- and at the end the reading is written
    pub done : p ≡ length ts → set new p found.rule ≡ get_or (entries (grammar_in t head) (tokens_of ts)) k [] ++ drop (length ts + 1) old
    done e = walked x c k old long s found goes e

-- inside a list it is all the same what is said to stand outside
pub same_inside : (l : List (Option ℕ)) (j : ℕ) → j < length l → get_or l j None ≡ get_or l j (Some 0)
same_inside [] j h = absurd (omega arith)
same_inside (x ∷ l) zero h = refl
same_inside (x ∷ l) (suc j) h = same_inside l j (omega arith)
