-- Going over a buffer, one position at a time.
use Prim.Native.Nat.{ℕ, suc, ◌+◌, ◌<◌, ◌≤◌}
use native.Mathlib.Numerals.{add-one}
use native.Mathlib.Omega.{arith}
use mathlib.Core.Path.{◌≡◌, refl, sym, ◌∙◌, subst}
use mathlib.Core.Bool.{Bool, true, false, ◌&&◌, false≢true}
use mathlib.Core.List.{List, [], ◌∷◌}
use borrow.Author.Tests.{ltb-true, lt-ltb}
use lib.Dec.{ltb}
use lib.ListN.{length, take, drop, get_or, set, replicate, length-set, drop_of_length-le}
use lib.Seq.{drop-cons, get_or-take, get_or-set_other, length-take-le}
use Rattle.laws.proofs.Lists.{heads}
use Rattle.vpg.specs.declared.Rule.{Rule}
use Rattle.vpg.specs.declared.Token.{Token}
use Rattle.vpg.specs.believed.Grammar.{Rules, General}
use Rattle.vpg.specs.Runs.{Stack, State}
use Rattle.laws.proofs.Bools.{and_left, and_right}
use Rattle.vpg.proofs.Take.{taken, ended}
use Rattle.level_theory.specs.Masks.{finishes, masks, Calm, Match}
use Rattle.level_theory.specs.Pending.{pending_at, close_of, due_at}
use Rattle.level_theory.specs.Walk.{Run, test_at, inner, later}
use Rattle.level_theory.specs.Local.{state_at, LeadsTo}
use Rattle.level_theory.proofs.Alive.{Passes, ends_empty, fits_all, run_fits}
use Rattle.level_theory.proofs.Search.{live}
use Rattle.level_theory.proofs.Walk.{passes_end}
use Rattle.level_theory.proofs.Local.{Turn, run_at, fits_next, leads_next}
use Rattle.level_theory.proofs.Pending.{calm_due}
use Rattle.contexts.specs.declared.Context.{Context}
use Rattle.tables.specs.declared.Head.{Head}
use Rattle.tables.specs.declared.Table.{Table}
use Rattle.tables.specs.Table.{rule_in}
use Rattle.tables.specs.Ready.{rules_of, grammar_in}
use Rattle.tables.proofs.Tables.{ready_general}
use Rattle.history_file.specs.believed.HistoryFile.{token_of, tokens_of}
use Rattle.levels.specs.Levels.{Leveled, Stands, Setting, derives_all}
use Rattle.levels.proofs.Levels.{tokens_length, tokens_at}
use Rattle.levels.proofs.Setting.{closing, closing_room}
use Rattle.moves.specs.Moves.{rule_fits}
use Rattle.first_run.proofs.Passing.{passes, none, fitting_turn}
use Rattle.first_run.proofs.Whole.{none_due, start_derives}
use Rattle.replay.specs.Replayed.{Reads}

-- the first number of a run is that of a rule that passes
run_passes : (U : ℕ) (g : Rules) → General U g → (v : List Token) (L : ℕ) (s : Stack) → Calm U L s → (r : ℕ) (x e : List ℕ) → e ≡ r ∷ x → Run g (L, s) v e → Passes (test_at U g v) g L r
unfolding test_at
run_passes U g form [] L s c r x e q h =
    let k = ended g L s e h in
    let z : r ≡ k.number = heads (sym q ∙ k.shape) in
    rw z (record { rule = Rule.Empty L; is = k.is; from = refl; passes = refl })
run_passes U g form (t ∷ v) L s c r x e q h =
    let k = taken g L s t v e h in
    let z : r ≡ k.number = heads (sym q ∙ k.shape) in
    rw z (live U form c k)

-- the numbers that are gone over are those of the buffer
pub number : (ts buf : List ℕ) (p : ℕ) → p ≤ length ts → get_or (take (suc (length ts)) buf) p 0 ≡ get_or buf p 0
number ts buf p h = get_or-take (suc (length ts)) buf p 0 (omega arith)

pub numbers : (ts buf : List ℕ) → length ts < length buf → length (take (suc (length ts)) buf) ≡ suc (length ts)
numbers ts buf long = length-take-le (suc (length ts)) buf long

-- the state at position 0: nothing is due
pub state_start : (U : ℕ) (w : List Token) (at f : List ℕ) {start : ℕ} → due_at U f (pending_at w 0) start ≡ [] → get_or at 0 0 ≡ start → state_at U w at f 0 ≡ (start, [])
state_start U w at f none e = rw (e, none)

-- position p is reached
pub record Replaying (t : Table) (head : Head) (ts e at f : List ℕ) (p : ℕ) : Type 0 where
  pub all : derives_all head.well (rules_of t head) (tokens_of ts) head.start ≡ true
  pub room_at : length at ≡ 1025
  pub room_behind : length f ≡ 1025
  pub begins : get_or at 0 0 ≡ head.start
  pub leads : LeadsTo head.well (rules_of t head) (tokens_of ts) at f e p
  pub due : Match head.well (get_or at p 0) (due_at head.well f (pending_at (tokens_of ts) p) (get_or at p 0)) (masks head.well (rules_of t head) (drop p (tokens_of ts))).1

module _ {t : Table} {head : Head} {ts m mask : List ℕ} (set-up : Setting t head ts m mask) (buf : List ℕ) (long : length ts < length buf) where
  abbrev W : List Token
  W = tokens_of ts

  abbrev G : Rules
  G = rules_of t head

  abbrev U : ℕ
  U = head.well

  form : General U G
  form = ready_general t head set-up.indexed.ready

  -- the numbers that are gone over
  abbrev E : List ℕ
  E = take (suc (length ts)) buf

  abbrev Reached : List ℕ → List ℕ → ℕ → Type 0
  Reached at f p = Replaying t head ts E at f p

  pub replaying_start : derives_all U G W head.start ≡ true → Reached (set (replicate 1025 0) 0 head.start) (replicate 1025 0) 0
  replaying_start h = record {
    all = h;
    room_at = refl;
    room_behind = refl;
    begins = refl;
    leads = λ q l. absurd (omega arith);
    due = (start_derives set-up (replicate 1025 0) h).1;
  }

  module _ {at f : List ℕ} {p : ℕ} (k : Reached at f p) (most : p ≤ length ts) (context : Context) (stands : Stands U W mask p context) where
    after : Leveled U G W mask (suc p)
    after q h l = set-up.leveled q (omega arith) l

    abbrev Stood : Bool
    Stood = ltb (get_or buf p 0) head.rules && rule_fits U (rule_in t (get_or buf p 0)) (get_or at p 0) context

    -- a number that does not stand here: the buffer holds no reading
    pub replaying_refused : Stood ≡ false → Run G (head.start, []) W E → ⊥
    replaying_refused q r =
        let x = run_at U G W at f E p (omega (arith, numbers ts buf long, most)) k.leads (subst (λ (s : State). Run G s W E) (sym (state_start U W at f (none_due set-up f k.all) k.begins)) r) in
        let y = run_passes U G form (drop p W) (get_or at p 0) (due_at U f (pending_at W p) (get_or at p 0)) (calm_due U f (pending_at W p) (get_or at p 0)) (get_or E p 0) (drop (suc p) E) (drop p E) (drop-cons E p 0 (omega (arith, numbers ts buf long, most))) x in
        none t head set-up.indexed.ready W mask p (get_or at p 0) context stands after (λ s. s ≡ get_or buf p 0) fails (get_or buf p 0) refl (rw (number ts buf p most) at y)
      where
        fails : (r : ℕ) → r < head.rules → r ≡ get_or buf p 0 → rule_fits U (rule_in t r) (get_or at p 0) context ≡ false
        fails r l e = rw e (rest (get_or buf p 0) (rw e at l) q)
          where
            rest : (r : ℕ) → r < head.rules → (ltb r head.rules && rule_fits U (rule_in t r) (get_or at p 0) context) ≡ false → rule_fits U (rule_in t r) (get_or at p 0) context ≡ false
            rest r l z = rw (lt-ltb r head.rules l) at z

    module _ (stood : Stood ≡ true) where
      pub rule_below : get_or buf p 0 < head.rules
      rule_below = ltb-true _ _ (and_left _ _ stood)

      fitting : rule_fits U (rule_in t (get_or buf p 0)) (get_or at p 0) context ≡ true
      fitting = and_right (ltb (get_or buf p 0) head.rules) _ stood

      pub replaying_end : p ≡ length ts → Reads (grammar_in t head) W E at f
      replaying_end e = record {
        all = k.all;
        begins = k.begins;
        leads = rw (e ∙ sym (tokens_length ts)) at k.leads;
        ends = rw (← (e ∙ sym (tokens_length ts)), number ts buf p most) (ends_empty G (get_or at p 0) (get_or buf p 0) (finished (drop p W) (drop_of_length-le W {i = p} (omega (arith, tokens_length ts))) (passes t head set-up.indexed.ready W mask p (get_or at p 0) context stands after (get_or buf p 0) rule_below fitting)));
        room_at = k.room_at;
        room_behind = k.room_behind;
      }
        where
          finished : (v : List Token) → v ≡ [] → Passes (test_at U G v) G (get_or at p 0) (get_or buf p 0) → Passes finishes G (get_or at p 0) (get_or buf p 0)
          finished v z x = passes_end U (rw z at x)

      module _ (more : p < length ts) where
        here : drop p W ≡ token_of (get_or ts p 0) ∷ drop (suc p) W
        here = tokens_at ts p more

        inside : close_of (pending_at W (suc p)) (length W) < length f
        inside = rw k.room_behind (closing_room set-up p (omega arith))

        here_turn : Turn U G W (length W) f p (token_of (get_or ts p 0)) here (get_or at p 0) (get_or E p 0) (rule_in t (get_or buf p 0))
        here_turn =
            rw (number ts buf p most)
            (fitting_turn t head set-up.indexed.ready W mask p (get_or at p 0) context stands after form f (token_of (get_or ts p 0)) here inside k.due (get_or buf p 0) rule_below fitting)

        pub replaying_next : Reached (set at (p + 1) (inner (rule_in t (get_or buf p 0)) (get_or f p 0))) (set f (get_or m p 0) (later (rule_in t (get_or buf p 0)) (get_or f (get_or m p 0) 0))) (p + 1)
        replaying_next =
            let room : suc p < length at = omega (arith, k.room_at, set-up.tokens.few) in
            rw (closing set-up p (omega arith), add-one p)
            (record {
              all = k.all;
              room_at = length-set at _ _ ∙ k.room_at;
              room_behind = length-set f _ _ ∙ k.room_behind;
              begins = get_or-set_other at (suc p) 0 _ 0 (λ z. omega arith) ∙ k.begins;
              leads = leads_next U G W (length W) at f E p (token_of (get_or ts p 0)) here (rule_in t (get_or buf p 0)) here_turn room k.leads;
              due = (fits_next U G W (length W) at f E p (token_of (get_or ts p 0)) here (rule_in t (get_or buf p 0)) here_turn room).1;
            })

-- where the start doesn't derive all tokens there is no run of them
pub none_derives : {t : Table} {head : Head} {ts m mask : List ℕ} → Setting t head ts m mask → derives_all head.well (rules_of t head) (tokens_of ts) head.start ≡ false →
    (e : List ℕ) → Run (rules_of t head) (head.start, []) (tokens_of ts) e → ⊥
none_derives {t = t} {head = head} {ts = ts} set-up h e r =
    let g = rules_of t head in
    let w = tokens_of ts in
    false≢true (sym h ∙ fits_all head.well head.start (masks head.well g w).0 (masks head.well g w).1 (run_fits head.well g (ready_general t head set-up.indexed.ready) w head.start [] tt e r))
