-- The forward pass, one position at a time: what is written so far, and the end.
use Prim.Native.Nat.{ℕ, suc, ◌+◌, ◌<◌}
use native.Mathlib.Numerals.{add-one}
use native.Mathlib.Omega.{arith}
use mathlib.Core.Path.{◌≡◌, refl, sym, ◌∙◌, ap}
use mathlib.Core.List.{List, [], ◌∷◌, ◌++◌, append_assoc, append-nil}
use lib.ListN.{length, take, drop, get_or, set, length-set, drop_of_length-le}
use lib.Seq.{take-suc-set, drop-set-lt}
use Rattle.vpg.specs.declared.Rule.{Rule}
use Rattle.vpg.specs.declared.Token.{Token}
use Rattle.vpg.specs.believed.Grammar.{Rules, General}
use Rattle.vpg.specs.Extremes.{Least}
use Rattle.vpg.specs.Runs.{Stack, State}
use Rattle.level_theory.specs.Masks.{masks, Fits}
use Rattle.level_theory.specs.Pending.{Closes, pending_at, close_of, due_at}
use Rattle.level_theory.specs.Walk.{Run, test_at, inner, later}
use Rattle.level_theory.proofs.Alive.{Passes}
use Rattle.level_theory.proofs.Search.{None, end_first}
use Rattle.level_theory.proofs.Local.{Turn, Then, first-turn}
use Rattle.level_theory.proofs.Walk.{passes_end, end_passes}
use Rattle.contexts.specs.declared.Context.{Context}
use Rattle.tables.specs.declared.Head.{Head}
use Rattle.tables.specs.declared.Table.{Table}
use Rattle.tables.specs.Table.{rule_in}
use Rattle.tables.specs.Ready.{rules_of}
use Rattle.tables.proofs.Tables.{ready_general}
use Rattle.history_file.specs.believed.HistoryFile.{token_of, tokens_of}
use Rattle.levels.specs.Levels.{Leveled, Stands, Setting}
use Rattle.rule_index.specs.Index.{FirstEmpty}
use Rattle.contexts.specs.Context.{end_context}
use Rattle.contexts.proofs.Ends.{end_ends}
use Rattle.levels.proofs.Levels.{tokens_length, tokens_at, pending_end, stands_end}
use Rattle.levels.proofs.Setting.{closing, closing_room}
use Rattle.first_run.specs.declared.Configuration.{Configuration}
use Rattle.moves.specs.Moves.{Smallest}
use Rattle.moves.proofs.Walking.{empty_smallest}
use Rattle.first_run.specs.Fill.{state_of, Derives, Filled}
use Rattle.first_run.proofs.Passing.{passes, found, least, fitting_turn}

-- before position p stands the front of a run from a configuration whose rest is to be the first run from the state s
pub record Sofar (U : ℕ) (g : Rules) (w : List Token) (from : Configuration) (s : State) (p : ℕ) (old new : List ℕ) : Type 0 where
  pub run : List ℕ
  pub is : take p new ≡ take from.position old ++ run
  pub least : (e : List ℕ) → Least (Run g s (drop p w)) e → Least (Run g (state_of U w from) (drop from.position w)) (run ++ e)

pub sofar_start : (U : ℕ) (g : Rules) (w : List Token) (from : Configuration) (old : List ℕ) → Sofar U g w from (state_of U w from) from.position old old
sofar_start U g w from old = record { run = []; is = sym (append-nil (take from.position old)); least = λ e h. h }

front : (from p r : ℕ) (old new run : List ℕ) → p < length new → take p new ≡ take from old ++ run → take (suc p) (set new p r) ≡ take from old ++ (run ++ (r ∷ []))
front from p r old new run h e = take-suc-set new p r h ∙ rw (e, append_assoc)

module _ (U : ℕ) (g : Rules) (form : General U g) (w : List Token) (from : Configuration) (old : List ℕ) where
  pub sofar_next : (n : ℕ) (f : List ℕ) (p : ℕ) (t : Token) (here : drop p w ≡ t ∷ drop (suc p) w) (L r : ℕ) (R : Rule) (new : List ℕ) → p < length new →
      Turn U g w n f p t here L r R → None (test_at U g (drop p w)) g L (λ q. q < r) → Sofar U g w from (L, due_at U f (pending_at w p) L) p old new →
      Sofar U g w from (Then U g w n f p t here R) (suc p) old (set new p r)
  sofar_next n f p t here L r R new h u d k = record {
    run = k.run ++ (r ∷ []);
    is = front from.position p r old new k.run h k.is;
    least = λ e x. rw append_assoc (k.least (r ∷ e) (first-turn U g w n f p t here form L r R e u d x));
  }

  -- at the end nothing is due
  pub filled_end : (f : List ℕ) (L r : ℕ) (new : List ℕ) → length w < length new → pending_at w (length w) ≡ [] → Passes (test_at U g (drop (length w) w)) g L r →
      None (test_at U g (drop (length w) w)) g L (λ q. q < r) → Sofar U g w from (L, due_at U f (pending_at w (length w)) L) (length w) old new →
      drop (suc (length w)) new ≡ drop (suc (length w)) old → Filled U g w from old (set new (length w) r)
  filled_end f L r new h e p d k q = record {
    run = k.run ++ (r ∷ []);
    least = k.least (r ∷ []) (ending (due_at U f (pending_at w (length w)) L) (ap (λ (l : Closes). due_at U f l L) e));
    written = front from.position (length w) r old new k.run h k.is;
    kept = drop-set-lt (suc (length w)) new (length w) r (omega arith) ∙ q;
  }
    where
      done : drop (length w) w ≡ []
      done = drop_of_length-le w {i = length w} (omega arith)

      at_end : (v : List Token) → drop (length w) w ≡ v → v ≡ [] → Passes (test_at U g v) g L r → None (test_at U g v) g L (λ q. q < r) → Least (Run g (L, []) v) (r ∷ [])
      at_end v a b x y = rw b (end_first g L r (passes_end U (rw b at x)) (λ q l z. (rw b at y) q l (end_passes U z)))

      ending : (s : Stack) → s ≡ [] → Least (Run g (L, s) (drop (length w) w)) (r ∷ [])
      ending s z = rw z (at_end (drop (length w) w) refl done p d)

-- ── the loop ──

pub record Going (t : Table) (head : Head) (ts : List ℕ) (from : Configuration) (old new due : List ℕ) (L p : ℕ) : Type 0 where
  pub room : length due ≡ 1025
  pub as_long : length new ≡ length old
  pub fits : Fits head.well L (due_at head.well due (pending_at (tokens_of ts) p) L) (masks head.well (rules_of t head) (drop p (tokens_of ts)))
  pub sofar : Sofar head.well (rules_of t head) (tokens_of ts) from (L, due_at head.well due (pending_at (tokens_of ts) p) L) p old new
  pub kept : drop (suc (length (tokens_of ts))) new ≡ drop (suc (length (tokens_of ts))) old

module _ {t : Table} {head : Head} {ts m mask : List ℕ} (set-up : Setting t head ts m mask) (from : Configuration) (old : List ℕ) (long : length ts < length old) where
  abbrev W : List Token
  W = tokens_of ts

  abbrev G : Rules
  G = rules_of t head

  abbrev U : ℕ
  U = head.well

  form : General U G
  form = ready_general t head set-up.indexed.ready

  abbrev Goes : List ℕ → List ℕ → ℕ → ℕ → Type 0
  Goes new due L p = Going t head ts from old new due L p

  pub going_start : length from.behind ≡ 1025 → Derives U G W from → Goes old from.behind from.nonterminal from.position
  going_start b f = record {
    room = b;
    as_long = refl;
    fits = f;
    sofar = sofar_start U G W from old;
    kept = refl;
  }

  module _ {new due : List ℕ} {L p : ℕ} (k : Goes new due L p) (context : Context) (stands : Stands U W mask p context) (r : ℕ) (small : Smallest t head L context r) where
    after : Leveled U G W mask (suc p)
    after q h l = set-up.leveled q (omega arith) l

    -- a rule is found
    pub found_rule : r < head.rules
    found_rule = found t head set-up.indexed.ready W mask p L context stands after r k.fits.0 small

    passing : Passes (test_at U G (drop p W)) G L r
    passing = passes t head set-up.indexed.ready W mask p L context stands after r found_rule (small.found found_rule)

    none_before : None (test_at U G (drop p W)) G L (λ q. q < r)
    none_before = least t head set-up.indexed.ready W mask p L context stands after r small

    module _ (more : p < length ts) where
      here : drop p W ≡ token_of (get_or ts p 0) ∷ drop (suc p) W
      here = tokens_at ts p more

      inside : close_of (pending_at W (suc p)) (length W) < length due
      inside = rw k.room (closing_room set-up p (omega arith))

      here_turn : Turn U G W (length W) due p (token_of (get_or ts p 0)) here L r (rule_in t r)
      here_turn = fitting_turn t head set-up.indexed.ready W mask p L context stands after form due (token_of (get_or ts p 0)) here inside k.fits.1 r found_rule (small.found found_rule)

      pub going_next : Goes (set new p r) (set due (get_or m p 0) (later (rule_in t r) (get_or due (get_or m p 0) 0))) (inner (rule_in t r) (get_or due p 0)) (p + 1)
      going_next =
          rw (closing set-up p (omega arith), add-one p)
          (record {
            room = length-set due _ _ ∙ k.room;
            as_long = length-set new p r ∙ k.as_long;
            fits = here_turn.fits;
            sofar = sofar_next U G form W from old (length W) due p (token_of (get_or ts p 0)) here L r (rule_in t r) new (omega (arith, k.as_long)) here_turn none_before k.sofar;
            kept = drop-set-lt (suc (length W)) new p r (omega (arith, tokens_length ts)) ∙ k.kept;
          })

    going_end : p ≡ length ts → Filled U G W from old (set new (length ts) r)
    going_end e = rw (sym (tokens_length ts)) (at_end p (e ∙ sym (tokens_length ts)) k passing none_before)
      where
        at_end : (p : ℕ) → p ≡ length W → Goes new due L p → Passes (test_at U G (drop p W)) G L r → None (test_at U G (drop p W)) G L (λ q. q < r) → Filled U G W from old (set new (length W) r)
        at_end p q k x y =
            filled_end U G form W from old due L r new (omega (arith, k.as_long, tokens_length ts)) (pending_end W (length W) (omega arith)) (rw q at x) (rw q at y) (rw q at k.sofar) k.kept

  -- at the end stands the empty rule of the nonterminal
  module _ {new due : List ℕ} {L p : ℕ} (k : Goes new due L p) (e : p ≡ length ts) (r : ℕ) (first : FirstEmpty t head.rules L r) where
    smallest_end : Smallest t head L (end_context p) r
    smallest_end = empty_smallest t head L (end_context p) r (end_ends U (end_context p) (omega arith) L) first

    pub ended : Filled U G W from old (set new (length ts) r)
    ended = going_end k (end_context p) (stands_end U W mask p (e ∙ sym (tokens_length ts))) r smallest_end e
