-- From the start: the first run of all tokens is the first entry, and without one there is no entry.
use Prim.Native.Nat.{ℕ, suc}
use mathlib.Core.Path.{◌≡◌, sym, ◌∙◌, ap₂}
use mathlib.Core.Bool.{true, false, false≢true}
use mathlib.Core.List.{List, [], ◌++◌}
use lib.ListN.{length, drop, take-append-drop}
use Rattle.vpg.specs.declared.Token.{Token}
use Rattle.vpg.specs.believed.Grammar.{Grammar}
use Rattle.vpg.specs.Extremes.{Least}
use Rattle.vpg.specs.Runs.{Stack, entries}
use Rattle.vpg.proofs.Ascends.{entries_ascending}
use Rattle.listing_model.specs.believed.Listing.{first, written, no_reading, over_entries}
use Rattle.listing_model.specs.Calls.{call_on}
use Rattle.listing_model.proofs.Calls.{first-written, first_nothing}
use Rattle.level_theory.specs.Masks.{masks}
use Rattle.level_theory.specs.Pending.{pending_at, due_at}
use Rattle.level_theory.specs.Walk.{Run}
use Rattle.level_theory.proofs.Alive.{all-fits, fits_all, run_fits}
use Rattle.level_theory.proofs.Pending.{masks-outer, due_none}
use Rattle.tables.specs.declared.Head.{Head}
use Rattle.tables.specs.declared.Table.{Table}
use Rattle.tables.specs.Ready.{grammar_in}
use Rattle.tables.proofs.Tables.{ready_general}
use Rattle.history_file.specs.believed.HistoryFile.{tokens_of}
use Rattle.levels.specs.Levels.{Setting, derives_all}
use Rattle.first_run.specs.declared.Configuration.{Configuration}
use Rattle.first_run.specs.Fill.{Derives, Filled}

module _ {t : Table} {head : Head} {ts m mask : List ℕ} (set-up : Setting t head ts m mask) where
  abbrev W : List Token
  W = tokens_of ts

  abbrev G : Grammar
  G = grammar_in t head

  -- the start, with any array of what is behind closes
  abbrev from_start : List ℕ → Configuration
  from_start f = record { position = 0; nonterminal = head.start; behind = f }

  abbrev U : ℕ
  U = head.well

  -- what the array says is due before the first token, where the start derives all of them
  pub none_due : (f : List ℕ) → derives_all U G.rules W head.start ≡ true → due_at U f (pending_at W 0) head.start ≡ []
  none_due f h = sym (due_none U f (λ d. (d.0, (masks U G.rules (drop (suc d.1) W)).0)) (pending_at W 0) head.start (rw (masks-outer U G.rules W 0) at (all-fits U head.start (masks U G.rules W).0 (masks U G.rules W).1 h).1))

  -- the start derives all tokens
  pub start_derives : (f : List ℕ) → derives_all U G.rules W head.start ≡ true → Derives U G.rules W (from_start f)
  start_derives f h = rw (none_due f h) (all-fits U head.start (masks U G.rules W).0 (masks U G.rules W).1 h)

  pub first_is : (f old new : List ℕ) → derives_all U G.rules W head.start ≡ true → Filled U G.rules W (from_start f) old new → (written, new) ≡ call_on (over_entries G W) first old
  first_is f old new h k =
      let l : Least (Run G.rules (head.start, []) W) k.run = least_at (due_at U f (pending_at W 0) head.start) (none_due f h) k.least in
      let e : new ≡ k.run ++ drop (suc (length W)) old = sym (take-append-drop (suc (length W)) new) ∙ ap₂ ◌++◌ k.written k.kept in
      rw e (sym (first-written (entries G W) (suc (length W)) old k.run (entries_ascending G W) l))
    where
      least_at : (s : Stack) → s ≡ [] → Least (Run G.rules (head.start, s) W) k.run → Least (Run G.rules (head.start, []) W) k.run
      least_at s e h = rw e at h

  pub none_is : (old : List ℕ) → derives_all U G.rules W head.start ≡ false → (no_reading, old) ≡ call_on (over_entries G W) first old
  none_is old h =
      sym (first_nothing (entries G W) (suc (length W)) old
      (λ e m. false≢true (sym h ∙ fits_all U head.start (masks U G.rules W).0 (masks U G.rules W).1 (run_fits U G.rules (ready_general t head set-up.indexed.ready) W head.start [] tt e m))))
