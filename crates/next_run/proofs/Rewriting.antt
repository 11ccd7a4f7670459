-- What is written from the position found on.
use Prim.Native.Nat.{ℕ, suc, ◌<◌}
use native.Mathlib.Omega.{arith}
use mathlib.Core.Path.{◌≡◌, refl, ◌∙◌}
use mathlib.Core.List.{List, [], ◌∷◌, append_assoc}
use lib.ListN.{length, drop, set, drop_of_length-le}
use lib.Seq.{take-suc-set, drop-set-lt}
use Rattle.vpg.specs.declared.Token.{Token}
use Rattle.vpg.specs.believed.Grammar.{Rules}
use Rattle.vpg.specs.Extremes.{Least}
use Rattle.vpg.specs.Runs.{State}
use Rattle.level_theory.specs.Walk.{Run}
use Rattle.tables.specs.declared.Head.{Head}
use Rattle.tables.specs.declared.Table.{Table}
use Rattle.tables.specs.Ready.{rules_of}
use Rattle.first_run.specs.Fill.{state_of, Filled}
use Rattle.next_run.specs.declared.Branch.{Branch}
use Rattle.next_run.specs.Next.{Follows, onward, Rewritten}

module _ (t : Table) (head : Head) (w : List Token) (closes : List ℕ) (b : Branch) (old : List ℕ) (long : length w < length old) where
  abbrev G : Rules
  G = rules_of t head

  abbrev S : State
  S = state_of head.well w (onward t closes b)

  pub rewritten_on : (u : Token) (new : List ℕ) → b.from.position < length w → drop b.from.position w ≡ u ∷ drop (suc b.from.position) w → Filled head.well G w (onward t closes b) (set old b.from.position b.rule) new → Rewritten t head w closes b old new
  rewritten_on u new h e k = record {
    rest = k.run;
    follows = following (drop b.from.position w) e k.least;
    written = k.written ∙ rw (take-suc-set old b.from.position b.rule (omega arith), append_assoc);
    kept = k.kept ∙ drop-set-lt (suc (length w)) old b.from.position b.rule (omega arith);
  }
    where
      following : (v : List Token) → v ≡ u ∷ drop (suc b.from.position) w → Least (Run G S (drop (suc b.from.position) w)) k.run → Follows G S v k.run
      following v q x = rw q x

  pub rewritten_end : b.from.position ≡ length w → Rewritten t head w closes b old (set old b.from.position b.rule)
  rewritten_end e = record {
    rest = [];
    follows = ended (drop b.from.position w) (drop_of_length-le w {i = b.from.position} (omega arith));
    written = rw (← e) (take-suc-set old b.from.position b.rule (omega arith));
    kept = drop-set-lt (suc (length w)) old b.from.position b.rule (omega arith);
  }
    where
      ended : (v : List Token) → v ≡ [] → Follows G S v []
      ended v q = rw q refl
