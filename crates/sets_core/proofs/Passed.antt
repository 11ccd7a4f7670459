-- The whole state of the pass before a position, one turn of it, and what it says at the end.
use Prim.Native.Nat.{ℕ, ◌+◌, ◌*◌, ◌%◌, ◌<◌, ◌≤◌}
use native.Mathlib.Omega.{arith}
use mathlib.Core.Path.{◌≡◌, refl}
use mathlib.Core.Bool.{Bool}
use mathlib.Core.List.{List, ◌++◌}
use lib.Bits.{bit_and, bit_or}
use lib.Dec.{ltb}
use lib.ListN.{length, get_or, set, take, drop, replicate}
use Rattle.sets_theory.specs.believed.Sets.{one, choice_count, set_words}
use Rattle.tables.specs.declared.Head.{Head}
use Rattle.tables.specs.declared.Table.{Table}
use Rattle.tables.specs.Ready.{grammar_in, rules_of}
use Rattle.contexts.specs.declared.Context.{Context}
use Rattle.history_file.specs.believed.HistoryFile.{tokens_of}
use Rattle.levels.specs.Levels.{Stands, Setting, derives_all}
use Rattle.levels.proofs.Levels.{tokens_length}
use Rattle.rule_set.specs.declared.Ways.{Ways}
use Rattle.rule_set.specs.RuleSet.{ways_in, words_in}
use Rattle.sets_core.specs.Start.{start_set}
use Rattle.sets_core.proofs.Pass.{Going, going_start, going_next, words_here, choice_here}
use Rattle.sets_core.proofs.Counts.{Choices, choices-none, choices_most, choices-next, choices-all}
use Rattle.sets_core.proofs.Written.{Written, written_none, written_next, written_all}

-- before position p the pass stands where `Going` says, the words of the positions before p are written over the old ones, if they are asked
-- for, and the choices among these positions are counted
pub record Passed (t : Table) (head : Head) (ts : List ℕ) (asked : Type 0) (old : List ℕ) (p here : ℕ) (behind words : List ℕ) (count : ℕ) : Type 0 where
  pub going : Going t head ts p here behind
  pub written : asked → Written (grammar_in t head) (tokens_of ts) old p words
  pub counted : Choices (grammar_in t head) (tokens_of ts) p count

module _ {t : Table} {head : Head} {ts m mask : List ℕ} (x : Setting t head ts m mask) {asked : Type 0} {old : List ℕ} where
  pub passed_none : {d : Bool} → d ≡ derives_all head.well (rules_of t head) (tokens_of ts) head.start → Passed t head ts asked old 0 (start_set d head.start) (replicate 1025 0) old 0
  passed_none e = record { going = going_start x e; written = λ a. written_none; counted = choices-none }

  module _ {p here : ℕ} {behind words : List ℕ} {count : ℕ} (k : Passed t head ts asked old p here behind words count) where
    pub passed_few : p ≤ length ts → count < 2000
    passed_few h = omega (arith, x.tokens.few, choices_most k.counted)

    module _ (h : p ≤ length ts) (room : asked → 4 * (length ts + 1) ≤ length old) (context : Context) (s : Stands head.well (tokens_of ts) mask p context) where
      pub passed_next : {ways : Ways} {words' : List ℕ} {next count' : ℕ} {behind' : List ℕ} →
          ways ≡ ways_in head.well t here context head.rules →
          (asked → words' ≡ take (4 * p) words ++ words_in head.well t here context head.rules ++ drop (4 * p + 4) words) →
          (next ≡ bit_or (get_or behind p 0) ways.next) × (behind' ≡ set behind (get_or m p 0) (bit_or (get_or behind (get_or m p 0) 0) ways.behind)) →
          count' ≡ one (ltb (bit_and here (get_or mask p 0 % 4294967296)) ways.sum) + count →
          Passed t head ts asked old (p + 1) next behind' words' count'
      passed_next e w o c = record {
        going = going_next x k.going h context s e o.0 o.1;
        written = λ a. rw (w a) (written_next (k.written a) (omega (arith, room a)) (words_here x k.going h context s refl));
        counted = choices-next k.counted (choice_here x k.going h context s e) c;
      }

  pub passed_all : {p here : ℕ} {behind words : List ℕ} {count : ℕ} → Passed t head ts asked old p here behind words count → p ≡ length ts + 1 →
      (count ≡ choice_count (grammar_in t head) (tokens_of ts)) × (asked → words ≡ set_words (grammar_in t head) (tokens_of ts) ++ drop (4 * (length ts + 1)) old)
  passed_all k e = (choices-all k.counted (tokens_length ts) e, λ a. written_all (k.written a) (tokens_length ts) e)
