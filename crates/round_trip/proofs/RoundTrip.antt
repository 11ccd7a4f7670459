-- What is written reads back as it was, and any file that the reader passes is, from its numbers, written again byte for byte (document 02,
-- 2.2); a grammar that doesn't say its start comes back in the longer form, with the same meaning (2.3).
use Prim.Native.Nat.{ℕ, ◌≤◌}
use mathlib.Core.Path.{◌≡◌, refl, sym, ap, ◌∙◌}
use mathlib.Core.Logic.{inl, inr}
use mathlib.Core.Bool.{Bool, true, false, cond}
use mathlib.Core.List.{List, [], ◌∷◌, ◌++◌}
use borrow.Author.Tests.{le-ltb}
use lib.Dec.{ltb}
use lib.ListN.{length, get_or, take, drop}
use lib.Seq.{take-append_seam}
use Rattle.numbers.specs.believed.Number.{Source, bytes}
use Rattle.numbers.specs.Written.{AllBelow, written, Holds}
use Rattle.numbers.proofs.Written.{holds_is}
use Rattle.elements.specs.believed.Elements.{elements}
use Rattle.vpg.specs.believed.Grammar.{Grammar}
use Rattle.grammar_file.specs.believed.GrammarFile.{GrammarFile, grammar_from, grammar_of}
use Rattle.grammar_file.specs.believed.GrammarFile
use Rattle.grammar_file.specs.Wellformed.{Wellformed, numbers_of, numbers_without_start}
use Rattle.grammar_file.proofs.Accepted.{Said, grammar_is, grammar_wellformed}
use Rattle.grammar_file.proofs.BothWays.{numbers_small, grammar_both_ways}
use Rattle.history_file.specs.believed.HistoryFile.{HistoryFile, history_from, history_of}
use Rattle.history_file.specs.believed.HistoryFile
use Rattle.history_file.specs.Wellformed as history
use Rattle.history_file.proofs.Accepted.{history_is}
use Rattle.history_file.proofs.BothWays.{history_both_ways, numbers_small as history-small}
use Rattle.sources.proofs.Encoded.{bytes_below}
use Rattle.sources.proofs.Holding.{elements_hold, bytes_hold_one}
use Rattle.service.specs.believed.Given.{Given, given, refused, untouched}
use Rattle.writers.specs.believed.Writers.{filled, grammar_filled, history_filled, grammar_written, history_written}
use Rattle.writers.specs.Longer.{longer_form}
use Rattle.writers.proofs.Longer.{longer_numbers, longer_bytes, longer_stays}
use Rattle.round_trip.proofs.Answers.{apart}

-- ── a buffer that was filled ──

module _ (file buffer : List ℕ) where
  filled-holds : (n : ℕ) (out : List ℕ) → filled file buffer ≡ (given n, out) → take n out ≡ file
  filled-holds n out h = go (ltb (length buffer) (length file)) h
    where
      go : (b : Bool) → cond b (untouched buffer 15) (given (length file), file ++ drop (length file) buffer) ≡ (given n, out) → take n out ≡ file
      go true q = apart (sym q)
      go false q =
          let g : ◌≡◌ {A = Given ℕ} (given (length file)) (given n) = ap (λ p. p.0) q in
          let en : length file ≡ n = cc in
          let eo : file ++ drop (length file) buffer ≡ out = ap (λ p. p.1) q in
          rw (← en, ← eo) (take-append_seam file (drop (length file) buffer))

  filled_room : length file ≤ length buffer → filled file buffer ≡ (given (length file), file ++ drop (length file) buffer)
  filled_room h = rw (le-ltb (length buffer) (length file) h)

-- ── either file ──

-- the elements and the file say the same, and the file holds the elements, for a grammar in the longer form
pub record Back {F A : Type 0} (accepted : A → F) (from : Source → F) (form : List ℕ → List ℕ) (es file : List ℕ) : Type 0 where
  pub what : A
  pub elements-say : from (elements es) ≡ accepted what
  pub bytes-say : from (bytes file) ≡ accepted what
  pub numbers : Holds (bytes file) (form es)

-- the one list of numbers that a file holds, of which the writer makes a file, in a buffer with anything in it
pub record Made (writer : List ℕ → List ℕ → Given ℕ × List ℕ) (s file buffer : List ℕ) : Type 0 where
  pub numbers : List ℕ
  pub hold : Holds (bytes s) numbers
  pub only : (ns : List ℕ) → Holds (bytes s) ns → ns ≡ numbers
  pub made : writer numbers buffer ≡ (given (length file), file ++ drop (length file) buffer)

-- the same file again
abbrev pub Again : (List ℕ → List ℕ → Given ℕ × List ℕ) → List ℕ → List ℕ → Type 0
Again writer s buffer = Made writer s s buffer

-- a file says an A where it holds the numbers that are written for it, and it is good
module _ {F A : Type 0} (accepted : A → F) (from : Source → F) (numbers_of : A → List ℕ) (Good : A → Type 0)
    (says : (x : Source) (a : A) → Holds x (numbers_of a) → Good a → from x ≡ accepted a) (small : (a : A) → Good a → AllBelow 2097152 (numbers_of a)) where
  held : (a : A) → Good a → Holds (bytes (written (numbers_of a))) (numbers_of a)
  held a w = let ns = numbers_of a in (holds_is (written ns) (bytes_below ns (small a w)) ns (small a w)).1 refl

  back : (form : List ℕ → List ℕ) (es file : List ℕ) (a : A) → Good a → from (elements es) ≡ accepted a → form es ≡ numbers_of a → file ≡ written (numbers_of a)
      → Back accepted from form es file
  back form es file a w said e f =
      let h : Holds (bytes file) (numbers_of a) = rw f (held a w) in
      record { what = a; elements-say = said; bytes-say = says (bytes file) a h w; numbers = rw e h }

  again : (writer : List ℕ → List ℕ → Given ℕ × List ℕ) (s buffer : List ℕ) → length s ≤ length buffer → (a : A) → Good a → s ≡ written (numbers_of a)
      → (from (elements (numbers_of a)) ≡ accepted a → writer (numbers_of a) buffer ≡ filled (written (numbers_of a)) buffer) → Again writer s buffer
  again writer s buffer room a w e fills =
      let ns = numbers_of a in
      let h : Holds (bytes s) ns = rw e (held a w) in
      record {
        numbers = ns;
        hold = h;
        only = λ ms k. bytes_hold_one s ms ns k h;
        made = fills (says (elements ns) a ((elements_hold ns ns).1 refl) w) ∙ (ap (λ l. filled l buffer) (sym e) ∙ filled_room s buffer room);
      }

-- ── what the two files say ──

abbrev tokens_numbers : List ℕ → List ℕ
tokens_numbers ts = length ts ∷ ts

history_says : (x : Source) (ts : List ℕ) → Holds x (tokens_numbers ts) → history.Wellformed ts → history_from x ≡ HistoryFile.accepted ts
history_says x ts h w = (history_is x ts).1 (h, w)

first-zero : (s : List ℕ) → get_or s 0 1 ≡ 0 → get_or s 0 0 ≡ 0
first-zero [] z = refl
first-zero (n ∷ ns) z = z

-- ── grammars ──

grammar_says : (x : Source) (g : Grammar) → Holds x (numbers_of g) → Wellformed g → grammar_from x ≡ GrammarFile.accepted g
grammar_says x g h w = (grammar_is x g).1 (inl h, w)

-- what is written for elements that say a grammar
longer_said : (es : List ℕ) (g : Grammar) → Wellformed g → Said (elements es) g → longer_form es ≡ numbers_of g
longer_said es g w (inl h) = ap longer_form ((elements_hold es (numbers_of g)).0 h)
longer_said es g w (inr (h, z)) = ap longer_form ((elements_hold es (numbers_without_start g)).0 h) ∙ longer_numbers g w z

module _ (buffer : List ℕ) where
  pub grammar_reads_back : (es : List ℕ) (n : ℕ) (out : List ℕ) → grammar_written es buffer ≡ (given n, out)
      → Back GrammarFile.accepted grammar_from longer_form es (take n out)
  grammar_reads_back es n out h = go (grammar_from (elements es)) refl h
    where
      go : (f : GrammarFile) → grammar_from (elements es) ≡ f → grammar_filled f buffer ≡ (given n, out) → Back GrammarFile.accepted grammar_from longer_form es (take n out)
      go (GrammarFile.refused e) q r = apart (sym r)
      go (GrammarFile.accepted g) q r =
          let (s, w) = (grammar_is (elements es) g).0 q in
          back GrammarFile.accepted grammar_from numbers_of Wellformed grammar_says numbers_small longer_form es (take n out) g w q (longer_said es g w s)
          (filled-holds (written (numbers_of g)) buffer n out r)

  grammar_again : (s : List ℕ) → length s ≤ length buffer → (g : Grammar) → Wellformed g → s ≡ written (numbers_of g) → Again grammar_written s buffer
  grammar_again s room g w e =
      again GrammarFile.accepted grammar_from numbers_of Wellformed grammar_says numbers_small grammar_written s buffer room g w e
      (λ said. ap (λ f. grammar_filled f buffer) said)

  -- a file that says its start is written again byte for byte
  pub grammar_written_again : (s : List ℕ) → AllBelow 256 s → length s ≤ length buffer → (g : Grammar) → grammar_of s ≡ GrammarFile.accepted g
      → get_or s 0 1 ≡ 0 → Again grammar_written s buffer
  grammar_written_again s b room g h z =
      let (f, w) = (grammar_both_ways s b g).0 h in
      grammar_again s room g w (sym (longer_stays s (first-zero s z)) ∙ longer_bytes g w s f)

  -- and what was written, whatever the elements began with, is written again byte for byte
  pub grammar_rewritten : (es before : List ℕ) (n : ℕ) (out : List ℕ) → grammar_written es before ≡ (given n, out) → length (take n out) ≤ length buffer
      → Again grammar_written (take n out) buffer
  grammar_rewritten es before n out h room = go (grammar_from (elements es)) refl h
    where
      go : (f : GrammarFile) → grammar_from (elements es) ≡ f → grammar_filled f before ≡ (given n, out) → Again grammar_written (take n out) buffer
      go (GrammarFile.refused e) q r = apart (sym r)
      go (GrammarFile.accepted g) q r =
          grammar_again (take n out) room g (grammar_wellformed (elements es) g q) (filled-holds (written (numbers_of g)) before n out r)

  -- "an old file comes back in the longer form with the same meaning" (document 02, 2.3)
  pub grammar_comes_back : (s : List ℕ) → AllBelow 256 s → length (longer_form s) ≤ length buffer → (g : Grammar) → grammar_of s ≡ GrammarFile.accepted g
      → Made grammar_written s (longer_form s) buffer × (grammar_of (longer_form s) ≡ grammar_of s)
  grammar_comes_back s b room g h =
      let (f, w) = (grammar_both_ways s b g).0 h in
      let e = longer_bytes g w s f in
      let (said, w2) = (grammar_is (bytes s) g).0 h in
      (made w said e, rw e (grammar_says (bytes (written (numbers_of g))) g (held GrammarFile.accepted grammar_from numbers_of Wellformed grammar_says numbers_small g w) w) ∙ sym h)
    where
      of : (ns : List ℕ) → Wellformed g → Said (elements ns) g → Holds (bytes s) ns → longer_form s ≡ written (numbers_of g) → Made grammar_written s (longer_form s) buffer
      of ns w said hold e = record {
        numbers = ns;
        hold = hold;
        only = λ ms k. bytes_hold_one s ms ns k hold;
        made =
            ap (λ f. grammar_filled f buffer) ((grammar_is (elements ns) g).1 (said, w))
            ∙ (ap (λ l. filled l buffer) (sym e) ∙ filled_room (longer_form s) buffer room);
      }

      made : Wellformed g → Said (bytes s) g → longer_form s ≡ written (numbers_of g) → Made grammar_written s (longer_form s) buffer
      made w (inl k) e = of (numbers_of g) w (inl ((elements_hold (numbers_of g) (numbers_of g)).1 refl)) k e
      made w (inr (k, z)) e = of (numbers_without_start g) w (inr ((elements_hold (numbers_without_start g) (numbers_without_start g)).1 refl, z)) k e

  -- ── histories ──

  pub history_reads_back : (es : List ℕ) (n : ℕ) (out : List ℕ) → history_written es buffer ≡ (given n, out)
      → Back HistoryFile.accepted history_from (λ ns. ns) es (take n out)
  history_reads_back es n out h = go (history_from (elements es)) refl h
    where
      go : (f : HistoryFile) → history_from (elements es) ≡ f → history_filled f buffer ≡ (given n, out) → Back HistoryFile.accepted history_from (λ ns. ns) es (take n out)
      go (HistoryFile.refused e) q r = apart (sym r)
      go (HistoryFile.accepted ts) q r =
          let (k, w) = (history_is (elements es) ts).0 q in
          back HistoryFile.accepted history_from tokens_numbers history.Wellformed history_says history-small (λ ns. ns) es (take n out) ts w q
          ((elements_hold es (tokens_numbers ts)).0 k) (filled-holds (written (tokens_numbers ts)) buffer n out r)

  pub history_written_again : (s : List ℕ) → AllBelow 256 s → length s ≤ length buffer → (ts : List ℕ) → history_of s ≡ HistoryFile.accepted ts → Again history_written s buffer
  history_written_again s b room ts h =
      let (e, w) = (history_both_ways s b ts).0 h in
      again HistoryFile.accepted history_from tokens_numbers history.Wellformed history_says history-small history_written s buffer room ts w e
      (λ said. ap (λ f. history_filled f buffer) said)
