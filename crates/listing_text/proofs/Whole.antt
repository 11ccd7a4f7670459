-- The listing by what was found: a file refused, no reading, or the first one.
use Prim.Native.Nat.{ℕ, suc, ◌<◌}
use native.Mathlib.Numerals.{add-one}
use native.Mathlib.Omega.{arith}
use mathlib.Core.Path.{◌≡◌, refl, sym, ◌∙◌, ap, subst}
use mathlib.Core.Bool.{Bool, true, false, false≢true}
use mathlib.Core.List.Memᴰ
use mathlib.Core.List.{List, [], ◌∷◌, ◌++◌}
use lib.ListN.{length, take, drop, get_or}
use lib.Seq.{take_at}
use Rattle.vpg.specs.believed.Grammar.{Grammar}
use Rattle.vpg.specs.Runs.{entries}
use Rattle.sets_theory.specs.believed.Sets.{choice_count}
use Rattle.listing_model.specs.believed.Listing.{Answer, Subject, over, first, over_entries}
use Rattle.listing_model.specs.Calls.{call_on}
use Rattle.listing_model.proofs.Listing.{Proper}
use Rattle.history_file.specs.believed.HistoryFile.{tokens_of}
use Rattle.lines.specs.believed.Text.{tokens_line, choices_line, none_line}
use Rattle.listing_text.specs.believed.Listing.{listed_from, most_listed, readings_listed}
use Rattle.listing_text.specs.Passing.{Begun, is_written}
use Rattle.listing_text.proofs.Turns.{told, entries_are, entries_in_order}
use Rattle.refusal.specs.declared.Refusal.{Refusal}
use Rattle.refusal.specs.believed.Refusal.{number}
use Rattle.grammar_file.specs.believed.GrammarFile.{GrammarFile}
use Rattle.history_file.specs.believed.HistoryFile.{HistoryFile}
use Rattle.files.specs.declared.GrammarCounts.{GrammarCounts}
use Rattle.files.specs.believed.Checks.{accepted, refused, grammar_due}
use Rattle.files.specs.believed.Files as files
use Rattle.files.specs.believed.Files.{files_of}
use Rattle.lines.specs.believed.Text.{refused_grammar_line, refused_history_line}
use Rattle.listing_text.specs.believed.Listing.{files_listed}

-- ── the first reading ──

abbrev Started : List (List ℕ) → ℕ → Bool → List ℕ → Type 0
Started l n true new = (0 < length l) × (take (suc n) new ≡ get_or l 0 [])
Started l n false new = l ≡ []

started : (l : List (List ℕ)) (n : ℕ) → Proper (over l (suc n)) → (buf : List ℕ) (b : Bool) (new : List ℕ) → (b, new) ≡ told (call_on (over l (suc n)) first buf) → Started l n b new
started [] n p buf b new q = go b (ap (λ (x : Bool × List ℕ). x.0) q)
  where
    go : (b : Bool) → b ≡ false → Started [] n b new
    go true i = absurd (false≢true (sym i))
    go false i = refl
started (e ∷ l) n p buf b new q = go b (ap (λ (x : Bool × List ℕ). x.0) q)
  where
    go : (b : Bool) → b ≡ true → Started (e ∷ l) n b new
    go true i = (omega arith, ap (λ (x : Bool × List ℕ). take (suc n) x.1) q ∙ take_at e (drop (suc n) buf) (suc n) (p.1 e (Memᴰ.head refl)))
    go false i = absurd (false≢true i)

module _ (g : Grammar) (ts : List ℕ) where
  abbrev L : List (List ℕ)
  L = entries g (tokens_of ts)

  abbrev n : ℕ
  n = length ts

  first_started : (buf : List ℕ) (a : Answer) (new : List ℕ) → (a, new) ≡ call_on (over_entries g (tokens_of ts)) first buf → Started L n (is_written a) new
  first_started buf a new q =
      started L n (entries_in_order g ts) buf (is_written a) new (ap told (q ∙ ap (λ (x : Subject). call_on x first buf) (entries_are g ts)))

  pub first_begun : (buf : List ℕ) → n < length buf → (a : Answer) (new : List ℕ) → is_written a ≡ true → length new ≡ length buf → (a, new) ≡ call_on (over_entries g (tokens_of ts)) first buf → Begun L n new
  first_begun buf h a new is size q =
      let s : (0 < length L) × (take (suc n) new ≡ get_or L 0 []) = subst (λ (x : Bool). Started L n x new) is (first_started buf a new q) in
      record { some_one = s.0; room = omega (arith, size); holds = rw (add-one n) s.1 }

  pub first-some : (buf : List ℕ) (a : Answer) (new : List ℕ) → is_written a ≡ true → (a, new) ≡ call_on (over_entries g (tokens_of ts)) first buf → 0 < length L
  first-some buf a new is q = (subst (λ (x : Bool). Started L n x new) is (first_started buf a new q)).0

  pub first-none : (buf : List ℕ) (a : Answer) (new : List ℕ) → is_written a ≡ false → (a, new) ≡ call_on (over_entries g (tokens_of ts)) first buf → L ≡ []
  first-none buf a new is q = subst (λ (x : Bool). Started L n x new) is (first_started buf a new q)

-- ── the text ──

pub none-listed : (t : List ℕ) (d : ℕ) (l : List (List ℕ)) → l ≡ [] → t ++ none_line ≡ t ++ readings_listed d l
none-listed t d l h = ap (λ (m : List (List ℕ)). t ++ readings_listed d m) (sym h)

pub some-listed : (t : List ℕ) (d : ℕ) (l : List (List ℕ)) → 0 < length l → t ++ (choices_line d ++ listed_from most_listed 0 l) ≡ t ++ readings_listed d l
some-listed t d [] h = absurd (omega arith)
some-listed t d (e ∷ l) h = refl

-- ── a refused file ──

-- the grammar is refused, so the number is its own
pub grammar_told : (f : GrammarFile) (h : HistoryFile) (k : ℕ) (e : Refusal) → refused (number e) ≡ grammar_due f → (n : ℕ) → files_of f h ≡ files.refused n → k ≡ n → refused_grammar_line k ≡ files_listed f h
grammar_told (GrammarFile.refused d) h k e is n due same = ap refused_grammar_line (same ∙ sym (number_of due))
  where
    number_of : files.refused d ≡ files.refused n → d ≡ n
    number_of q = cc
grammar_told (GrammarFile.accepted g) h k e is n due same = absurd (let z : ◌≡◌ {A = ℕ} 0 1 = cc in omega arith)

-- the grammar is accepted, so the number is the history's
pub history_told : (f : GrammarFile) (h : HistoryFile) (k : ℕ) (c : GrammarCounts) → accepted (c.stages ∷ c.rules ∷ []) ≡ grammar_due f → (n : ℕ) → files_of f h ≡ files.refused n → k ≡ n → refused_history_line k ≡ files_listed f h
history_told (GrammarFile.refused d) h k c is n due same = absurd (let z : ◌≡◌ {A = ℕ} 0 1 = cc in omega arith)
history_told (GrammarFile.accepted g) (HistoryFile.refused d) k c is n due same = ap refused_history_line (same ∙ sym (number_of due))
  where
    number_of : files.refused d ≡ files.refused n → d ≡ n
    number_of q = cc
history_told (GrammarFile.accepted g) (HistoryFile.accepted ts) k c is n due same = absurd (let z : ◌≡◌ {A = ℕ} 0 1 = cc in omega arith)

-- ── both files pass ──

pub accepted_listed : (f : GrammarFile) (h : HistoryFile) (g : Grammar) (ts : List ℕ) → files_of f h ≡ files.accepted g ts →
    tokens_line (length ts) ++ readings_listed (choice_count g (tokens_of ts)) (entries g (tokens_of ts)) ≡ files_listed f h
accepted_listed (GrammarFile.refused k) h g ts e = absurd (let z : ◌≡◌ {A = ℕ} 0 1 = cc in omega arith)
accepted_listed (GrammarFile.accepted g') (HistoryFile.refused k) g ts e = absurd (let z : ◌≡◌ {A = ℕ} 0 1 = cc in omega arith)
accepted_listed (GrammarFile.accepted g') (HistoryFile.accepted ts') g ts e =
    let p : g ≡ g' = cc in
    let q : ts ≡ ts' = cc in
    rw (p, q) refl
