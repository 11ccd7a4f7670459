-- No listing is longer than 22,000,000 bytes.
use Prim.Native.Nat.{ℕ, zero, suc, ◌+◌, ◌*◌, ◌/◌, ◌%◌, ◌≤◌}
use native.Mathlib.Omega.{arith}
use mathlib.Core.Path.{◌≡◌, refl}
use mathlib.Core.Bool.{Bool, true, false, cond}
use mathlib.Core.List.{List, [], ◌∷◌, ◌++◌, Memᴰ}
use lib.Dec.{ltb}
use lib.ListN.{length, length-append, length-map}
use Rattle.vpg.specs.Runs.{entries}
use Rattle.sets_theory.specs.believed.Sets.{choice_count}
use Rattle.listing_model.proofs.Listing.{entries_proper}
use Rattle.grammar_file.specs.believed.GrammarFile.{GrammarFile, grammar_of}
use Rattle.history_file.specs.believed.HistoryFile.{HistoryFile, history_of, token_of, tokens_of}
use Rattle.history_file.proofs.Accepted.{history_wellformed}
use Rattle.numbers.specs.believed.Number.{bytes}
use Rattle.lines.specs.believed.Text.{decimal_by, decimal, line_end, number_line, reading_text, reading_line, tokens_line, choices_line, tokens_word, choices_word, end_word, more_word, refused_word, grammar_word, history_word}
use Rattle.listing_text.specs.believed.Listing.{listed_from, most_listed, readings_listed, files_listed, listing}

-- ── lines ──

digits_short : (k n : ℕ) → length (decimal_by k n) ≤ k
digits_short zero n = omega arith
digits_short (suc k) n = go (ltb n 10) (digits_short k (n / 10))
  where
    go : (b : Bool) → length (decimal_by k (n / 10)) ≤ k → length (cond b [] (decimal_by k (n / 10)) ++ ((48 + n % 10) ∷ [])) ≤ suc k
    go true h = omega arith
    go false h = rw (length-append (decimal_by k (n / 10)) ((48 + n % 10) ∷ [])) (omega arith)

decimal_short : (n : ℕ) → length (decimal n) ≤ 20
unfolding decimal
decimal_short n = digits_short 20 n

number_line_short : (word : List ℕ) (n : ℕ) → length (number_line word n) ≤ length word + 21
number_line_short word n =
    rw (length-append (word ++ decimal n) line_end, length-append word (decimal n)) (omega (arith, decimal_short n))

rules_short : (e : List ℕ) → length (reading_text e) ≤ 21 * length e
unfolding reading_text
rules_short [] = omega arith
rules_short (r ∷ e) = rw (length-append (decimal r) (reading_text e)) (omega (arith, decimal_short r, rules_short e))

reading_line_short : (k : ℕ) (e : List ℕ) → length e ≤ 1025 → length (reading_line k e) ≤ 21547
reading_line_short k e h =
    rw (length-append (decimal k ++ (58 ∷ []) ++ reading_text e) line_end, length-append (decimal k ++ (58 ∷ [])) (reading_text e), length-append (decimal k) (58 ∷ []))
    (omega (arith, decimal_short k, rules_short e))

-- ── the whole ──

listed_short : (left k : ℕ) (l : List (List ℕ)) → ((e : List ℕ) → Memᴰ e l → length e ≤ 1025) → length (listed_from left k l) ≤ 21547 * left + 26
unfolding listed_from
listed_short zero k [] h = omega (arith, number_line_short end_word k)
listed_short (suc left) k [] h = omega (arith, number_line_short end_word k)
listed_short zero k (e ∷ l) h = omega (arith, number_line_short more_word k)
listed_short (suc left) k (e ∷ l) h =
    rw (length-append (reading_line (suc k) e) (listed_from left (suc k) l))
    (omega (arith, reading_line_short (suc k) e (h e (Memᴰ.head refl)), listed_short left (suc k) l (λ f m. h f (Memᴰ.tail m))))

readings_short : (d : ℕ) (l : List (List ℕ)) → ((e : List ℕ) → Memᴰ e l → length e ≤ 1025) → length (readings_listed d l) ≤ 21547056
readings_short d [] h = omega arith
readings_short d (e ∷ l) h =
    rw (length-append (choices_line d) (listed_from most_listed 0 (e ∷ l))) (omega (arith, number_line_short choices_word d, listed_short 1000 0 (e ∷ l) h))

-- the longest listing
pub listing_short : (grammar history : List ℕ) → length (listing grammar history) ≤ 22000000
listing_short grammar history = go (grammar_of grammar) (history_of history) refl
  where
    go : (g : GrammarFile) (h : HistoryFile) → history_of history ≡ h → length (files_listed g h) ≤ 22000000
    go (GrammarFile.refused k) h e = omega (arith, number_line_short (refused_word ++ grammar_word) k)
    go (GrammarFile.accepted g) (HistoryFile.refused k) e = omega (arith, number_line_short (refused_word ++ history_word) k)
    go (GrammarFile.accepted g) (HistoryFile.accepted ts) e =
        let few = (history_wellformed (bytes history) ts e).few in
        let sizes : (x : List ℕ) → Memᴰ x (entries g (tokens_of ts)) → length x ≤ 1025 =
        λ x m. omega (arith, (entries_proper g (tokens_of ts)).1 x m, length-map ts token_of, few) in
        rw (length-append (tokens_line (length ts)) (readings_listed (choice_count g (tokens_of ts)) (entries g (tokens_of ts))))
        (omega (arith, number_line_short tokens_word (length ts), readings_short (choice_count g (tokens_of ts)) (entries g (tokens_of ts)) sizes))
