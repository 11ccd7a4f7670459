-- Since files can say their start, a grammar file whose first number isn't 0 says what it said before; one that begins with 0 was refused by
-- 3. So every file that passed kept its meaning (document 02, 2.3: "files without the 0 still start at stage 0").
use Prim.Native.Nat.{ℕ, ◌+◌, ◌-◌}
use mathlib.Core.Path.{◌≡◌, refl, sym, ap, ◌∙◌}
use mathlib.Core.Logic.{◌≢◌}
use mathlib.Core.Bool.{Bool, true, false, cond}
use mathlib.Core.List.{List, [], ◌∷◌}
use native.Mathlib.Omega.{arith}
use borrow.Author.Tests.{ne_eqb}
use lib.Dec.{ltb}
use lib.ListN.{length, get_or}
use Rattle.laws.proofs.Bools.{chose_first}
use Rattle.std.specs.Prelude.{Ok, Err}
use Rattle.numbers.specs.believed.Number.{Read, with_group, number_within, Source}
use Rattle.numbers.specs.believed.Field.{field_at, count_at}
use Rattle.numbers.proofs.Written.{group_read}
use Rattle.numbers.proofs.Results.{apart as unread, same_read}
use Rattle.vpg.specs.believed.Grammar.{Grammar}
use Rattle.grammar_file.specs.believed.GrammarFile.{accepted, refused, either}
use Rattle.grammar_file.proofs.Accepted.{apart}
use Rattle.earlier_files.specs.TwoBytes.{two_bytes}
use Rattle.earlier_files.specs.NarrowGrammar.{without_start_narrow, with_start_narrow, grammar_narrow}
use Rattle.earlier_files.specs.GrammarBefore.{grammar_before}

module _ (x : Source) where
  pub grammar_means_what_it_meant : ((next : ℕ) → x.number 0 ≢ Ok (0, next)) → grammar_narrow x ≡ grammar_before x
  unfolding grammar_narrow grammar_before
  grammar_means_what_it_meant not = go (x.number 0) refl
    where
      go : (r : Read ℕ) → x.number 0 ≡ r → either r (with_start_narrow x) (without_start_narrow x) ≡ without_start_narrow x
      go (Ok (n, next)) e = rw (ne_eqb n 0 (λ z. not next (e ∙ ap (λ m. Ok (m, next)) z)))
      go (Err d) e = refl

  pub zero_was_refused : (next : ℕ) → x.number 0 ≡ Ok (0, next) → grammar_before x ≡ refused 3
  unfolding grammar_before count_at field_at
  zero_was_refused next e = rw e

  pub grammar_kept : (g : Grammar) → grammar_before x ≡ accepted g → grammar_narrow x ≡ accepted g
  grammar_kept g h = grammar_means_what_it_meant (λ next e. apart (sym (zero_was_refused next e) ∙ h)) ∙ h

-- the first number of a file is 0 only where its first byte is
first_byte : (s : List ℕ) (next : ℕ) → number_within 2 s 0 ≡ Ok (0, next) → get_or s 0 1 ≡ 0
unfolding number_within
first_byte [] next e = absurd (unread e)
first_byte (n ∷ ns) next e = go (ltb n 128) (chose_first (ltb 0 (length (n ∷ ns))) _ _ unread e).1
  where
    go : (b : Bool) → cond b (Ok (n, 0 + 1)) (with_group (n - 128) (number_within 1 (n ∷ ns) (0 + 1))) ≡ Ok (0, next) → n ≡ 0
    go true h = (same_read h).0
    go false h =
        let (high, is, some, worth) = group_read (n - 128) (number_within 1 (n ∷ ns) (0 + 1)) 0 next h in
        absurd (some (omega arith))

pub bytes_mean_what_they_meant : (s : List ℕ) → get_or s 0 1 ≢ 0 → grammar_narrow (two_bytes s) ≡ grammar_before (two_bytes s)
bytes_mean_what_they_meant s h = grammar_means_what_it_meant (two_bytes s) (λ next e. h (first_byte s next e))
