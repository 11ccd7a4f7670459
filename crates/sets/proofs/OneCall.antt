-- The two services on the same files: where sets isn't refused it answers the count that choice count answers, and a file's fault is told by both.
use Prim.Native.Nat.{ℕ, ◌+◌, ◌*◌}
use native.Mathlib.Omega.{arith}
use mathlib.Core.Path.{◌≡◌, sym}
use mathlib.Core.Bool.{Bool, true, false, cond}
use mathlib.Core.List.{List, ◌++◌}
use lib.Dec.{ltb}
use lib.ListN.{length, drop}
use Rattle.sets_theory.specs.believed.Sets.{choice_count, set_words}
use Rattle.history_file.specs.believed.HistoryFile.{tokens_of}
use Rattle.files.specs.believed.Files.{Files, accepted}
use Rattle.files.specs.believed.Files as files
use Rattle.service.specs.believed.Given.{Given, given, refused, untouched}
use Rattle.service.specs.believed.Opened.{files_in, opened, served}
use Rattle.sets.specs.believed.Sets.{sets_due, count_due}

-- what each of them gives, from what both files say
abbrev sets_from : List ℕ → Files → Given ℕ × List ℕ
sets_from words f = served (untouched words) (λ g w. (given (choice_count g w), set_words g w ++ drop (4 * (length w + 1)) words)) f

abbrev count_from : Files → Given ℕ
count_from f = served refused (λ g w. given (choice_count g w)) f

apart : {A : Type 0} {n k : ℕ} → ◌≡◌ {A = Given ℕ} (given n) (refused k) → A
apart q = absurd (let z : ◌≡◌ {A = ℕ} 0 1 = cc in omega arith)

module _ (words : List ℕ) where
  count-from : (f : Files) (n : ℕ) → (sets_from words (opened 4 (length words) f)).0 ≡ given n → count_from f ≡ given n
  count-from (files.refused e) n q = q
  count-from (accepted g ts) n q = go (ltb (length words) (4 * (length ts + 1))) q
    where
      go : (b : Bool) → (sets_from words (cond b (files.refused 15) (accepted g ts))).0 ≡ given n → given (choice_count g (tokens_of ts)) ≡ given n
      go true q = apart (sym q)
      go false q = q

  refused-from : (f : Files) (k : ℕ) → count_from f ≡ refused k → (sets_from words (opened 4 (length words) f)).0 ≡ refused k
  refused-from (files.refused e) k q = q
  refused-from (accepted g ts) k q = apart q

module _ (grammar history words : List ℕ) where
  -- document 02, 2.7: "Where it isn't turned down, its count is the one that the choices service, which stays, gives"
  pub sets-count : (n : ℕ) → (sets_due grammar history words).0 ≡ given n → count_due grammar history ≡ given n
  sets-count = count-from words (files_in grammar history)

  -- a refusal of the choice count is that of a file, and sets gives it too
  pub sets_refused : (k : ℕ) → count_due grammar history ≡ refused k → (sets_due grammar history words).0 ≡ refused k
  sets_refused = refused-from words (files_in grammar history)
