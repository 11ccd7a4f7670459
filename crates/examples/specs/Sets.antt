-- Document 02, 2.7, on single files: what one call of sets answers and leaves in words that were lent full of 7. `sets` in proofs/ has them all.
-- Law: sets (examples/proofs/Sets.antt)
use Rattle.std.specs.Prelude.{ℕ, ◌≡◌, List, [], ◌∷◌, replicate}
use Rattle.service.specs.believed.Given.{given, refused}
use Rattle.sets.specs.believed.Sets.{sets_due}
use Rattle.examples.specs.Examples.{G}
use Rattle.examples.specs.Counts.{step, two}

abbrev pub lent : ℕ → List ℕ
lent n = replicate n 7

pub record Sets : Type 0 where
  pub one : sets_due G step (lent 20) ≡ (given 1, 6 ∷ 0 ∷ 0 ∷ 0 ∷ 40 ∷ 0 ∷ 0 ∷ 0 ∷ 80 ∷ 0 ∷ 0 ∷ 0 ∷ 1 ∷ 0 ∷ 0 ∷ 0 ∷ 7 ∷ 7 ∷ 7 ∷ 7 ∷ [])
  pub both : sets_due G two (lent 21) ≡ (given 2, 6 ∷ 0 ∷ 0 ∷ 0 ∷ 80 ∷ 0 ∷ 0 ∷ 0 ∷ 6 ∷ 0 ∷ 0 ∷ 0 ∷ 80 ∷ 0 ∷ 0 ∷ 0 ∷ 1 ∷ 0 ∷ 0 ∷ 0 ∷ 7 ∷ [])
  -- "With no reading all of these words are 0"
  pub none : sets_due G (1 ∷ 0 ∷ []) (lent 10) ≡ (given 0, 0 ∷ 0 ∷ 0 ∷ 0 ∷ 0 ∷ 0 ∷ 0 ∷ 0 ∷ 7 ∷ 7 ∷ [])
  -- "refusals and untouched elements stay as they were"
  pub short : sets_due G step (lent 15) ≡ (refused 15, lent 15)
  pub turned_down : sets_due G (1 ∷ 2 ∷ []) (lent 16) ≡ (refused 12, lent 16)
