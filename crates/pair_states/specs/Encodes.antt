-- Which state 32 words are.
-- Law: single_encodes, token_encodes, close_encodes (pair_states/proofs/Derivatives.antt)
use Rattle.std.specs.Prelude.{ℕ, ◌<◌, ◌≡◌, List, get_or}
use Rattle.bits.specs.Bit.{bit}
use Rattle.pair_theory.specs.Pairs.{PairState}

-- digit L₁ of word L₂ says whether (L₁, L₂) is in the state
pub record Encodes (words : List ℕ) (S : PairState) : Type 0 where
  pub at : (L₁ L₂ : ℕ) → L₁ < 32 → L₂ < 32 → bit (get_or words L₂ 0) L₁ ≡ S L₁ L₂
