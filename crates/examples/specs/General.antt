-- Definition 2.2 of the paper on one grammar: which rules it allows, and what it derives where an open or a close is taken alone.
-- Law: general (examples/proofs/General.antt)
use Rattle.std.specs.Prelude.{ℕ, ◌≡◌, List, [], ◌∷◌}
use Rattle.vpg.specs.declared.Rule.{Rule}
use Rattle.vpg.specs.declared.Token.{Token}
use Rattle.vpg.specs.believed.Grammar.{Rules, InForm}
use Rattle.vpg.specs.Runs.{entries}

abbrev pub mark : Token
mark = Token.Mark (record { 0 = 4 })

abbrev pub opens : Token
opens = Token.Open (record { 0 = 4 })

abbrev pub closes : Token
closes = Token.Close (record { 0 = 4 })

-- rule (3) with this open and this close
abbrev pub stepped : ℕ → ℕ → ℕ → Rule
stepped L L₁ L₂ = Rule.Step L (record { 0 = 4 }) L₁ (record { 0 = 4 }) L₂

-- 0 is well matched, 1 is not
abbrev pub pending : Rules
pending = Rule.Empty 0 ∷ stepped 0 0 0 ∷ Rule.Empty 1 ∷ Rule.Next 1 opens 1 ∷ Rule.Next 1 closes 1 ∷ stepped 1 0 1 ∷ Rule.Next 1 mark 0 ∷ []

-- its readings from a start
abbrev pub from : ℕ → List Token → List (List ℕ)
from L w = entries (record { nonterminals = 2; well = 1; start = L; rules = pending }) w

pub record GeneralExamples : Type 0 where
  -- a nonterminal that is not well matched takes an open or a close alone, and goes on to a well-matched one or not
  pub open_alone : InForm 1 (Rule.Next 1 opens 1)
  pub close_alone : InForm 1 (Rule.Next 1 closes 1)
  pub on_to_well : InForm 1 (Rule.Next 1 mark 0)
  pub step_outside : InForm 1 (stepped 1 0 1)
  -- a well-matched one takes neither, and goes on to well-matched ones only; the inside of a step is well matched
  pub not_open_alone : InForm 1 (Rule.Next 0 opens 0) → ⊥
  pub not_close_alone : InForm 1 (Rule.Next 0 closes 0) → ⊥
  pub not_on_from_well : InForm 1 (Rule.Next 0 mark 1) → ⊥
  pub not-behind_well : InForm 1 (stepped 0 0 1) → ⊥
  pub not_inside : InForm 1 (stepped 1 1 1) → ⊥
  -- an open that is never closed, a close that was never opened, both
  pub cut_behind : from 1 (opens ∷ []) ≡ (3 ∷ 2 ∷ []) ∷ []
  pub cut_before : from 1 (closes ∷ []) ≡ (4 ∷ 2 ∷ []) ∷ []
  pub cut_both : from 1 (closes ∷ opens ∷ []) ≡ (4 ∷ 3 ∷ 2 ∷ []) ∷ []
  -- open and close may be a step, or each stand alone: two readings
  pub two_ways : from 1 (opens ∷ closes ∷ []) ≡ (3 ∷ 4 ∷ 2 ∷ []) ∷ (5 ∷ 0 ∷ 2 ∷ []) ∷ []
  pub behind-step : from 1 (opens ∷ closes ∷ closes ∷ []) ≡ (3 ∷ 4 ∷ 4 ∷ 2 ∷ []) ∷ (5 ∷ 0 ∷ 4 ∷ 2 ∷ []) ∷ []
  -- inside a step nothing is taken alone
  pub inside : from 1 (opens ∷ opens ∷ closes ∷ []) ≡ (3 ∷ 3 ∷ 4 ∷ 2 ∷ []) ∷ (3 ∷ 5 ∷ 0 ∷ 2 ∷ []) ∷ []
  -- once well matched, always: no close alone behind the mark, but a step
  pub no_close_then : from 1 (mark ∷ closes ∷ []) ≡ []
  pub step_then : from 1 (mark ∷ opens ∷ closes ∷ []) ≡ (6 ∷ 1 ∷ 0 ∷ 0 ∷ []) ∷ []
  -- from a well-matched start only well-matched tokens
  pub well_open : from 0 (opens ∷ []) ≡ []
  pub well_close : from 0 (closes ∷ []) ≡ []
  pub well_step : from 0 (opens ∷ closes ∷ []) ≡ (1 ∷ 0 ∷ 0 ∷ []) ∷ []
