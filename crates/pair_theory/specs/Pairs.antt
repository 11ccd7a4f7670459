-- Recognition by sets of pairs of nonterminals: section 4 of the paper, its states and stacks (Definition 4.1), derivative functions (4.2) and what a configuration takes (4.3),
-- with the changes that its end names for general grammars: "the derivative functions need to consider also pending rules", and "the acceptance stack may be nonempty".
-- Law: stop_marks_pairs (pair_theory/proofs/Pairs.antt)
use Rattle.std.specs.Prelude.{ℕ, ◌<◌, ◌≤◌, ◌≡◌, Bool, true, false, ◌&&◌, ◌||◌, List, [], ◌∷◌, ◌++◌, eqb, leb}
use Rattle.std.proofs.Math.Option.{some}
use Rattle.std.proofs.Math.ListN.{get_elem?}
use Rattle.vpg.specs.declared.OpenName.{OpenName}
use Rattle.vpg.specs.declared.CloseName.{CloseName}
use Rattle.vpg.specs.declared.Rule.{Rule}
use Rattle.vpg.specs.declared.Token.{Token}
use Rattle.laws.specs.Any.{any, any_below}
use Rattle.vpg.specs.believed.Grammar.{Rules, Grammar, General, Tree, Derives}
use Rattle.vpg.specs.Tests.{same_token, if_empty, if_next, if_step}
use Rattle.sets_theory.specs.believed.Sets.{one}

-- ── Definition 4.1 ──

-- a state is a subset of V × V: `S L₁ L₂` where (L₁, L₂) is in S. L₁ is the context, L₂ the current nonterminal: what comes next is to match L₂
abbrev pub PairState : Type 0
PairState = ℕ → ℕ → Bool

-- stack symbols [S, ⟨a], the top first: the state before an open, and the open's name
abbrev pub PairStack : Type 0
PairStack = List (PairState × OpenName)

-- "we call a pair (S, T) a configuration"
abbrev pub Configuration : Type 0
Configuration = PairState × PairStack

-- the state {(L₁, L₂)}
abbrev pub single : ℕ → ℕ → PairState
single L₁ L₂ L L' = eqb L L₁ && eqb L' L₂

-- "the start state .. should be {(L₀, L₀)}", with the empty stack
abbrev pub begin : Grammar → Configuration
begin g = (single g.start g.start, [])

-- ── Definition 4.2 ──

-- (1) the rule is L₂ → t L₃, and (L₁, L₂) is in S; t is a mark, or an open or a close that is taken alone, by a pending rule
abbrev pub next_to : Token → PairState → ℕ → ℕ → Rule → Bool
next_to t S L₁ L₃ = if_next (λ L₂ i L₃'. S L₁ L₂ && (same_token i t && eqb L₃' L₃))

abbrev pub over_next : Grammar → Token → PairState → PairState
over_next g t S L₁ L₃ = any (next_to t S L₁ L₃) g.rules

-- (2) the rule is L₂ → ⟨a L₃ b⟩ L₄, and (L₁, L₂) is in S for some L₁ of V; n: how many nonterminals V has
abbrev pub open_to : ℕ → OpenName → PairState → ℕ → Rule → Bool
open_to n a S L₃ = if_step (λ L₂ a' L₃' b L₄. any_below n (λ L₁. S L₁ L₂) && (eqb a'.0 a.0 && eqb L₃' L₃))

abbrev pub over_step : Grammar → OpenName → PairState → PairState
over_step g a S L₃ L₃' = eqb L₃ L₃' && any (open_to g.nonterminals a S L₃) g.rules

-- .. or a pending rule takes the open
abbrev pub over_open : Grammar → OpenName → PairState → PairState
over_open g a S L₁ L₃ = over_step g a S L₁ L₃ || over_next g (Token.Open a) S L₁ L₃

-- the rule is L₄ → ε, and (L₃, L₄) is in S
abbrev pub ends_from : PairState → ℕ → Rule → Bool
ends_from S L₃ = if_empty (S L₃)

-- the part of a level that began with L₃ may be finished: some (L₃, L₄) is in S, and L₄ → ε is a rule
abbrev pub finished : Grammar → PairState → ℕ → Bool
finished g S L₃ = any (ends_from S L₃) g.rules

-- (3) the rule is L₂ → ⟨a L₃ b⟩ L₅, (L₁, L₂) is in S₁, and the inside from L₃ may be finished
abbrev pub close_to : Grammar → CloseName → PairState → PairState → OpenName → ℕ → ℕ → Rule → Bool
close_to g b S S₁ a L₁ L₅ =
    if_step (λ L₂ a' L₃ b' L₅'. S₁ L₁ L₂ && (finished g S L₃ && (eqb a'.0 a.0 && (eqb b'.0 b.0 && eqb L₅' L₅))))

abbrev pub over_close : Grammar → CloseName → PairState → PairState → OpenName → PairState
over_close g b S S₁ a L₁ L₅ = any (close_to g b S S₁ a L₁ L₅) g.rules

-- .. or a pending rule takes the close
abbrev pub over_return : Grammar → CloseName → PairState → PairState → OpenName → PairState
over_return g b S S₁ a L₁ L₅ = over_close g b S S₁ a L₁ L₅ || over_next g (Token.Close b) S L₁ L₅

-- a close takes the top from the stack; with no open before it, only a pending rule takes it
abbrev pub closed : Grammar → CloseName → PairState → PairStack → Configuration
closed g b S [] = (over_next g (Token.Close b) S, [])
closed g b S (d ∷ T) = (over_return g b S d.0 d.1, T)

-- the derivative of a configuration by a token: the new state, and the stack after the action on it
abbrev pub derivative : Grammar → Token → Configuration → Configuration
derivative g (Token.Mark c) x = (over_next g (Token.Mark c) x.0, x.1)
derivative g (Token.Open a) x = (over_open g a x.0, (x.0, a) ∷ x.1)
derivative g (Token.Close b) x = closed g b x.0 x.1

-- the configuration after the tokens, one after another
unfoldable pub after : Grammar → Configuration → List Token → Configuration
after g x [] = x
after g x (t ∷ w) = after g (derivative g t x) w

-- ── acceptance ──

abbrev pub bottom : PairStack → Bool
bottom [] = true
bottom (d ∷ T) = false

-- is nothing due in the context L: no open is unmatched, or L is no well-matched nonterminal, so that it is no step's inside
abbrev pub free : Grammar → PairStack → ℕ → Bool
free g T L = bottom T || leb g.well L

-- the tokens may end here: nothing is due, and the top level may be finished
abbrev pub accepts : Grammar → Configuration → Bool
accepts g x = any_below g.nonterminals (λ L. free g x.1 L && finished g x.0 L)

-- from a configuration on, before each token and after the last: 1 where the configuration accepts, else 0
unfoldable pub marks_from : Grammar → Configuration → List Token → List ℕ
marks_from g x [] = one (accepts g x) ∷ []
marks_from g x (t ∷ w) = one (accepts g x) ∷ marks_from g (derivative g t x) w

-- ── Definition 4.3 ──

-- `Takes W g S T w`: (S, T) ⇝ w; W: the well-matched nonterminals are those below it
pub data Takes (W : ℕ) (g : Rules) : PairState → PairStack → List Token → Type 0 where
  -- (1) (S, ⊥) ⇝ w: (L₁, L₂) is in S, and L₂ →* w
  at-bottom : {S : PairState} (L₁ : ℕ) {L₂ : ℕ} {w : List Token} {t : Tree} → S L₁ L₂ ≡ true → Derives g L₂ w t → Takes W g S [] w
  -- (1') the same with any stack, whose opens stay unmatched, where L₁ is no well-matched nonterminal
  at-pending : {S : PairState} {T : PairStack} (L₁ : ℕ) {L₂ : ℕ} {w : List Token} {t : Tree} → W ≤ L₁ → S L₁ L₂ ≡ true → Derives g L₂ w t → Takes W g S T w
  -- (2) (S, [S', ⟨a] · T) ⇝ w₁ b⟩ w₂: (L₃, L₄) is in S, (a) L₄ →* w₁, (b) (L₁, L₂) is in S', L₂ → ⟨a L₃ b⟩ L₅ is a rule, ({(L₁, L₅)}, T) ⇝ w₂
  in_step : {S S' : PairState} {a : OpenName} {T : PairStack} (L₁ r : ℕ) {L₂ L₃ L₄ L₅ : ℕ} {w₁ w₂ : List Token} {b : CloseName} {t : Tree} → S L₃ L₄ ≡ true →
      Derives g L₄ w₁ t → S' L₁ L₂ ≡ true → get_elem? g r ≡ some (Rule.Step L₂ a L₃ b L₅) → Takes W g (single L₁ L₅) T w₂ →
      Takes W g S ((S', a) ∷ T) (w₁ ++ (Token.Close b ∷ w₂))

-- ── V ──

-- the rules are as Definition 2.2 has them, and V has the start, and the first nonterminal of the inside of every step: what the theorems ask of a
-- grammar
pub record Proper (g : Grammar) : Type 0 where
  pub form : General g.well g.rules
  pub start_in : g.start < g.nonterminals
  pub inside_in : (r L : ℕ) (a : OpenName) (L₁ : ℕ) (b : CloseName) (L₂ : ℕ) → get_elem? g.rules r ≡ some (Rule.Step L a L₁ b L₂) → L₁ < g.nonterminals

-- the contexts of every state are nonterminals, "states are subsets of V × V"; in the context of a well-matched one the current one is such, too; a
-- context is the start or the first nonterminal of a step's inside, so that of those that aren't well matched only the start is one
abbrev pub Contexts : Grammar → PairState → Type 0
Contexts g S = (L₁ L₂ : ℕ) → S L₁ L₂ ≡ true → (L₁ < g.nonterminals) × (L₁ < g.well → L₂ < g.well) × (g.well ≤ L₁ → L₁ ≡ g.start)

abbrev pub Stacked : Grammar → PairStack → Type 0
Stacked g [] = Unit
Stacked g (d ∷ T) = Contexts g d.0 × Stacked g T

abbrev pub Within : Grammar → Configuration → Type 0
Within g x = Contexts g x.0 × Stacked g x.1
