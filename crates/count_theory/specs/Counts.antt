-- How many derivations of what is ahead there are from each nonterminal, computed from right to left: of the rest of the level from the
-- well-matched ones, those below W, and of all that is left from the others.
-- Law: tally-runs (count_theory/proofs/Counting.antt)
-- Law: counts_here (count_theory/proofs/Here.antt)
use Rattle.std.specs.Prelude.{ℕ, suc, ◌+◌, ◌*◌, Bool, true, false, ◌&&◌, List, [], ◌∷◌, eqb, ltb, leb, length, drop}
use Rattle.std.proofs.Math.Option.{Option, none, some}
use Rattle.vpg.specs.declared.CloseName.{CloseName}
use Rattle.vpg.specs.declared.Rule.{Rule}
use Rattle.vpg.specs.declared.Token.{Token}
use Rattle.vpg.specs.believed.Grammar.{Rules, left}
use Rattle.vpg.specs.Parts.{onward, beyond}
use Rattle.vpg.specs.Runs.{Stack}
use Rattle.vpg.specs.Tests.{is_open, any_close, same_token}
use Rattle.level_theory.specs.Masks.{floor, alone, finishes, outer}
use Rattle.level_theory.specs.Pending.{pending_at, close_of}
use Rattle.level_theory.specs.Walk.{test_at}
use Rattle.count_theory.specs.Allowed.{Allowed}

-- a number for each nonterminal
abbrev pub Counts : Type 0
Counts = ℕ → ℕ

-- those of the outer levels, innermost first: each with the close that leads back to it
abbrev pub Outer : Type 0
Outer = List (CloseName × Counts)

abbrev pub Levels : Type 0
Levels = Counts × Outer

-- n where a test passes, else 0
abbrev pub given : Bool → ℕ → ℕ
given true n = n
given false n = 0

-- the counts of those with which a rule may go on. low: the rule is for a well-matched nonterminal; otherwise they are to derive all that is left,
-- which are those from n on
abbrev pub onto : Bool → ℕ → Counts → Counts
onto true n x L = x L
onto false n x L = given (leb n L) (x L)

-- the count of L in the next outer level, behind the close b
abbrev pub behind : Bool → ℕ → Outer → CloseName → Counts
behind low W [] b L = 0
behind low W (d ∷ ms) b L = given (eqb b.0 d.0.0) (onto low (floor W ms) d.1 L)

-- in how many ways can R, standing at the token, be gone on with: for each part of its right side any derivation; low: is R for a well-matched
-- nonterminal; inside: the counts behind the token, after b: those behind its close, which is b
abbrev pub continuations : Bool → (Bool → Counts) → (Bool → CloseName → Counts) → Token → Rule → ℕ
continuations low inside after t (Rule.Empty M) = given (low && any_close t) 1
continuations low inside after t (Rule.Next M i M₁) = given (same_token i t) (given (alone i low) (inside low M₁))
continuations low inside after t (Rule.Step M a M₁ b M₂) = given (is_open a t) (inside true M₁ * after low b M₂)

-- m: the counts behind the token
abbrev pub continuations_at : ℕ → Levels → Token → Rule → ℕ
continuations_at W m t R = continuations (ltb (left R) W) (λ k. onto k (floor W m.1) m.0) (λ k. behind k W m.1) t R

-- where no token is left
abbrev pub continuations_end : Rule → ℕ
continuations_end R = given (finishes R) 1

-- the sum over the rules, by number and rule; the first rule's number is n
abbrev pub sum : (ℕ → Rule → ℕ) → ℕ → Rules → ℕ
sum f n [] = 0
sum f n (R ∷ g) = f n R + sum f (suc n) g

-- over those that are for L and allowed
abbrev pub sum_for : (ℕ → Bool) → (Rule → ℕ) → Rules → Counts
sum_for ok f g L = sum (λ r R. given (eqb (left R) L && ok r) (f R)) 0 g

-- the counts before a token, from those behind it
abbrev pub over : (ℕ → Bool) → ℕ → Rules → Token → Levels → Levels
over ok W g t m = (sum_for ok (continuations_at W m t) g, outer t m)

-- the counts before the tokens, the first of which stands at position p
unfoldable pub counts : Allowed → ℕ → Rules → ℕ → List Token → Levels
counts ok W g p [] = (sum_for (ok p) continuations_end g, [])
counts ok W g p (t ∷ w) = over (ok p) W g t (counts ok W g (suc p) w)

-- the counts of the next outer level
abbrev pub next_outer : Outer → Counts
next_outer [] L = 0
next_outer (d ∷ ms) L = d.1 L

-- the count of a part of a right side; 1 where there is no such part
abbrev pub part_of : Counts → Option ℕ → ℕ
part_of x none = 1
part_of x (some M) = x M

-- any derivation of each part; inside: the counts behind the rule's first token, after: those behind its close
abbrev pub parts : Counts → Counts → Rule → ℕ
parts inside after R = part_of inside (onward R) * part_of after (beyond R)

-- the product of the counts of the levels that are due below L; where a close is ahead, something is due exactly when L is a well-matched one
abbrev pub weight : ℕ → ℕ → Stack → Outer → ℕ
weight W L [] [] = 1
weight W L [] (m ∷ ms) = given (leb W L) 1
weight W L (d ∷ s) [] = 0
weight W L (d ∷ s) (m ∷ ms) = given (ltb L W) (given (eqb d.0.0 m.0.0) (m.1 d.1) * weight W d.1 s ms)

-- how many derivations there are from L with s due
abbrev pub total : ℕ → Levels → ℕ → Stack → ℕ
total W m L s = m.0 L * weight W L s m.1

-- ── by position ──

-- the counts before position p of w
abbrev pub counts_at : Allowed → ℕ → Rules → List Token → ℕ → Counts
counts_at ok W g w p = (counts ok W g p (drop p w)).0

-- what a rule counts for at position p: 0 where it can't stand there
abbrev pub worth : Allowed → ℕ → Rules → List Token → ℕ → Rule → ℕ
worth ok W g w p R = given (test_at W g (drop p w) R) (parts (counts_at ok W g w (suc p)) (counts_at ok W g w (suc (close_of (pending_at w (suc p)) (length w)))) R)
