-- All readings of a token list in ascending order, by a search from left to right.
-- Law: entries_readings (vpg/proofs/Sound.antt)
-- Law: entries_matched (vpg/proofs/Matched.antt)
-- Law: entries_ascending (vpg/proofs/Ascends.antt)
-- Law: entries-only (vpg/proofs/Entries.antt)
use Rattle.std.specs.Prelude.{ℕ, suc, Bool, true, false, ◌&&◌, List, [], ◌∷◌, ◌++◌, map, eqb}
use Rattle.std.proofs.Math.Option.{Option, none, some}
use Rattle.vpg.specs.declared.CloseName.{CloseName}
use Rattle.vpg.specs.declared.Rule.{Rule}
use Rattle.vpg.specs.declared.Token.{Token}
use Rattle.vpg.specs.believed.Grammar.{Rules, Grammar}
use Rattle.vpg.specs.Tests.{is_open, is_close, same_token, if_empty}

-- what is due once the current nonterminal is done: for each open step, innermost first, its close and the nonterminal after it
abbrev pub Stack : Type 0
Stack = List (CloseName × ℕ)

abbrev pub State : Type 0
State = ℕ × Stack

abbrev pub only : Bool → State → Option State
only true s = some s
only false s = none

-- where rule R leads from nonterminal L with s due, over one token
abbrev pub move : Rule → ℕ → Stack → Token → Option State
move (Rule.Empty M) L [] t = none
move (Rule.Empty M) L (d ∷ s) t = only (is_close d.0 t && eqb M L) (d.1, s)
move (Rule.Next M i M₁) L s t = only (same_token i t && eqb M L) (M₁, s)
move (Rule.Step M a M₁ b M₂) L s t = only (is_open a t && eqb M L) (M₁, (b, M₂) ∷ s)

-- may the tokens end by rule R at nonterminal L with s due
abbrev pub ends : Rule → ℕ → Stack → Bool
ends R L [] = if_empty (λ M. eqb M L) R
ends R L (d ∷ s) = false

-- the lists that k gives for each rule, with the rule's number in front; the first rule's number is n
abbrev pub collect : (Rule → List (List ℕ)) → ℕ → Rules → List (List ℕ)
collect k n [] = []
collect k n (R ∷ g) = map (λ e. n ∷ e) (k R) ++ collect k (suc n) g

abbrev pub once : Bool → List (List ℕ)
once true = [] ∷ []
once false = []

abbrev pub follow : Option State → (State → List (List ℕ)) → List (List ℕ)
follow none k = []
follow (some s) k = k s

-- the codes of all derivations of the tokens from a nonterminal with a stack due
unfoldable pub runs : Rules → State → List Token → List (List ℕ)
runs g s [] = collect (λ R. once (ends R s.0 s.1)) 0 g
runs g s (t ∷ w) = collect (λ R. follow (move R s.0 s.1 t) (λ s'. runs g s' w)) 0 g

-- document 01, "The plain listing", entries
abbrev pub entries : Grammar → List Token → List (List ℕ)
entries g w = runs g.rules (g.start, []) w
