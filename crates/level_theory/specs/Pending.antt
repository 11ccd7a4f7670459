-- The closes that end open levels, with their positions, and the stack that an array of nonterminals by position describes.
-- Law: masks-outer (level_theory/proofs/Pending.antt)
use Rattle.std.specs.Prelude.{ℕ, suc, cond, List, [], ◌∷◌, ltb, drop, get_or}
use Rattle.vpg.specs.declared.CloseName.{CloseName}
use Rattle.vpg.specs.declared.Token.{Token}
use Rattle.vpg.specs.Runs.{Stack}

-- closes with their positions
abbrev pub Closes : Type 0
Closes = List (CloseName × ℕ)

abbrev pub rest : Closes → Closes
rest [] = []
rest (d ∷ l) = l

-- what a token at position p makes of the pending closes behind it
abbrev pub pending_over : Token → ℕ → Closes → Closes
pending_over (Token.Mark c) p l = l
pending_over (Token.Open a) p l = rest l
pending_over (Token.Close b) p l = (b, p) ∷ l

-- the closes among the tokens whose opens stand before them all; the first token's position is p
unfoldable pub pending : List Token → ℕ → Closes
pending [] p = []
pending (t ∷ w) p = pending_over t p (pending w (suc p))

-- those from position p of w on
abbrev pub pending_at : List Token → ℕ → Closes
pending_at w p = pending (drop p w) p

-- the position of the first of them, or n
abbrev pub close_of : Closes → ℕ → ℕ
close_of [] n = n
close_of (d ∷ l) n = d.1

-- the stack that an array describes below the nonterminal L: behind the close at position j stands nonterminal f[j]; nothing is due where L is not a
-- well-matched one
abbrev pub due_at : ℕ → List ℕ → Closes → ℕ → Stack
due_at W f [] L = []
due_at W f (d ∷ l) L = cond (ltb L W) ((d.0, get_or f d.1 0) ∷ due_at W f l (get_or f d.1 0)) []
