-- Arrays by position: the matching closes, and the nonterminals that derive the rest of each level.
-- Law: matched_turn, leveled_turn (levels/proofs/Levels.antt)
use Rattle.std.specs.Prelude.{ℕ, suc, ◌<◌, ◌≤◌, ◌≡◌, Bool, false, cond, List, ltb, length, get_or, drop}
use Rattle.bits.specs.Bit.{bit}
use Rattle.vpg.specs.declared.Rule.{Rule}
use Rattle.vpg.specs.declared.Token.{Token}
use Rattle.vpg.specs.believed.Grammar.{Rules}
use Rattle.level_theory.specs.Masks.{floor, onto, masks}
use Rattle.level_theory.specs.Pending.{pending_at, close_of}
use Rattle.level_theory.specs.Walk.{test_at}
use Rattle.contexts.specs.declared.Context.{Context}
use Rattle.contexts.specs.declared.Kind.{Kind}
use Rattle.contexts.specs.Context.{kind_with, applies_to}
use Rattle.tables.specs.declared.Head.{Head}
use Rattle.tables.specs.declared.Table.{Table}
use Rattle.tables.specs.Ready.{Below, rules_of}
use Rattle.rule_index.specs.Goals.{goal}
use Rattle.rule_index.specs.Index.{Indexed}
use Rattle.history_file.specs.believed.HistoryFile.{kind, tokens_of}
use Rattle.history_file.specs.HistoryTokens.{Tokens}

-- the kind of the token of a number
abbrev pub kind_of : ℕ → Kind
kind_of t = kind_with (kind t)

-- the first pending close from a token on; top: the first one behind the token, beyond: the one behind that
abbrev pub next_top : Token → ℕ → ℕ → ℕ → ℕ
next_top (Token.Mark c) i top beyond = top
next_top (Token.Open a) i top beyond = beyond
next_top (Token.Close b) i top beyond = i

-- from position p on, m has the first pending close behind each position (for an open, its own); the length where there is none
abbrev pub Matched : List Token → List ℕ → ℕ → Type 0
Matched w m p = (k : ℕ) → p ≤ k → k ≤ length w → get_or m k 0 ≡ close_of (pending_at w (suc k)) (length w)

-- from position p on, the digits of a position's word say which nonterminals derive what is ahead in their level, and which derive all that is left:
-- of those below W, where a close is ahead that ends the level, none does
abbrev pub Leveled : ℕ → Rules → List Token → List ℕ → ℕ → Type 0
Leveled W g w mask p =
    (k : ℕ) → p ≤ k → k ≤ length w → (L : ℕ) → L < 32 → (low : Bool) → bit (get_or mask k 0) (goal low L) ≡ onto low (floor W (masks W g (drop k w)).1) (masks W g (drop k w)).0 L

-- what stands at position p: the position, the first pending close behind it, and, where the words behind p are right, exactly those rules can stand here
-- that can stand before the tokens
pub record Stands (W : ℕ) (w : List Token) (mask : List ℕ) (p : ℕ) (context : Context) : Type 0 where
  pub position : context.position ≡ p
  pub closing : context.closing ≡ close_of (pending_at w (suc p)) (length w)
  pub rules : (g : Rules) → Leveled W g w mask (suc p) → (R : Rule) → Below 32 R → applies_to W R context ≡ test_at W g (drop p w) R

-- the first nonterminal that derives all that is left: k is the first pending close, n the number of tokens
abbrev pub floor_of : ℕ → ℕ → ℕ → ℕ
floor_of k n W = cond (ltb k n) W 0

-- does L derive all tokens: it derives what is ahead, and nothing is due behind that
abbrev pub derives_all : ℕ → Rules → List Token → ℕ → Bool
derives_all W g w L = onto false (floor W (masks W g w).1) (masks W g w).0 L

-- what a pass over the tokens may take for granted: the rules and their index, tokens, the matching closes and the levels
pub record Setting (table : Table) (head : Head) (ts closes masks : List ℕ) : Type 0 where
  pub indexed : Indexed table head
  pub tokens : Tokens ts
  pub matched : Matched (tokens_of ts) closes 0
  pub leveled : Leveled head.well (rules_of table head) (tokens_of ts) masks 0
