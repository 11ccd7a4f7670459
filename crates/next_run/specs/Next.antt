-- The last position at which a larger rule still leads to a reading (document 01, "Services": "the successor differs first at the last
-- place at which a larger rule still leads to a reading"), and what is written from there on.
-- Law: written_is, no_further_is (next_run/proofs/Successor.antt)
use Rattle.std.specs.Prelude.{ℕ, suc, ◌<◌, ◌≤◌, ◌≡◌, Bool, true, false, ◌&&◌, List, [], ◌∷◌, ◌++◌, eqb, length, take, drop, get_or, set, Option, Some, None, Result, Ok, Err}
use Rattle.vpg.specs.declared.Token.{Token}
use Rattle.vpg.specs.believed.Grammar.{Rules, left}
use Rattle.vpg.specs.Extremes.{Least}
use Rattle.listing_model.specs.believed.Listing.{refused}
use Rattle.listing_model.specs.believed.Listing as model
use Rattle.vpg.specs.Runs.{State}
use Rattle.level_theory.specs.Walk.{Run, test_at, inner, later}
use Rattle.tables.specs.declared.Head.{Head}
use Rattle.tables.specs.declared.Table.{Table}
use Rattle.tables.specs.Table.{rule_in}
use Rattle.tables.specs.Ready.{rules_of}
use Rattle.first_run.specs.declared.Answer.{Answer}
use Rattle.first_run.specs.declared.Configuration.{Configuration}
use Rattle.first_run.specs.Fill.{state_of}
use Rattle.first_run.specs.First.{first_said}
use Rattle.next_run.specs.declared.Branch.{Branch}
use Rattle.next_run.specs.declared.NotAReading.{NotAReading}

-- rule number r is for the nonterminal at position q and can stand there
abbrev pub fits_at : Table → Head → List Token → List ℕ → ℕ → ℕ → Bool
fits_at t head w at q r = eqb (left (rule_in t r)) (get_or at q 0) && test_at head.well (rules_of t head) (drop q w) (rule_in t r)

-- each number of e is a rule that fits where it stands
abbrev pub EachFits : Table → Head → List Token → List ℕ → List ℕ → Type 0
EachFits t head w at e = (q : ℕ) → q ≤ length w → (get_or e q 0 < head.rules) × (fits_at t head w at q (get_or e q 0) ≡ true)

-- from position p on no rule with a larger number than the one in e fits
abbrev pub NoneFrom : Table → Head → List Token → List ℕ → List ℕ → ℕ → Type 0
NoneFrom t head w at e p = (q : ℕ) → p ≤ q → q ≤ length w → (r : ℕ) → get_or e q 0 < r → r < head.rules → fits_at t head w at q r ≡ false

-- r is the smallest rule with a larger number than the one in e that fits at position p
pub record LargerAt (t : Table) (head : Head) (w : List Token) (at e : List ℕ) (p r : ℕ) : Type 0 where
  pub larger : get_or e p 0 < r
  pub rule : r < head.rules
  pub fits : fits_at t head w at p r ≡ true
  pub least : (s : ℕ) → get_or e p 0 < s → s < r → fits_at t head w at p s ≡ false

abbrev pub LargerRule : Table → Head → List Token → List ℕ → List ℕ → ℕ → Option ℕ → Type 0
LargerRule t head w at e p (Some r) = LargerAt t head w at e p r
LargerRule t head w at e p None = (r : ℕ) → get_or e p 0 < r → r < head.rules → fits_at t head w at p r ≡ false

-- position p is the last at which a rule with a larger number fits, and r is the smallest such rule there
pub record LastAt (t : Table) (head : Head) (w : List Token) (at e : List ℕ) (p r : ℕ) : Type 0 where
  pub position : p ≤ length w
  pub larger : get_or e p 0 < r
  pub rule : r < head.rules
  pub fits : fits_at t head w at p r ≡ true
  pub least : (s : ℕ) → get_or e p 0 < s → s < r → fits_at t head w at p s ≡ false
  pub last : NoneFrom t head w at e (suc p)

abbrev pub LastPosition : Table → Head → List Token → List ℕ → List ℕ → Option (ℕ × ℕ) → Type 0
LastPosition t head w at e (Some (p, r)) = LastAt t head w at e p r
LastPosition t head w at e None = NoneFrom t head w at e 0

-- what follows a rule at the end is nothing, and before that the first run from the state s
abbrev pub Follows : Rules → State → List Token → List ℕ → Type 0
Follows g s [] x = x ≡ []
Follows g s (t ∷ v) x = Least (Run g s v) x

-- the configuration behind the rule of a branch
abbrev pub onward : Table → List ℕ → Branch → Configuration
onward t closes b = record {
  position = suc b.from.position;
  nonterminal = inner (rule_in t b.rule) (get_or b.from.behind b.from.position 0);
  behind = set b.from.behind (get_or closes b.from.position 0) (later (rule_in t b.rule) (get_or b.from.behind (get_or closes b.from.position 0) 0));
}

-- the buffer keeps its numbers before the branch, has the branch's rule there and what follows it behind; all behind the reading is as it was
pub record Rewritten (t : Table) (head : Head) (w : List Token) (closes : List ℕ) (b : Branch) (old new : List ℕ) : Type 0 where
  pub rest : List ℕ
  pub follows : Follows (rules_of t head) (state_of head.well w (onward t closes b)) (drop b.from.position w) rest
  pub written : take (suc (length w)) new ≡ take b.from.position old ++ (b.rule ∷ rest)
  pub kept : drop (suc (length w)) new ≡ drop (suc (length w)) old

-- 16: "the first n + 1 bytes handed to next reading are no reading of this history"
abbrev pub next_said : Result Answer NotAReading → model.Answer
next_said (Ok answer) = first_said answer
next_said (Err none) = refused 16
