-- The nonterminals that follow a rule are below 32, where all its nonterminals are.
use Prim.Native.Nat.{ℕ, ◌<◌}
use mathlib.Core.List.{List}
use mathlib.Core.Option.{Option, none, some}
use Rattle.vpg.specs.declared.OpenName.{OpenName}
use Rattle.vpg.specs.declared.CloseName.{CloseName}
use Rattle.vpg.specs.declared.Rule.{Rule}
use Rattle.vpg.specs.declared.Token.{Token}
use Rattle.vpg.specs.believed.Grammar.{left}
use Rattle.vpg.specs.Parts.{onward, beyond}
use Rattle.tables.specs.Ready.{Small, Below}
use Rattle.pair_words.specs.Words.{Gives, or_else, gives_at, gives_behind}

-- what the rules give has a word
abbrev pub Fits : Gives → Type 0
Fits p = (R : Rule) → Below 32 R → p.follows R < 32

or_else_below : (L : ℕ) (M : Option ℕ) → L < 32 → Small 32 M → or_else L M < 32
or_else_below L none l h = l
or_else_below L (some M) l h = h

pub at-fits : (t : Token) (from : List ℕ) → Fits (gives_at t from)
at-fits t from R h = or_else_below (left R) (onward R) h.0 h.1

pub behind-fits : (a : OpenName) (b : CloseName) (done : ℕ) (from : List ℕ) → Fits (gives_behind a b done from)
behind-fits a b done from R h = or_else_below (left R) (beyond R) h.0 h.2
