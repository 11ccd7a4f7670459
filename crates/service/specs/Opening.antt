-- What the opening leaves for the passes, of the structs in which it leaves it.
-- Law: both-opened, grammar_refuses, history_refuses, history_short (service/proofs/Opens.antt)
use Rattle.std.specs.Prelude.{ℕ, ◌+◌, ◌*◌, ◌≤◌, ◌≡◌, length, replicate, Result, Ok, Err}
use Rattle.vpg.specs.believed.Grammar.{Grammar}
use Rattle.tables.specs.Table.{no_table}
use Rattle.tables.specs.Ready.{grammar_in}
use Rattle.refusal.specs.declared.Refusal.{Refusal}
use Rattle.refusal.specs.believed.Refusal.{number}
use Rattle.files.specs.believed.Files.{Files, accepted, refused}
use Rattle.levels.specs.declared.prepared.Prepared.{Prepared}
use Rattle.levels.specs.Prepared.{prepared_grammar}
use Rattle.service.specs.declared.opened.Contents.{Contents}
use Rattle.service.specs.declared.opened.Opened.{Opened}
use Rattle.service.specs.believed.Opened.{opened}

-- room in which nothing stands yet
abbrev pub nothing_read : Contents
nothing_read = record { table = no_table; numbers = replicate 1024 0 }

abbrev pub opened_grammar : Opened → Grammar
opened_grammar o = grammar_in o.grammar.table.now o.grammar.head

-- what a pass over the opened files goes by
abbrev pub IsPreparedOf : Opened → Prepared → Type 0
IsPreparedOf o input = (prepared_grammar input ≡ opened_grammar o) × (input.tokens.now ≡ o.tokens.now)

-- both files pass and the buffer has room: what both say is what the opening has
pub record Open (each size : ℕ) (files : Files) (o : Opened) : Type 0 where
  pub is : opened each size files ≡ accepted (opened_grammar o) o.tokens.now
  pub room : each * (length o.tokens.now + 1) ≤ size

-- what the opening answers: that, or the refusal whose number is due
abbrev pub OpenedIs : ℕ → ℕ → Files → Result Opened Refusal → Type 0
OpenedIs each size files (Ok o) = Open each size files o
OpenedIs each size files (Err e) = opened each size files ≡ refused (number e)
