-- What a sink says of the bytes that it was handed.
-- Clauses: 9.9 (docs/SPECIFICATION.md)
use Rattle.std.specs.Prelude.{◌≡◌, ℕ, List, None, Some, Ok, Err}
use Rattle.std.specs.Io.KnownBytes.{Appends}
use Rattle.std.specs.declared.option.Option.{Option}
use Rattle.std.specs.declared.result.Result.{Result}
use Rattle.std.specs.declared.io.Error.{Error}
use Rattle.streams.specs.declared.Sink.{Sink}

-- between the sinks s₀ and s, whose writers hold what `contents` says, bs was handed on. Where nothing has failed, the writer holds bs behind what it
-- held, if that is known: of a Vec it is, of standard output or a file it isn't, and there `whole` says nothing of the bytes. Where something had
-- failed before, the writer is the one that it was. Of the call that fails, nothing is said.
pub record Sent {W : Type 0} (contents : W → Option (List ℕ)) (s₀ s : Sink W) (bs : List ℕ) : Type 0 where
  pub whole : s.failed ≡ None → (s₀.failed ≡ None) × Appends (contents s₀.writer) (contents s.writer) bs
  pub stays : (e : Error) → s₀.failed ≡ Some e → (s.failed ≡ Some e) × (s.writer ≡ s₀.writer)

-- the error, if there is one
abbrev pub outcome_of : Option Error → Result Unit Error
outcome_of None = Ok tt
outcome_of (Some e) = Err e
