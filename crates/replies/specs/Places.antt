-- The place of a step's bytes, as the search for it answers, in C's struct.
-- Law: placed_wire (replies/proofs/Places.antt)
use Rattle.std.specs.Prelude.{ℕ, Result, Ok, Err}
use Rattle.step_bytes.specs.declared.Part.{Part}
use Rattle.replies.specs.declared.PartReply.{PartReply}

abbrev pub place_wire : Result Part ℕ → PartReply
place_wire (Ok found) = record { start = found.start; length = found.length }
place_wire (Err k) = record { start = 0; length = 0 }
