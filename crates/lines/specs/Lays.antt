-- What a text has become when more was written to it.
-- Law: lays_both (lines/proofs/Laying.antt)
use Rattle.std.specs.Prelude.{◌≡◌, ℕ, List}
use Rattle.std.specs.declared.option.Option.{Option}
use Rattle.streams.specs.believed.Sent.{Sent}
use Rattle.lines.specs.declared.Text.{Text}
use Rattle.lines.specs.Laid.{laid, gone}

-- between t₀ and t the text `more` was laid into the buffer, and what went out with it was handed to the sink; buffer and sink are still the same ones
pub record Lays {W : Type 0} (contents : W → Option (List ℕ)) (t₀ t : Text W) (more : List ℕ) : Type 0 where
  pub place : (t.cursor, t.out.now) ≡ laid (t₀.cursor, t₀.out.now) more
  pub sent : Sent contents t₀.sink.now t.sink.now (gone (t₀.cursor, t₀.out.now) more)
  pub same_out : t.out.ghost_name ≡ t₀.out.ghost_name
  pub same_sink : t.sink.ghost_name ≡ t₀.sink.ghost_name
