-- What a setting says of a position: where the first pending close behind it stands, and that an array has room there.
use Prim.Native.Nat.{ℕ, suc, ◌<◌, ◌≤◌}
use native.Mathlib.Omega.{arith}
use mathlib.Core.Path.{◌≡◌}
use mathlib.Core.List.{List}
use lib.ListN.{length, get_or}
use Rattle.level_theory.specs.Pending.{pending_at, close_of}
use Rattle.tables.specs.declared.Head.{Head}
use Rattle.tables.specs.declared.Table.{Table}
use Rattle.history_file.specs.believed.HistoryFile.{tokens_of}
use Rattle.levels.specs.Levels.{Setting}
use Rattle.levels.proofs.Levels.{tokens_length, close_most}

module _ {t : Table} {head : Head} {ts m mask : List ℕ} (x : Setting t head ts m mask) (p : ℕ) (h : p ≤ length ts) where
  pub closing : get_or m p 0 ≡ close_of (pending_at (tokens_of ts) (suc p)) (length (tokens_of ts))
  closing = x.matched p (omega arith) (rw tokens_length h)

  pub closing_room : close_of (pending_at (tokens_of ts) (suc p)) (length (tokens_of ts)) < 1025
  closing_room = omega (arith, x.tokens.few, tokens_length ts, close_most (tokens_of ts) (suc p))

  pub close_room : get_or m p 0 < 1025
  close_room = rw closing closing_room
