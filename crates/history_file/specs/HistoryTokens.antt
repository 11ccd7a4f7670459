-- What `read_history` hands to the layers above: the count and the token numbers of a history file.
-- Law: history_accepted, history_refused (history_file/proofs/Answers.antt)
use Rattle.std.specs.Prelude.{ℕ, ◌-◌, ◌<◌, ◌≤◌, List, ◌++◌, length, replicate, get_or, Result, Ok, Err}
use Rattle.history_file.specs.believed.HistoryFile.{HistoryFile, accepted, refused}

-- at most 1,024 token numbers, with zeros behind them
abbrev pub padded : List ℕ → List ℕ
padded ts = ts ++ replicate (1024 - length ts) 0

-- the answer, with the number of a refusal, and what it leaves of the numbers: zeros alone where the file is refused
abbrev pub history_read : HistoryFile → Result ℕ ℕ × List ℕ
history_read (accepted ts) = (Ok (length ts), padded ts)
history_read (refused e) = (Err e, replicate 1024 0)

-- what the layers above may take for granted of token numbers: at most 1,024, and each name has 16 bits
pub record Tokens (ts : List ℕ) : Type 0 where
  pub few : length ts ≤ 1024
  pub small : (i : ℕ) → i < length ts → get_or ts i 0 < 262144
