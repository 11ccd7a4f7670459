-- What the answer of `read_history` tells of the history file.
use Prim.Native.Nat.{ℕ, ◌-◌, ◌≤◌}
use mathlib.Core.Path.{◌≡◌, refl, ap}
use mathlib.Core.List.{List}
use native.Mathlib.Omega.{arith}
use lib.ListN.{length, take, get_or, replicate, length-append, length-replicate}
use lib.Seq.{take-append_seam}
use Rattle.laws.proofs.Lists.{at_member}
use Rattle.numbers.specs.believed.Number.{bytes}
use Rattle.std.specs.Prelude.{Result, Ok, Err}
use Rattle.refusal.specs.declared.Refusal.{Refusal}
use Rattle.refusal.specs.believed.Refusal.{number}
use Rattle.refusal.specs.Numbered.{numbered}
use Rattle.history_file.specs.believed.HistoryFile.{HistoryFile, accepted, refused, history_of}
use Rattle.history_file.specs.HistoryTokens.{history_read, Tokens}
use Rattle.history_file.specs.Wellformed.{Wellformed}
use Rattle.history_file.proofs.Accepted.{history_wellformed}

wellformed_tokens : (ts : List ℕ) → Wellformed ts → Tokens ts
wellformed_tokens ts w = record { few = w.few; small = λ i h. omega (arith, (w.tokens (get_or ts i 0) (at_member ts i 0 h)).small) }

-- what an accepted file says: the first n of the numbers
pub record HistoryIs (s numbers : List ℕ) (n : ℕ) : Type 0 where
  pub is : history_of s ≡ accepted (take n numbers)
  pub room : n ≤ length numbers
  pub count : length (take n numbers) ≡ n
  pub tokens : Tokens (take n numbers)
  pub wellformed : Wellformed (take n numbers)

module _ (s : List ℕ) {r : Result ℕ Refusal} {numbers : List ℕ} (says : ◌≡◌ {A = Result ℕ ℕ × List ℕ} (numbered r, numbers) (history_read (history_of s))) where
  pub history_accepted : (n : ℕ) → r ≡ Ok n → HistoryIs s numbers n
  history_accepted n h = go (history_of s) refl (ap (λ (x : Result ℕ ℕ × List ℕ). x.0) says) (ap (λ (x : Result ℕ ℕ × List ℕ). x.1) says)
    where
      go : (f : HistoryFile) → history_of s ≡ f → numbered r ≡ (history_read f).0 → numbers ≡ (history_read f).1 → HistoryIs s numbers n
      go (refused e) p q t = absurd (let z : ◌≡◌ {A = ℕ} 0 1 = cc in omega arith)
      go (accepted ts) p q t =
          let w = history_wellformed (bytes s) ts p in
          let told : numbered r ≡ Ok n = ap numbered h in
          let e : n ≡ length ts = cc in
          let front : take n numbers ≡ ts = rw (e, t) (take-append_seam ts (replicate (1024 - length ts) 0)) in
          record {
            is = rw front p;
            room = rw t (simp (length-append, length-replicate) (omega arith));
            count = rw (front, e);
            tokens = rw front (wellformed_tokens ts w);
            wellformed = rw front w;
          }

  pub history_refused : (e : Refusal) → r ≡ Err e → history_of s ≡ refused (number e)
  history_refused e h = go (history_of s) (ap (λ (x : Result ℕ ℕ × List ℕ). x.0) says)
    where
      told : numbered r ≡ Err (number e)
      told = ap numbered h

      go : (f : HistoryFile) → numbered r ≡ (history_read f).0 → f ≡ refused (number e)
      go (accepted ts) q = absurd (let z : ◌≡◌ {A = ℕ} 0 1 = cc in omega arith)
      go (refused k) q = let z : k ≡ number e = cc in ap refused z
