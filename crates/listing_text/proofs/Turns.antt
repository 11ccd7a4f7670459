-- The loop over the readings: each turn lists the reading in the buffer and goes on to the next one.
use Prim.Native.Nat.{ℕ, zero, suc, ◌+◌, ◌-◌, ◌<◌, ◌≤◌}
use native.Mathlib.Numerals.{add-one}
use native.Mathlib.Omega.{arith}
use mathlib.Core.Path.{◌≡◌, refl, sym, ◌∙◌, ap, subst}
use mathlib.Core.Bool.{Bool, true, false, false≢true}
use mathlib.Core.List.{List, [], ◌++◌, append_assoc}
use borrow.Author.Tests.{ltb-true, ltb-false}
use lib.Dec.{ltb}
use lib.ListN.{length, take, drop, get_or, length-map, drop_of_length-le}
use lib.Seq.{drop-cons, take_at}
use Rattle.vpg.specs.believed.Grammar.{Grammar}
use Rattle.vpg.specs.Runs.{entries}
use Rattle.listing_model.specs.believed.Listing.{Answer, Subject, over, next, over_entries}
use Rattle.listing_model.specs.Calls.{call_on, successor}
use Rattle.laws.proofs.Lists.{at_member}
use Rattle.listing_model.proofs.Find.{find_at}
use Rattle.listing_model.proofs.Listing.{Proper, entries_proper}
use Rattle.history_file.specs.believed.HistoryFile.{token_of, tokens_of}
use Rattle.std.specs.declared.option.Option.{Option}
use Rattle.lines.specs.declared.Text.{Text}
use Rattle.lines.specs.Lays.{Lays}
use Rattle.lines.specs.believed.Text.{reading_line, end_line, more_line}
use Rattle.lines.proofs.Laying.{lays_none, lays_both}
use Rattle.listing_text.specs.believed.Listing.{listed_from, most_listed}
use Rattle.listing_text.specs.Passing.{Begun, is_written}

-- ── what the calls speak of ──

-- whether a reading was written, and the buffer
abbrev pub told : Answer × List ℕ → Bool × List ℕ
told p = (is_written p.0, p.1)

module _ (g : Grammar) (ts : List ℕ) where
  pub entries_are : over_entries g (tokens_of ts) ≡ over (entries g (tokens_of ts)) (suc (length ts))
  entries_are = rw (length-map ts token_of)

  pub entries_in_order : Proper (over (entries g (tokens_of ts)) (suc (length ts)))
  entries_in_order = subst (λ (x : Subject). Proper x) entries_are (entries_proper g (tokens_of ts))

-- ── one call of next reading ──

abbrev Onward : List (List ℕ) → ℕ → ℕ → Bool → List ℕ → Type 0
Onward l n k true new = (suc k < length l) × (take (suc n) new ≡ get_or l (suc k) [])
Onward l n k false new = length l ≡ suc k

module _ (l : List (List ℕ)) (n : ℕ) (p : Proper (over l (suc n))) (k : ℕ) (h : k < length l) (buf : List ℕ) (e : take (suc n) buf ≡ get_or l k []) where
  next_is : call_on (over l (suc n)) next buf ≡ successor (drop (suc k) l) (suc n) buf
  next_is = rw (e, find_at l k p.0 h)

  onward : (b : Bool) (new : List ℕ) → (b, new) ≡ told (call_on (over l (suc n)) next buf) → Onward l n k b new
  onward b new q = go (ltb (suc k) (length l)) refl
    where
      go : (x : Bool) → ltb (suc k) (length l) ≡ x → Onward l n k b new
      go true f =
          let more = ltb-true (suc k) (length l) f in
          let is : ◌≡◌ {A = Bool × List ℕ} (b, new) (true, get_or l (suc k) [] ++ drop (suc n) buf) = q ∙ ap told next_is ∙ rw (drop-cons l (suc k) [] more) in
          let text = take_at (get_or l (suc k) []) (drop (suc n) buf) (suc n) (p.1 (get_or l (suc k) []) (at_member l (suc k) [] more)) in
          found b new (ap (λ (x : Bool × List ℕ). x.0) is) (ap (λ (x : Bool × List ℕ). x.1) is) more text
        where
          found : (b : Bool) (new : List ℕ) → b ≡ true → new ≡ get_or l (suc k) [] ++ drop (suc n) buf → suc k < length l →
              take (suc n) (get_or l (suc k) [] ++ drop (suc n) buf) ≡ get_or l (suc k) [] → Onward l n k b new
          found true new _ i more text = (more, ap (take (suc n)) i ∙ text)
          found false new i _ _ _ = absurd (false≢true i)
      go false f =
          let least = ltb-false (suc k) (length l) f in
          let is : ◌≡◌ {A = Bool × List ℕ} (b, new) (false, buf) = q ∙ ap told next_is ∙ rw (drop_of_length-le l {i = suc k} least) in
          last b (ap (λ (x : Bool × List ℕ). x.0) is) least
        where
          last : (b : Bool) → b ≡ false → length l ≤ suc k → Onward l n k b new
          last true i _ = absurd (false≢true (sym i))
          last false _ least = omega arith

-- ── the text of a turn ──

listed-turn : (l : List (List ℕ)) (k : ℕ) → k < 1000 → k < length l →
    listed_from (1000 - k) k (drop k l) ≡ reading_line (k + 1) (get_or l k []) ++ listed_from (1000 - (k + 1)) (k + 1) (drop (k + 1) l)
unfolding listed_from
listed-turn l k h below =
    let left : 1000 - k ≡ suc (1000 - suc k) = omega arith in
    rw (add-one k, left, drop-cons l k [] below)

listed_more : (l : List (List ℕ)) (k : ℕ) → k ≡ 1000 → k < length l → listed_from (1000 - k) k (drop k l) ≡ more_line k
unfolding listed_from
listed_more l k h below =
    let left : 1000 - k ≡ 0 = omega arith in
    rw (left, drop-cons l k [] below)

listed_end : (left k : ℕ) (l : List (List ℕ)) → l ≡ [] → listed_from left k l ≡ end_line k
unfolding listed_from
listed_end zero k l h = rw h
listed_end (suc left) k l h = rw h

-- ── the loop ──

-- the reading in the buffer is to be listed as number `next`: the text of those before it, and what is left to list
pub record Turns {W : Type 0} (contents : W → Option (List ℕ)) (l : List (List ℕ)) (n : ℕ) (t₀ : Text W) (reading : List ℕ) (t : Text W) (next : ℕ) : Type 0 where
  pub k : ℕ
  pub number : next ≡ k + 1
  pub most : k ≤ 1000
  pub below : k < length l
  pub room : n < length reading
  pub holds : take (n + 1) reading ≡ get_or l k []
  pub so_far : List ℕ
  pub rest : so_far ++ listed_from (1000 - k) k (drop k l) ≡ listed_from most_listed 0 l
  pub lays : Lays contents t₀ t so_far

module _ (g : Grammar) (ts : List ℕ) where
  abbrev L : List (List ℕ)
  L = entries g (tokens_of ts)

  abbrev n : ℕ
  n = length ts

  module _ {W : Type 0} {contents : W → Option (List ℕ)} {t₀ : Text W} where
    pub turns_start : {reading : List ℕ} → Begun L n reading → Turns contents L n t₀ reading t₀ 1
    turns_start b = record { k = 0; number = refl; most = omega arith; below = b.some_one; room = b.room; holds = b.holds; so_far = []; rest = refl; lays = lays_none }

    module _ {t u : Text W} {reading : List ℕ} {m : ℕ} (d : Turns contents L n t₀ reading t m) (h : m ≤ 1000) (e : Lays contents t u (reading_line m (take (n + 1) reading))) where
      turn-onward : (a : Answer) (new : List ℕ) → (a, new) ≡ call_on (over_entries g (tokens_of ts)) next reading → Onward L n d.k (is_written a) new
      turn-onward a new q =
          onward L n (entries_in_order g ts) d.k d.below reading (rw (add-one n) at d.holds) (is_written a) new (ap told (q ∙ ap (λ (x : Subject). call_on x next reading) (entries_are g ts)))

      -- what is listed with this reading, and what is left
      rest_behind : (d.so_far ++ reading_line m (take (n + 1) reading)) ++ listed_from (1000 - m) m (drop m L) ≡ listed_from most_listed 0 L
      rest_behind = rw (d.number)
          (append_assoc d.so_far (reading_line (d.k + 1) (take (n + 1) reading)) (listed_from (1000 - (d.k + 1)) (d.k + 1) (drop (d.k + 1) L))
          ∙ ap (λ (x : List ℕ). d.so_far ++ (reading_line (d.k + 1) x ++ listed_from (1000 - (d.k + 1)) (d.k + 1) (drop (d.k + 1) L))) d.holds
          ∙ ap (λ (x : List ℕ). d.so_far ++ x) (sym (listed-turn L d.k (omega (arith, d.number)) d.below)) ∙ d.rest)

      pub turns_next : (a : Answer) (new : List ℕ) → is_written a ≡ true → length new ≡ length reading → (a, new) ≡ call_on (over_entries g (tokens_of ts)) next reading → Turns contents L n t₀ new u (m + 1)
      turns_next a new is size q =
          let o : (suc d.k < length L) × (take (suc n) new ≡ get_or L (suc d.k) []) = subst (λ (x : Bool). Onward L n d.k x new) is (turn-onward a new q) in
          record {
            k = m;
            number = refl;
            most = h;
            below = omega (arith, d.number, o.0);
            room = omega (arith, size, d.room);
            holds = rw (d.number, add-one n, add-one d.k) o.1;
            so_far = d.so_far ++ reading_line m (take (n + 1) reading);
            rest = rest_behind;
            lays = lays_both d.lays e;
          }

      pub turns_end : (a : Answer) (new : List ℕ) → is_written a ≡ false → (a, new) ≡ call_on (over_entries g (tokens_of ts)) next reading → {v : Text W} → Lays contents u v (end_line m) →
          Lays contents t₀ v (listed_from most_listed 0 L)
      turns_end a new is q {v} f =
          let o : length L ≡ suc d.k = subst (λ (x : Bool). Onward L n d.k x new) is (turn-onward a new q) in
          let last = listed_end (1000 - m) m (drop m L) (drop_of_length-le L {i = m} (omega (arith, d.number, o))) in
          subst (λ (l : List ℕ). Lays contents t₀ v l) (ap (λ (l : List ℕ). (d.so_far ++ reading_line m (take (n + 1) reading)) ++ l) (sym last) ∙ rest_behind) (lays_both (lays_both d.lays e) f)

    pub turns_more : {t v : Text W} {reading : List ℕ} {m : ℕ} → Turns contents L n t₀ reading t m → 1000 < m → Lays contents t v (more_line 1000) → Lays contents t₀ v (listed_from most_listed 0 L)
    turns_more {t} {v} {reading} {m} d h f =
        let all : d.k ≡ 1000 = omega (arith, d.number, d.most) in
        subst (λ (l : List ℕ). Lays contents t₀ v l) (ap (λ (x : ℕ). d.so_far ++ more_line x) (sym all) ∙ ap (λ (l : List ℕ). d.so_far ++ l) (sym (listed_more L d.k all d.below)) ∙ d.rest) (lays_both d.lays f)
