-- Where no rule takes an open or a close alone, Definition 2.2 is Definition 2.1, and the entries are its readings. By rules that meet the
-- conditions of 2.2 a nonterminal of V⁰ derives as by 2.1.
use Prim.Native.Nat.{ℕ, ◌<◌}
use mathlib.Core.Logic.{◌↔◌}
use mathlib.Core.List.{List, Memᴰ}
use Rattle.vpg.specs.declared.Token.{Token}
use Rattle.vpg.specs.believed.Grammar.{Rules, Grammar, General, Tree, Derives, by_empty, by_next, by_step, Reading}
use Rattle.vpg.specs.believed.Matched.{PlainRules, Matched, MatchedReading}
use Rattle.vpg.specs.believed.Matched as matched
use Rattle.vpg.specs.Runs.{entries}
use Rattle.vpg.proofs.Sound.{entries_readings}

module _ (g : Rules) (ok : PlainRules g) where
  to_matched : {L : ℕ} {w : List Token} {t : Tree} → Derives g L w t → Matched g L w t
  to_matched (by_empty p) = matched.by_empty p
  to_matched (by_next {i = Token.Mark c} p d) = matched.by_mark p (to_matched d)
  to_matched (by_next {i = Token.Open a} p d) = absurd (ok _ _ p)
  to_matched (by_next {i = Token.Close b} p d) = absurd (ok _ _ p)
  to_matched (by_step p d d') = matched.by_step p (to_matched d) (to_matched d')

of_matched : {g : Rules} {L : ℕ} {w : List Token} {t : Tree} → Matched g L w t → Derives g L w t
of_matched (matched.by_empty p) = by_empty p
of_matched (matched.by_mark p d) = by_next p (of_matched d)
of_matched (matched.by_step p d d') = by_step p (of_matched d) (of_matched d')

pub matched_readings : (g : Grammar) → PlainRules g.rules → (w : List Token) (e : List ℕ) → Reading g w e ↔ MatchedReading g w e
matched_readings g ok w e = (λ h. (h.0, to_matched g.rules ok h.1, h.2), λ h. (h.0, of_matched h.1, h.2))

pub entries_matched : (g : Grammar) → PlainRules g.rules → (w : List Token) (e : List ℕ) → Memᴰ e (entries g w) ↔ MatchedReading g w e
entries_matched g ok w e =
    let h = entries_readings g w e in
    let k = matched_readings g ok w e in
    (λ m. k.0 (h.0 m), λ m. h.1 (k.1 m))

module _ (W : ℕ) (g : Rules) (ok : General W g) where
  to_well : {L : ℕ} {w : List Token} {t : Tree} → L < W → Derives g L w t → Matched g L w t
  to_well h (by_empty p) = matched.by_empty p
  to_well h (by_next {i = Token.Mark c} p d) = matched.by_mark p (to_well (ok _ _ p h).1 d)
  to_well h (by_next {i = Token.Open a} p d) = absurd (ok _ _ p h).0
  to_well h (by_next {i = Token.Close b} p d) = absurd (ok _ _ p h).0
  to_well h (by_step p d d') = matched.by_step p (to_well (ok _ _ p).0 d) (to_well ((ok _ _ p).1 h) d')

  -- V⁰ is the well-matched nonterminals
  pub well_matched : {L : ℕ} {w : List Token} {t : Tree} → L < W → Derives g L w t ↔ Matched g L w t
  well_matched h = (to_well h, of_matched)
