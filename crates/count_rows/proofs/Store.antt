-- A count stored in its row.
use Prim.Native.Nat.{ℕ, ◌+◌, ◌<◌, ◌≤◌}
use native.Mathlib.Decide.{ℕ_discrete, dec_lt}
use native.Mathlib.Omega.{arith}
use mathlib.Core.Path.{◌≡◌, refl, sym, ◌∙◌}
use mathlib.Core.Bool.{true, false, or-false, or-true}
use mathlib.Core.List.{List, []}
use borrow.Author.Tests.{eq-eqb, ne_eqb, lt-ltb, le-ltb}
use lib.ListN.{get_or, set}
use lib.Seq.{get_or-set_same, get_or-set_other}
use Rattle.bits.specs.Bit.{bit, add_bit}
use Rattle.bits.proofs.Bits.{bit-add}
use Rattle.capped.specs.Capped.{limit, cap}
use Rattle.count_rows.specs.declared.rows.Rows.{Rows}
use Rattle.count_rows.specs.Sized.{Sized}
use Rattle.count_rows.specs.Rows.{overs_at, value_at, added_at, Added}

-- a fact of the positions that there are, and of no count behind them
by_room : (P : ℕ → Type 0) (q : ℕ) → (q < 1026 → P q) → (1026 ≤ q → P q) → P q
by_room P q near far = go (dec_lt q 1026)
  where
    go : Dec (q < 1026) → P q
    go (yes h) = near h
    go (no h) = far (omega arith)

none-behind : (rows : Rows) (q M : ℕ) → 1026 ≤ q → value_at rows q M ≡ 0
none-behind rows q M h = rw (le-ltb q 1026 h)

module _ (rows : Rows) (p L n : ℕ) (room : p < 1026) (small : L < 32) where
  -- behind the positions that there are nothing is added
  far : (rows' : Rows) (q M : ℕ) → 1026 ≤ q → value_at rows' q M ≡ added_at (value_at rows) p L n q M
  far rows' q M h = none-behind rows' q M h ∙ sym (rw (ne_eqb q p (λ e. omega (arith, e))) (none-behind rows q M h))

  -- it was over
  pub stays_over : bit (overs_at rows p) L ≡ true → Added rows p L n rows
  stays_over o = record { values = λ q M h. go q M (ℕ_discrete q p) (ℕ_discrete M L); words = λ q d. refl }
    where
      go : (q M : ℕ) → Dec (q ≡ p) → Dec (M ≡ L) → value_at rows q M ≡ added_at (value_at rows) p L n q M
      go q M (yes e) (yes f) = rw (eq-eqb q p e, eq-eqb M L f, e, f, lt-ltb p 1026 room, o) (omega arith)
      go q M (yes e) (no f) = rw (eq-eqb q p e, ne_eqb M L f)
      go q M (no e) d = rw (ne_eqb q p e)

  -- it is stored
  abbrev row : ℕ → List ℕ
  row x = set (get_or rows.counts p []) L x

  row_here : (x : ℕ) → get_or (set rows.counts p (row x)) p [] ≡ row x
  row_here x = get_or-set_same rows.counts p (row x) [] (omega (arith, rows.sized.0))

  row_other : (x q : ℕ) → (q ≡ p → ⊥) → get_or (set rows.counts p (row x)) q [] ≡ get_or rows.counts q []
  row_other x q d = get_or-set_other rows.counts p q (row x) [] d

  pub stored : (x : ℕ) {sized : Sized (set rows.counts p (row x)) rows.overs} → bit (overs_at rows p) L ≡ false → x ≡ cap (get_or (get_or rows.counts p []) L 0 + n) →
      Added rows p L n (record { counts = set rows.counts p (row x); overs = rows.overs; sized = sized })
  stored x {sized} o e = record {
    values = λ q M h. by_room (λ q. value_at new q M ≡ added_at (value_at rows) p L n q M) q (λ l. go q M (ℕ_discrete q p) (ℕ_discrete M L)) (far new q M);
    words = λ q d. refl;
  }
    where
      new : Rows
      new = record { counts = set rows.counts p (row x); overs = rows.overs; sized = sized }

      go : (q M : ℕ) → Dec (q ≡ p) → Dec (M ≡ L) → value_at new q M ≡ added_at (value_at rows) p L n q M
      go q M (yes i) (yes j) = rw (eq-eqb q p i, eq-eqb M L j, i, j, lt-ltb p 1026 room, o, row_here x, get_or-set_same (get_or rows.counts p []) L x 0 (rw (rows.sized.1 p room) small)) e
      go q M (yes i) (no j) = rw (eq-eqb q p i, ne_eqb M L j, i, row_here x, get_or-set_other (get_or rows.counts p []) L M x 0 j)
      go q M (no i) d = rw (ne_eqb q p i, row_other x q i)

  -- it goes over
  pub goes_over : (word : ℕ) {sized : Sized rows.counts (set rows.overs p word)} → word ≡ add_bit (overs_at rows p) L → bit (overs_at rows p) L ≡ false → limit ≡ cap (get_or (get_or rows.counts p []) L 0 + n) →
      Added rows p L n (record { counts = rows.counts; overs = set rows.overs p word; sized = sized })
  goes_over word {sized} is o e = record {
    values = λ q M h. by_room (λ q. value_at over q M ≡ added_at (value_at rows) p L n q M) q (λ l. go q M l (ℕ_discrete q p) (ℕ_discrete M L)) (far over q M);
    words = other;
  }
    where
      over : Rows
      over = record { counts = rows.counts; overs = set rows.overs p word; sized = sized }

      here : overs_at over p ≡ add_bit (overs_at rows p) L
      here = get_or-set_same rows.overs p word 0 (omega (arith, rows.sized.2)) ∙ is

      other : (q : ℕ) → (q ≡ p → ⊥) → overs_at over q ≡ overs_at rows q
      other q d = get_or-set_other rows.overs p q word 0 d

      go : (q M : ℕ) → q < 1026 → Dec (q ≡ p) → Dec (M ≡ L) → value_at over q M ≡ added_at (value_at rows) p L n q M
      go q M l (yes i) (yes j) = rw (eq-eqb q p i, eq-eqb M L j, i, j, lt-ltb p 1026 room, here, bit-add (overs_at rows p) L L, eq-eqb L L refl, or-true (bit (overs_at rows p) L), o) e
      go q M l (yes i) (no j) = rw (eq-eqb q p i, ne_eqb M L j, i, here, bit-add (overs_at rows p) L M, ne_eqb M L j, or-false (bit (overs_at rows p) M))
      go q M l (no i) d = rw (ne_eqb q p i, other q i)
