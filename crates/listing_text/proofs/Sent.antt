-- A text laid into a buffer goes out in pieces, one behind the other: none overlaps another, and none is missing.
use Prim.Native.Nat.{ℕ, suc, ◌+◌, ◌-◌, ◌^◌, ◌<◌, ◌≤◌}
use native.Mathlib.Numerals.{add-one}
use native.Mathlib.Omega.{arith}
use mathlib.Core.Path.{◌≡◌, refl, sym, ◌∙◌, ap, subst}
use mathlib.Core.Bool.{Bool, true, false}
use mathlib.Core.List.{List, [], ◌∷◌, ◌++◌, append-nil, append_assoc}
use borrow.Author.Tests.{eq-eqb, ne_eqb, lt-ltb, eqb-true, eqb-false}
use lib.Dec.{eqb, ltb}
use lib.ListN.{length, take, drop, set, get_or, length-append, length-drop}
use lib.Seq.{drop-drop, drop-cons, take_at, take_all, drop-append_seam, set-append_seam}
use Rattle.lines.specs.declared.Cursor.{Cursor}
use Rattle.lines.specs.Laid.{Laid, at_start, put, put_if, laid}
use Rattle.lines.specs.believed.Window.{shown, window}
use Rattle.listing_text.specs.declared.Piece.{Piece}
use Rattle.listing_text.specs.believed.Pieces.{goes_on, before_all}
use Rattle.listing_text.specs.believed.Written.{Pieces, none, one_more, Written}
use Rattle.listing_text.proofs.Pieces.{piece_is, piece_added}

-- ── one byte in the buffer ──

-- the bytes x, and behind them what was there
abbrev over : List ℕ → List ℕ → List ℕ
over x out = x ++ drop (length x) out

over-length : (x out : List ℕ) → length x ≤ length out → length (over x out) ≡ length out
over-length x out h = length-append x (drop (length x) out) ∙ (let n : length (drop (length x) out) ≡ length out - length x = length-drop (length x) out in omega arith)

one_longer : (x : List ℕ) (b : ℕ) → length (x ++ (b ∷ [])) ≡ length x + 1
one_longer x b = length-append x (b ∷ [])

byte-over : (x out : List ℕ) (b : ℕ) → length x < length out → set (over x out) (length x) b ≡ over (x ++ (b ∷ [])) out
byte-over x out b h =
    ap (λ (l : List ℕ). set (x ++ l) (length x) b) (drop-cons out (length x) 0 h) ∙ set-append_seam x (get_or out (length x) 0) (drop (suc (length x)) out) b
    ∙ sym (append_assoc x (b ∷ []) (drop (suc (length x)) out)) ∙ ap (λ (n : ℕ). (x ++ (b ∷ [])) ++ drop n out) (sym (one_longer x b ∙ add-one (length x)))

-- what a buffer shows that the bytes y fill, or that has room for all that is left
shows : (start : ℕ) (out text y : List ℕ) → take (length out) (drop start text) ≡ y → (length y, over y out) ≡ window start out text
shows start out text y e = ap (λ (s : List ℕ). (length s, over s out)) (sym e)

full : (n size : ℕ) → n ≡ size → 0 < n → true ≡ goes_on n size
full n size e h = rw (eq-eqb n size e, lt-ltb 0 n h)

not_full : (n size : ℕ) → n < size → false ≡ goes_on n size
not_full n size h = rw (ne_eqb n size (λ (e : n ≡ size). absurd (omega arith)))

module _ (text out₀ : List ℕ) where
  -- all pieces up to p are out, the buffer holds the bytes x behind them, and `rest` is still to come
  record Sent (rest : List ℕ) (w : Laid) : Type 0 where
    p : Piece
    out : List ℕ
    all : List ℕ
    x : List ℕ
    pieces : Pieces text out₀ p out all
    more : p.more ≡ true
    before : w.0.before ≡ p.end
    at : w.0.at ≡ length x
    room : length x < length out
    behind : drop p.end text ≡ x ++ rest
    holds : w.1 ≡ over x out

  module _ (short : length text < 2 ^ 64) (b : ℕ) (rest : List ℕ) (w : Laid) (s : Sent (b ∷ rest) w) where
    abbrev y : List ℕ
    y = s.x ++ (b ∷ [])

    behind-byte : drop s.p.end text ≡ y ++ rest
    behind-byte = s.behind ∙ sym (append_assoc s.x (b ∷ []) rest)

    size_is : length w.1 ≡ length s.out
    size_is = ap length s.holds ∙ over-length s.x s.out (omega (arith, s.room))

    byte-set : set w.1 w.0.at b ≡ over y s.out
    byte-set = rw (s.holds, s.at) (byte-over s.x s.out b s.room)

    put_is : (last : Bool) → eqb (length s.x + 1) (length s.out) ≡ last → put w b ≡ put_if true last w.0 w.1 b
    put_is last e =
        let fits : ltb w.0.at (length w.1) ≡ true = lt-ltb w.0.at (length w.1) (omega (arith, s.at, size_is, s.room)) in
        let ends : eqb (w.0.at + 1) (length w.1) ≡ last = rw (s.at, size_is) e in
        rw (fits, ends)

    within : s.p.end + length y + length rest ≤ length text
    within =
        let n : length (drop s.p.end text) ≡ length text - s.p.end = length-drop s.p.end text in
        let m : length (drop s.p.end text) ≡ length y + length rest = ap length behind-byte ∙ length-append y rest in
        omega (arith, n, m, one_longer s.x b)

    -- the byte is the buffer's last: a piece goes out
    sent_full : length s.x + 1 ≡ length s.out → Sent rest (put_if true true w.0 w.1 b)
    sent_full e =
        let size : length y ≡ length s.out = one_longer s.x b ∙ e in
        let is = piece_is s.p s.out text (length y) (over y s.out) true
        (shows s.p.end s.out text y (ap (take (length s.out)) behind-byte ∙ take_at y rest (length s.out) size)) (full (length y) (length s.out) size (omega (arith, one_longer s.x b))) in
        let k = piece_added text s.p s.out (record { end = s.p.end + length y; length = length y; more = true }) (over y s.out) is s.pieces s.more in
        record {
          p = record { end = s.p.end + length y; length = length y; more = true };
          out = over y s.out;
          all = k.0;
          x = [];
          pieces = k.1;
          more = refl;
          before = rw (s.before, size_is) (omega (arith, size, within, short));
          at = refl;
          room = omega (arith, over-length y s.out (omega (arith, size)), s.room);
          behind = sym (drop-drop (length y) s.p.end text) ∙ ap (drop (length y)) behind-byte ∙ drop-append_seam y rest;
          holds = byte-set;
        }

    sent_byte : length s.x + 1 < length s.out → Sent rest (put_if true false w.0 w.1 b)
    sent_byte h =
        record {
          p = s.p;
          out = s.out;
          all = s.all;
          x = y;
          pieces = s.pieces;
          more = s.more;
          before = s.before;
          at = ap (λ (n : ℕ). n + 1) s.at ∙ sym (one_longer s.x b);
          room = omega (arith, one_longer s.x b);
          behind = behind-byte;
          holds = byte-set;
        }

    sent_next : Sent rest (put w b)
    sent_next = go (eqb (length s.x + 1) (length s.out)) refl
      where
        go : (last : Bool) → eqb (length s.x + 1) (length s.out) ≡ last → Sent rest (put w b)
        go true e = subst (λ (v : Laid). Sent rest v) (sym (put_is true e)) (sent_full (eqb-true _ _ e))
        go false e =
            let other = eqb-false (length s.x + 1) (length s.out) e in
            subst (λ (v : Laid). Sent rest v) (sym (put_is false e)) (sent_byte (omega (arith, other, s.room)))

  sent_all : length text < 2 ^ 64 → (rest : List ℕ) (w : Laid) → Sent rest w → Sent [] (laid w rest)
  unfolding laid
  sent_all short [] w s = s
  sent_all short (b ∷ rest) w s = sent_all short rest (put w b) (sent_next short b rest w s)

  -- what is in the buffer at the end is the last piece
  sent_written : (w : Laid) → Sent [] w → Written text out₀ (record { end = w.0.before + w.0.at; length = w.0.at; more = false }) w.1
  sent_written w s =
      let left : drop s.p.end text ≡ s.x = s.behind ∙ append-nil s.x in
      let is = piece_is s.p s.out text (length s.x) (over s.x s.out) false
      (shows s.p.end s.out text s.x (ap (take (length s.out)) left ∙ take_all (length s.out) s.x (omega (arith, s.room)))) (not_full (length s.x) (length s.out) s.room) in
      let k = piece_added text s.p s.out (record { end = s.p.end + length s.x; length = length s.x; more = false }) (over s.x s.out) is s.pieces s.more in
      rw (s.before, s.at, s.holds) (record { all = k.0; pieces = k.1; last = refl })

-- ── the whole text ──

-- a buffer with no room takes nothing
no_room : (text : List ℕ) → laid (at_start, []) text ≡ (at_start, [])
unfolding laid
no_room [] = refl
no_room (b ∷ text) = no_room text

-- the piece that is in the buffer
abbrev pub last_piece : Cursor → Piece
last_piece c = record { end = c.before + c.at; length = c.at; more = false }

pub laid-written : (text out : List ℕ) → length text < 2 ^ 64 → (w : Laid) → w ≡ laid (at_start, out) text → Written text out (last_piece w.0) w.1
laid-written text [] short w e = rw (e ∙ no_room text) (record { all = [] ++ shown 0 0 text; pieces = one_more before_all [] [] none refl; last = refl })
laid-written text (x ∷ out) short w e =
    rw e
    (sent_written text (x ∷ out) (laid (at_start, x ∷ out) text)
    (sent_all text (x ∷ out) short text (at_start, x ∷ out)
    (record { p = before_all; out = x ∷ out; all = []; x = []; pieces = none; more = refl; before = refl; at = refl; room = omega arith; behind = refl; holds = refl })))
