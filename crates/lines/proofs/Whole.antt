-- What goes out while a text is laid, and then what is left in the buffer, is the text.
use Rattle.std.proofs.Common.{◌≡◌, ℕ, ◌+◌, ◌<◌, Bool, true, false, List, [], ◌∷◌, ◌++◌, length, take, sym, refl, ap, ◌∙◌, eqb, append_assoc, add-one, arith, lt-ltb, eqb-true}
use Rattle.std.proofs.Math.ListN.{set, length-set}
use Rattle.std.proofs.Math.Seq.{take-suc-set}
use Rattle.std.proofs.lemmas.Bool.{eqb-false}
use Rattle.std.proofs.lemmas.List.{append-nil, take_all}
use Rattle.lines.specs.Laid.{Laid, put, put_if, laid, piece, piece_if, gone}

-- the buffer has room behind its last byte
abbrev pub HasRoom : Laid → Type 0
HasRoom w = w.0.at < length w.1

-- the bytes in the buffer
abbrev pub held : Laid → List ℕ
held w = take w.0.at w.1

one_more : (w : Laid) (b : ℕ) → HasRoom w → HasRoom (put w b) × (piece w b ++ held (put w b) ≡ held w ++ (b ∷ []))
one_more (p, out) b h = rw (lt-ltb p.at (length out) h) (go (eqb (p.at + 1) (length out)) refl)
  where
    added : take (p.at + 1) (set out p.at b) ≡ take p.at out ++ (b ∷ [])
    added = rw (add-one p.at) (take-suc-set out p.at b h)

    go : (e : Bool) → eqb (p.at + 1) (length out) ≡ e → HasRoom (put_if true e p out b) × (piece_if true e p out b ++ held (put_if true e p out b) ≡ take p.at out ++ (b ∷ []))
    go true e =
        let size = length-set out p.at b in
        (omega (arith, size, h), append-nil (set out p.at b) ∙ sym (take_all (p.at + 1) (set out p.at b) (omega (arith, size, eqb-true (p.at + 1) (length out) e))) ∙ added)
    go false e = (omega (arith, length-set out p.at b, h, eqb-false (p.at + 1) (length out) e), added)

pub all_of_it : (w : Laid) (text : List ℕ) → HasRoom w → gone w text ++ held (laid w text) ≡ held w ++ text
unfolding laid gone
all_of_it w [] h = sym (append-nil (held w))
all_of_it w (b ∷ text) h =
    let k = one_more w b h in
    append_assoc (piece w b) (gone (put w b) text) (held (laid (put w b) text)) ∙ ap (λ (l : List ℕ). piece w b ++ l) (all_of_it (put w b) text k.0)
    ∙ sym (append_assoc (piece w b) (held (put w b)) text) ∙ ap (λ (l : List ℕ). l ++ text) k.1 ∙ append_assoc (held w) (b ∷ []) text
