-- `write_listing`: what the text left in the buffer is the last piece, and with what went out before it is the whole listing.
use Rattle.std.proofs.Common.{◌≡◌, ℕ, ◌<◌, List, ◌++◌, length, take, sym, ap, ◌∙◌, subst, arith, rules, length-take-le}
use Rattle.streams.specs.declared.Sink.{Sink}
use Rattle.streams.specs.believed.Sent.{Sent}
use Rattle.streams.proofs.Handed.{sent-append}
use Rattle.lines.specs.declared.Cursor.{Cursor}
use Rattle.lines.specs.Laid.{Laid, at_start, laid, gone}
use Rattle.lines.proofs.Whole.{held, all_of_it}
use Rattle.listing_text.specs.believed.Listing.{listing}
use Rattle.listing_text.specs.believed.Written.{Written}
use Rattle.listing_text.proofs.Pieces.{written-fits}
use Rattle.listing_text.proofs.Sent.{last_piece, laid-written}
use Rattle.listing_text.proofs.Short.{listing_short}
use Rattle.listing_output.proofs.write_listing.Goals as goal

all-written : (grammar history : List ℕ) {out : List ℕ} {c : Cursor} {new : List ℕ} → (c, new) ≡ laid (at_start, out) (listing grammar history) → Written (listing grammar history) out (last_piece c) new
all-written grammar history {out} {c} {new} e = laid-written (listing grammar history) out (omega (arith, listing_short grammar history)) (c, new) e

-- the last piece behind the pieces that went out
all-sent : (text out : List ℕ) (c : Cursor) (new : List ℕ) → 0 < length out → (c, new) ≡ laid (at_start, out) text → gone (at_start, out) text ++ take c.at new ≡ text
all-sent text out c new room e = ap (λ (w : Laid). gone (at_start, out) text ++ held w) e ∙ all_of_it (at_start, out) text room

pub slice_bounds-put-end : goal.slice_bounds-put-end
slice_bounds-put-end g c = (written-fits (all-written c.args.grammar.now c.args.history.now (rw c.new-listed.ensures at c.list.ensures).place)).1

pub slice_bounds-put-end-2 : goal.slice_bounds-put-end-2
slice_bounds-put-end-2 g c = sym (length-take-le _ _ (written-fits (all-written c.args.grammar.now c.args.history.now (rw c.new-listed.ensures at c.list.ensures).place)).1)

pub overflow_add-result : goal.overflow_add-result
overflow_add-result g c = omega (arith, (written-fits (all-written c.args.grammar.now c.args.history.now (rw c.new-listed.ensures at c.list.ensures).place)).0, listing_short c.args.grammar.now c.args.history.now)

pub returns-clause-pieces : goal.returns-clause-pieces
returns-clause-pieces g c = subst (λ (new : List ℕ). Written (listing c.args.grammar.now c.args.history.now) c.args.text.now (last_piece c.list.new.text.cursor) new) (search rules) (all-written c.args.grammar.now c.args.history.now (rw c.new-listed.ensures at c.list.ensures).place)

pub returns-clause-sent : goal.returns-clause-sent
returns-clause-sent g c room =
    let listed = (rw c.new-listed.ensures at c.list.ensures) in
    subst (λ (s : Sink g.row.W.Denot). Sent g.W.Write.contents c.args.sink.now s (listing c.args.grammar.now c.args.history.now)) (search rules)
    (subst (λ (l : List ℕ). Sent g.W.Write.contents c.args.sink.now c.put.new.self l) (all-sent _ c.args.text.now _ _ room listed.place) (sent-append _ _ _ _ _ listed.sent c.put.ensures))
