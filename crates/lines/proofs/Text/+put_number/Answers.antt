use Rattle.std.proofs.Common.{◌≡◌, ◌+◌, ◌%◌, [], ◌∷◌, List, ℕ, sym, ap, ◌∙◌, subst, arith}
use Rattle.lines.specs.Lays.{Lays}
use Rattle.lines.specs.declared.Text.{Text}
use Rattle.lines.proofs.Digits.{one_digit, last_digit}
use Rattle.lines.proofs.Laying.{lays_both}
use Rattle.lines.proofs.Text.+put_number.Goals.{then-n-ge10, else-n-ge10}
use Rattle.lines.proofs.Text.+put_number.Goals as goal

pub returns : goal.returns
returns g t c =
    elim c.if-n-ge10.branch [
      | then-n-ge10 w ↦
          subst (λ (l : List ℕ). Lays g.W.Write.contents c.args.self.now c.put_byte.new.self l) (sym (last_digit c.args.n (omega (arith, c.ranges.n.fits)) w.if-n-ge10.true))
          (lays_both w.put_number.ensures (subst (λ (s : Text g.row.W.Denot). Lays g.W.Write.contents s c.put_byte.new.self ((48 + c.args.n % 10) ∷ [])) w.self-is c.put_byte.ensures))
      | else-n-ge10 w ↦
          let same : c.args.n % 10 ≡ c.args.n = omega (arith, w.if-n-ge10.false) in
          subst (λ (l : List ℕ). Lays g.W.Write.contents c.args.self.now c.put_byte.new.self l) (ap (λ (d : ℕ). (48 + d) ∷ []) same ∙ sym (one_digit c.args.n w.if-n-ge10.false))
          (subst (λ (s : Text g.row.W.Denot). Lays g.W.Write.contents s c.put_byte.new.self ((48 + c.args.n % 10) ∷ [])) w.self-is c.put_byte.ensures)
    ]
