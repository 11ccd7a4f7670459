-- Bytes handed to a sink, one after the other.
use Rattle.std.proofs.Common.{ℕ, List, [], ◌++◌, refl, ◌∙◌}
use Rattle.std.proofs.KnownBytes.{Appends-nil, Appends-trans}
use Rattle.std.specs.declared.option.Option.{Option}
use Rattle.streams.specs.declared.Sink.{Sink}
use Rattle.streams.specs.believed.Sent.{Sent}

module _ {W : Type 0} {contents : W → Option (List ℕ)} where
  pub sent-append : (s t u : Sink W) (xs ys : List ℕ) → Sent contents s t xs → Sent contents t u ys → Sent contents s u (xs ++ ys)
  sent-append s t u xs ys p q = record {
    whole = λ e.
        let last = q.whole e in
        let first = p.whole last.0 in
        (first.0, Appends-trans (contents s.writer) (contents t.writer) (contents u.writer) xs ys first.1 last.1);
    stays = λ e f.
        let first = p.stays e f in
        let last = q.stays e first.0 in
        (last.0, last.1 ∙ first.1);
  }

  pub sent-none : (s : Sink W) → Sent contents s s []
  sent-none s = record { whole = λ e. (e, Appends-nil (contents s.writer)); stays = λ e f. (f, refl) }
