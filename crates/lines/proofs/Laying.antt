-- Text laid line by line is the whole text laid, and what goes out with it is what goes out with each line.
use Rattle.std.proofs.Common.{◌≡◌, ℕ, ◌+◌, ◌<◌, List, [], ◌∷◌, ◌++◌, length, get_or, take, sym, refl, ap, ◌∙◌, subst, append_assoc, add-one}
use Rattle.std.proofs.Math.Seq.{take-suc}
use Rattle.std.proofs.lemmas.List.{append-nil}
use Rattle.std.specs.declared.option.Option.{Option}
use Rattle.streams.specs.believed.Sent.{Sent}
use Rattle.streams.proofs.Handed.{sent-append, sent-none}
use Rattle.lines.specs.declared.Text.{Text}
use Rattle.lines.specs.Laid.{Laid, put, laid, piece, gone}
use Rattle.lines.specs.Lays.{Lays}
use Rattle.lines.specs.believed.Text.{blank, decimal, reading_text}

pub laid-append : (p : Laid) (a b : List ℕ) → laid p (a ++ b) ≡ laid (laid p a) b
unfolding laid
laid-append p [] b = refl
laid-append p (x ∷ a) b = laid-append (put p x) a b

pub gone-append : (p : Laid) (a b : List ℕ) → gone p (a ++ b) ≡ gone p a ++ gone (laid p a) b
unfolding laid gone
gone-append p [] b = refl
gone-append p (x ∷ a) b = ap (λ (l : List ℕ). piece p x ++ l) (gone-append (put p x) a b) ∙ sym (append_assoc (piece p x) (gone (put p x) a) (gone (laid (put p x) a) b))

reading_text_last : (a : List ℕ) (r : ℕ) → reading_text (a ++ (r ∷ [])) ≡ reading_text a ++ (blank ∷ decimal r)
unfolding reading_text
reading_text_last [] r = append-nil (blank ∷ decimal r)
reading_text_last (x ∷ a) r = ap (λ (l : List ℕ). (blank ∷ decimal x) ++ l) (reading_text_last a r) ∙ sym (append_assoc (blank ∷ decimal x) (reading_text a) (blank ∷ decimal r))

module _ {W : Type 0} {contents : W → Option (List ℕ)} where
  pub lays_none : {t : Text W} → Lays contents t t []
  unfolding laid gone
  lays_none {t} = record { place = refl; sent = sent-none t.sink.now; same_out = refl; same_sink = refl }

  -- two texts, one behind the other
  pub lays_both : {s t u : Text W} {a b : List ℕ} → Lays contents s t a → Lays contents t u b → Lays contents s u (a ++ b)
  lays_both {s} {t} {u} {a} {b} p q =
      let start : Laid = (s.cursor, s.out.now) in
      record {
        place = q.place ∙ ap (λ (x : Laid). laid x b) p.place ∙ sym (laid-append start a b);
        sent = subst (λ (l : List ℕ). Sent contents s.sink.now u.sink.now l) (sym (gone-append start a b ∙ ap (λ (x : Laid). gone start a ++ gone x b) (sym p.place)))
            (sent-append s.sink.now t.sink.now u.sink.now (gone start a) (gone (t.cursor, t.out.now) b) p.sent q.sent);
        same_out = q.same_out ∙ p.same_out;
        same_sink = q.same_sink ∙ p.same_sink;
      }

  -- a byte more of a list
  pub lays_byte : (bytes : List ℕ) (i : ℕ) {s t u : Text W} → i < length bytes → Lays contents s t (take i bytes) → Lays contents t u (get_or bytes i 0 ∷ []) → Lays contents s u (take (i + 1) bytes)
  lays_byte bytes i {s} {t} {u} h p q = rw (add-one i) (subst (λ (l : List ℕ). Lays contents s u l) (sym (take-suc bytes i 0 h)) (lays_both p q))

  -- a rule number more of a reading
  pub lays_rule : (reading : List ℕ) (i : ℕ) {n : ℕ} {s t u v : Text W} → i < length reading → n ≡ get_or reading i 0 → Lays contents s t (reading_text (take i reading)) → Lays contents t u (blank ∷ []) →
      Lays contents u v (decimal n) → Lays contents s v (reading_text (take (i + 1) reading))
  lays_rule reading i {n} {s} {t} {u} {v} h e p q r =
      rw (add-one i)
      (subst (λ (l : List ℕ). Lays contents s v l) (ap (λ (x : ℕ). reading_text (take i reading) ++ (blank ∷ decimal x)) e ∙ sym (ap reading_text (take-suc reading i 0 h) ∙ reading_text_last (take i reading) (get_or reading i 0)))
      (lays_both p (lays_both q r)))
