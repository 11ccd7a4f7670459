-- A history file is accepted exactly where it holds the count and the numbers of well-formed tokens, over any source of numbers.
use Prim.Native.Nat.{ℕ, zero, suc}
use mathlib.Core.Path.{◌≡◌, refl, ap, ◌∙◌}
use mathlib.Core.Logic.{◌↔◌, ◌≢◌, ◌⊎◌, inl, inr}
use mathlib.Core.Bool.{false}
use mathlib.Core.List.Memᴰ
use mathlib.Core.List.{List, [], ◌∷◌, ◌++◌, append-nil, append_assoc, Memᴰ}
use native.Mathlib.Omega.{arith}
use lib.ListN.{length}
use lib.Dec.{ltb}
use borrow.Author.Tests.{ltb-false}
use Rattle.std.specs.Prelude.{Ok, Err}
use Rattle.refusal.specs.declared.Refusal.{Refusal}
use Rattle.numbers.specs.believed.Number.{Read, Source}
use Rattle.numbers.specs.believed.Field.{field_at}
use Rattle.numbers.specs.Written.{NumbersAt, none, one, Holds}
use Rattle.numbers.proofs.Fields.{Limited, field_read, field_reads}
use Rattle.laws.proofs.Bools.{chose_second}
use Rattle.numbers.proofs.Standing.{none_left, one_left}
use Rattle.history_file.specs.believed.HistoryFile.{HistoryFile, accepted, refused, token_at, depth_after, after, tokens_from, history_from}
use Rattle.history_file.specs.Wellformed.{TokenNumber, Nested, Wellformed}
use Rattle.history_file.proofs.Tokens.{Judged, token_read, token_reads}

pub apart : {e : ℕ} {ts : List ℕ} → refused e ≢ accepted ts
apart h = let z : ◌≡◌ {A = ℕ} 0 1 = cc in omega arith

after_is : (f : Read ℕ) (rest : ℕ → ℕ → HistoryFile) {ts : List ℕ} → after f rest ≡ accepted ts → (n p : ℕ) × (f ≡ Ok (n, p)) × (rest n p ≡ accepted ts)
after_is (Ok (n, p)) rest h = (n, p, refl, h)
after_is (Err e) rest h = absurd (apart h)

same_tokens : {ts us : List ℕ} → accepted us ≡ accepted ts → ts ≡ us
same_tokens h = cc

module _ (x : Source) where
  -- of an accepted file: the tokens from a place on, those before them being `before`
  record TokensAre (ts : List ℕ) (due at depth : ℕ) (before : List ℕ) : Type 0 where
    rest : List ℕ
    is : ts ≡ before ++ rest
    count : length rest ≡ due
    end : ℕ
    stand : NumbersAt x.number at rest end
    last : x.more end ≡ false
    tokens : (t : ℕ) → Memᴰ t rest → TokenNumber t
    nested : Nested depth rest

  -- one token before those
  one_token : {ts : List ℕ} {due at depth p : ℕ} {before : List ℕ} (t : ℕ) → Judged (x.number at) depth t p
      → TokensAre ts due p (depth_after t depth) (before ++ (t ∷ [])) → TokensAre ts (suc due) at depth before
  one_token t j b = record {
    rest = t ∷ b.rest;
    is = rw append_assoc at b.is;
    count = ap suc b.count;
    end = b.end;
    stand = one j.read b.stand;
    last = b.last;
    tokens = λ u m. each u (Memᴰ.cases_cons m);
    nested = (j.closes, j.opens, b.nested);
  }
    where
      each : (u : ℕ) → (u ≡ t) ⊎ Memᴰ u b.rest → TokenNumber u
      each u (inl e) = rw e (record { small = j.small; kinds = j.kinds })
      each u (inr m) = b.tokens u m

  tokens_read : (ts : List ℕ) (due at depth : ℕ) (before : List ℕ) → tokens_from x due at depth before ≡ accepted ts → TokensAre ts due at depth before
  unfolding tokens_from
  tokens_read ts zero at depth before h =
      let o = chose_second (ltb 0 depth) _ _ apart h in
      let p = chose_second (x.more at) _ _ apart o.1 in
      let closed = ltb-false 0 depth o.0 in
      record {
        rest = [];
        is = rw append-nil (same_tokens p.1);
        count = refl;
        end = at;
        stand = none;
        last = p.0;
        tokens = λ t m. absurd (Memᴰ.not-nil m);
        nested = omega arith;
      }
  tokens_read ts (suc due) at depth before h =
      let f = after_is (token_at x.number at depth) _ h in
      one_token f.0 (token_read x.number at depth f.0 f.1 f.2)
      (tokens_read ts due f.1 (depth_after f.0 depth) (before ++ (f.0 ∷ [])) f.3)

  tokens_reads : (rest : List ℕ) (at end depth : ℕ) (before : List ℕ) → NumbersAt x.number at rest end → x.more end ≡ false
      → ((t : ℕ) → Memᴰ t rest → TokenNumber t) → Nested depth rest → tokens_from x (length rest) at depth before ≡ accepted (before ++ rest)
  unfolding tokens_from
  tokens_reads [] at end depth before n l ok closed = rw (none_left n, l, closed, append-nil)
  tokens_reads (t ∷ rest) at end depth before n l ok (closes, opens, nested) =
      let f = one_left n in
      let k = ok t (Memᴰ.head refl) in
      rw (
        token_reads x.number at depth t f.0 (record { read = f.1; small = k.small; kinds = k.kinds; closes = closes; opens = opens }),
        ← append_assoc before (t ∷ []) rest,
      )
      (tokens_reads rest f.0 end (depth_after t depth) (before ++ (t ∷ [])) f.2 l (λ u m. ok u (Memᴰ.tail m)) nested)

module _ (x : Source) (ts : List ℕ) where
  abbrev Said : Type 0
  Said = Holds x (length ts ∷ ts) × Wellformed ts

  count_read : (n p : ℕ) → Limited (x.number 0) 1025 n p → TokensAre x ts n p 0 [] → Said
  count_read n p c b =
      let el : length ts ≡ n = ap length b.is ∙ b.count in (
        rw (el, b.is) (b.end, one c.read b.stand, b.last),
        record { few = omega arith; tokens = rw b.is b.tokens; nested = rw b.is b.nested },
      )

  said_read : history_from x ≡ accepted ts → Said
  unfolding history_from
  said_read h =
      let f = after_is (field_at x.number 0 1025 Refusal.TokenCount) _ h in
      count_read f.0 f.1 (field_read x.number 0 1025 Refusal.TokenCount f.0 f.1 f.2) (tokens_read x ts f.0 f.1 0 [] f.3)

  said_reads : Said → history_from x ≡ accepted ts
  unfolding history_from
  said_reads (h, w) =
      let f = one_left h.1 in
      rw (field_reads x.number 0 1025 Refusal.TokenCount (length ts) f.0 f.1 (omega (arith, w.few)))
      (tokens_reads x ts f.0 h.0 0 [] f.2 h.2 w.tokens w.nested)

  pub history_is : (history_from x ≡ accepted ts) ↔ (Holds x (length ts ∷ ts) × Wellformed ts)
  history_is = (said_read, said_reads)

  pub history_wellformed : history_from x ≡ accepted ts → Wellformed ts
  history_wellformed h = (said_read h).1
