-- What the answer of `read_grammar` tells of the grammar file.
use Prim.Native.Nat.{ℕ, ◌+◌, ◌≤◌}
use mathlib.Core.Path.{◌≡◌, refl, ap, ◌∙◌}
use mathlib.Core.List.{List, [], ◌∷◌}
use native.Mathlib.Omega.{arith}
use lib.ListN.{length, length-replicate}
use Rattle.numbers.specs.believed.Number.{bytes}
use Rattle.tables.specs.declared.Head.{Head}
use Rattle.tables.specs.declared.Table.{Table}
use Rattle.tables.specs.Table.{Sized, no_six, no_table, six_of, put_six, fill, table_of}
use Rattle.tables.specs.Ready.{Ready, grammar_in, head_of}
use Rattle.tables.proofs.Tables.{length-put, rules_table}
use Rattle.vpg.specs.believed.Grammar.{Rules, Grammar}
use Rattle.std.specs.Prelude.{Result, Ok, Err}
use Rattle.refusal.specs.declared.Refusal.{Refusal}
use Rattle.refusal.specs.believed.Refusal.{number}
use Rattle.refusal.specs.Numbered.{numbered}
use Rattle.grammar_file.specs.believed.GrammarFile.{GrammarFile, accepted, refused, grammar_of}
use Rattle.grammar_file.specs.GrammarTable.{grammar_read}
use Rattle.grammar_file.proofs.Accepted.{grammar_wellformed}
use Rattle.grammar_file.proofs.Ready.{wellformed_ready}

-- the grammar is that of its table and its head
grammar_table : (g : Grammar) → length g.rules ≤ 128 → grammar_in (table_of g.rules) (head_of g) ≡ g
grammar_table g few = ap (λ rules. record { nonterminals = g.nonterminals; well = g.well; start = g.start; rules = rules }) (rules_table g.rules few)

sized-fill : (rs : Rules) (t : Table) (k : ℕ) → Sized t → Sized (fill t k rs)
unfolding fill
sized-fill [] t k s = s
sized-fill (r ∷ rs) t k s =
    sized-fill rs (put_six t k (six_of r)) (k + 1)
    (record { rules = length-put t k (six_of r) ∙ s.rules; first = s.first; next = s.next; inside = s.inside; after = s.after })

sized_table : (rs : Rules) → Sized (table_of rs)
unfolding table_of
sized_table rs =
    sized-fill rs no_table 0
    (record {
      rules = length-replicate 128 no_six;
      first = length-replicate {A = ℕ} 256 0;
      next = length-replicate {A = ℕ} 128 0;
      inside = length-replicate {A = ℕ} 128 0;
      after = length-replicate {A = ℕ} 128 0;
    })

-- what an accepted file says, by the head and the table
pub record GrammarIs (s : List ℕ) (table : Table) (head : Head) : Type 0 where
  pub is : grammar_of s ≡ accepted (grammar_in table head)
  pub size : Sized table
  pub ready : Ready table head

module _ (s : List ℕ) {r : Result Head Refusal} {table : Table} (says : ◌≡◌ {A = Result Head ℕ × Table} (numbered r, table) (grammar_read (grammar_of s))) where
  pub grammar_accepted : (head : Head) → r ≡ Ok head → GrammarIs s table head
  grammar_accepted head h = go (grammar_of s) refl (ap (λ (x : Result Head ℕ × Table). x.0) says) (ap (λ (x : Result Head ℕ × Table). x.1) says)
    where
      told : numbered r ≡ Ok head
      told = ap numbered h

      go : (f : GrammarFile) → grammar_of s ≡ f → numbered r ≡ (grammar_read f).0 → table ≡ (grammar_read f).1 → GrammarIs s table head
      go (refused e) p q t = absurd (let z : ◌≡◌ {A = ℕ} 0 1 = cc in omega arith)
      go (accepted g) p q t =
          let w = grammar_wellformed (bytes s) g p in
          let e : head ≡ head_of g = cc in
          rw (e, t) (record { is = rw (grammar_table g w.rules_most) p; size = sized_table g.rules; ready = wellformed_ready g w })

  pub grammar_refused : (e : Refusal) → r ≡ Err e → grammar_of s ≡ refused (number e)
  grammar_refused e h = go (grammar_of s) (ap (λ (x : Result Head ℕ × Table). x.0) says)
    where
      told : numbered r ≡ Err (number e)
      told = ap numbered h

      go : (f : GrammarFile) → numbered r ≡ (grammar_read f).0 → f ≡ refused (number e)
      go (accepted g) q = absurd (let z : ◌≡◌ {A = ℕ} 0 1 = cc in omega arith)
      go (refused k) q = let z : k ≡ number e = cc in ap refused z
