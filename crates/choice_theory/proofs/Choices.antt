-- A history has more than one reading exactly when it has a choice, and the choices are the positions at which two readings differ first.
use Prim.Native.Nat.{ℕ, zero, suc, ◌<◌}
use native.Mathlib.Omega.{arith}
use mathlib.Core.Path.{◌≡◌, refl, sym, ◌∙◌, ap}
use mathlib.Core.Logic.{◌↔◌, ◌≢◌}
use mathlib.Core.List.Memᴰ
use mathlib.Core.List.{List, [], ◌∷◌, Memᴰ}
use mathlib.Core.Option.{some-injective}
use lib.ListN.{length, get_elem?}
use Rattle.vpg.specs.declared.Token.{Token}
use Rattle.vpg.specs.believed.Grammar.{Grammar, General, Reading}
use Rattle.vpg.specs.believed.Order.{Ascending}
use Rattle.vpg.specs.Runs.{entries}
use Rattle.vpg.proofs.Ascends.{entries_ascending}
use Rattle.vpg.proofs.Entries.{reading_length}
use Rattle.vpg.proofs.Order.{before_irreflexive}
use Rattle.vpg.proofs.Sound.{entries_readings}
use Rattle.sets_theory.specs.Counted.{Counted}
use Rattle.sets_theory.specs.believed.Sets.{Choice, choice_count}
use Rattle.sets_theory.proofs.Choices.{choice_count_is}
use Rattle.choice_theory.specs.Several.{Several, DifferFirst}
use Rattle.choice_theory.proofs.Runs.{differ_somewhere, same_for, instead}

-- ── more than one reading ──

-- two different members make a list of two
two_members : {A : Type 0} (l : List A) (a b : A) → a ≢ b → Memᴰ a l → Memᴰ b l → 1 < length l
two_members [] a b d m m' = absurd (Memᴰ.not-nil m)
two_members (x ∷ []) a b d m m' = absurd (d (Memᴰ.eq_of_singleton m ∙ sym (Memᴰ.eq_of_singleton m')))
two_members (x ∷ y ∷ l) a b d m m' = omega arith

one_member : {A : Type 0} (l : List A) → (0 < length l) ↔ ((a : A) × Memᴰ a l)
one_member [] = (λ h. absurd (omega arith), λ h. absurd (Memᴰ.not-nil h.1))
one_member (x ∷ l) = (λ h. (x, Memᴰ.head refl), λ h. omega arith)

module _ (g : Grammar) (w : List Token) where
  -- two rules at one position stand in two readings
  two_readings : ((p : ℕ) × Choice g w p) → Several g w
  two_readings (p, (L, r, r', d, k, k')) =
      let ((e, a, i), _) = k in
      let ((f, b, j), _) = k' in
      (e, f, λ q. d (some-injective r r' (sym i ∙ ap (λ (x : List ℕ). get_elem? x p) q ∙ j)), a, b)

  -- where two readings differ first there is a choice
  differ_choice : (p : ℕ) → DifferFirst g w p → Choice g w p
  differ_choice p (e, f, a, b, z) =
      let (K, x, y) = same_for g.rules w g.start [] e f p z.one z.other ((entries_readings g w e).1 a) ((entries_readings g w f).1 b) z.before z.one_at z.other_at in
      (K, z.one, z.other, z.differ, ((e, a, z.one_at), x), ((f, b, z.other_at), y))

  -- and at each choice two readings differ first: one of them has the other rule instead of its own, and goes on from there
  choice_differ : General g.well g.rules → (p : ℕ) → Choice g w p → DifferFirst g w p
  choice_differ ok p (K, r, r', d, k, k') =
      let ((e, a, i), x) = k in
      let ((f, b, j), y) = k' in
      let z = instead g.well g.rules ok w g.start [] e g.start [] f p r r' K tt tt ((entries_readings g w e).1 a) ((entries_readings g w f).1 b) i j x y in
      (e, z.numbers, a, (entries_readings g w z.numbers).0 z.run, record { one = r; other = r'; before = sym z.before; one_at = i; other_at = z.at; differ = d })

  pub choice-first : General g.well g.rules → (p : ℕ) → Choice g w p ↔ DifferFirst g w p
  choice-first ok p = (choice_differ ok p, differ_choice p)

  somewhere : Several g w → (p : ℕ) × Choice g w p
  somewhere (e, f, d, a, b) =
      let (p, z) = differ_somewhere e f (reading_length g w e a ∙ sym (reading_length g w f b)) d in
      (p, differ_choice p (e, f, a, b, z))

  pub several-choice : Several g w ↔ ((p : ℕ) × Choice g w p)
  several-choice = (somewhere, two_readings)

  -- document 02, 2.5: "a history has more than one reading exactly when it has a choice"
  pub several-count : Several g w ↔ (0 < choice_count g w)
  several-count = (
    λ h.
        let (p, t) = somewhere h in
        omega (arith, c.size, (one_member c.numbers).1 (p, (c.members p).1 t)),
    λ h.
        let (p, m) = (one_member c.numbers).0 (omega (arith, c.size)) in
        two_readings (p, (c.members p).0 m),
  )
    where
      c : Counted (Choice g w) (choice_count g w)
      c = choice_count_is g w

  -- of the entries, of which the listing has each
  pub entries-count : (1 < length (entries g w)) ↔ (0 < choice_count g w)
  entries-count = (λ h. several-count.0 (two (entries g w) refl (entries_ascending g w) h), λ h. long (several-count.1 h))
    where
      two : (l : List (List ℕ)) → entries g w ≡ l → Ascending l → 1 < length l → Several g w
      two [] q a h = absurd (omega arith)
      two (e ∷ []) q a h = absurd (omega arith)
      two (e ∷ f ∷ l) q a h = (
        e,
        f,
        λ i. before_irreflexive f (rw i at (a.0 f (Memᴰ.head refl))),
        (entries_readings g w e).0 (rw q (Memᴰ.head refl)),
        (entries_readings g w f).0 (rw q (Memᴰ.tail (Memᴰ.head refl))),
      )

      long : Several g w → 1 < length (entries g w)
      long (e, f, d, r, r') = two_members (entries g w) e f d ((entries_readings g w e).1 r) ((entries_readings g w f).1 r')

  -- with no reading there is no choice
  pub none-count : ((e : List ℕ) → Reading g w e → ⊥) → choice_count g w ≡ 0
  none-count h = go (choice_count g w) refl
    where
      go : (k : ℕ) → choice_count g w ≡ k → k ≡ 0
      go zero q = refl
      go (suc k) q = let s = several-count.1 (omega (arith, q)) in absurd (h s.0 s.3)
