-- What a caller learns of a token that was read.
use Prim.Native.Nat.{ℕ, ◌+◌, ◌-◌, ◌/◌, ◌<◌, ◌≤◌}
use mathlib.Core.Path.{◌≡◌, refl}
use mathlib.Core.Bool.{Bool, true, false, cond, ◌&&◌, ◌||◌}
use native.Mathlib.Nat.{mod-lt}
use native.Mathlib.Omega.{arith}
use lib.Dec.{eqb, ltb, leb, lit<}
use borrow.Author.Tests.{ltb-false, le-ltb, leb-false, lt-leb, eqb-false, eqb-true, eq-eqb, ne_eqb}
use Rattle.std.specs.Prelude.{Ok, Err}
use Rattle.refusal.specs.believed.Refusal.{number}
use Rattle.numbers.specs.believed.Number.{Read}
use Rattle.numbers.proofs.Results.{apart, same_read}
use Rattle.laws.proofs.Bools.{chose_second}
use Rattle.history_file.specs.believed.HistoryFile.{kind, token_judged, judged, token_at, depth_after}

-- the number at a place is the token t, which may stand where so many steps are open
pub record Judged (r : Read ℕ) (depth t next : ℕ) : Type 0 where
  pub read : r ≡ Ok (t, next)
  pub small : t < 262144
  pub kinds : kind t < 3
  pub closes : kind t ≡ 2 → 0 < depth
  pub opens : kind t ≡ 1 → depth < 128

neither : (a b : Bool) → (a || b) ≡ false → (a ≡ false) × (b ≡ false)
neither true b h = absurd (let z : ◌≡◌ {A = ℕ} 0 1 = cc in omega arith)
neither false b h = (refl, h)

not-both : (a b : Bool) → (a && b) ≡ false → a ≡ true → b ≡ false
not-both true b h p = h
not-both false b h p = absurd (let z : ◌≡◌ {A = ℕ} 0 1 = cc in omega arith)

four : 0 < 4
four = lit< tt

pub judged_read : (r : Read ℕ) (depth t next : ℕ) → judged r depth ≡ Ok (t, next) → Judged r depth t next
unfolding token_judged
judged_read (Err e) depth t next h = absurd (apart h)
judged_read (Ok (u, at)) depth t next h =
    let p = chose_second (ltb 65535 (u / 4) || eqb (kind u) 3) _ _ apart h in
    let q = chose_second (eqb (kind u) 2 && eqb depth 0) _ _ apart p.1 in
    let s = chose_second (eqb (kind u) 1 && leb 128 depth) _ _ apart q.1 in
    let n = neither (ltb 65535 (u / 4)) (eqb (kind u) 3) p.0 in
    let ne = eqb-false (kind u) 3 n.1 in
    let (z, place) = same_read s.1 in
    rw (← z)
    (record {
      read = rw place;
      small = let l = ltb-false 65535 (u / 4) n.0 in omega arith;
      kinds = omega (arith, mod-lt u four);
      closes = λ k. let d = eqb-false depth 0 (not-both (eqb (kind u) 2) _ q.0 (eq-eqb _ _ k)) in omega arith;
      opens = λ k. leb-false 128 depth (not-both (eqb (kind u) 1) _ s.0 (eq-eqb _ _ k));
    })

pub judged_reads : (r : Read ℕ) {depth t next : ℕ} → Judged r depth t next → judged r depth ≡ Ok (t, next)
unfolding token_judged
judged_reads r {depth} {t} {next} j =
    rw (
      j.read,
      le-ltb 65535 (t / 4) (omega (arith, j.small)),
      ne_eqb (kind t) 3 (omega (arith, j.kinds)),
      neither_holds (eqb (kind t) 2) (eqb depth 0) (λ k. let l = j.closes (eqb-true _ _ k) in ne_eqb depth 0 (omega arith)),
      neither_holds (eqb (kind t) 1) (leb 128 depth) (λ k. lt-leb 128 depth (j.opens (eqb-true _ _ k))),
    )
  where
    neither_holds : (a b : Bool) → (a ≡ true → b ≡ false) → (a && b) ≡ false
    neither_holds true b h = h refl
    neither_holds false b h = refl

pub token_read : (number : ℕ → Read ℕ) (at depth t next : ℕ) → token_at number at depth ≡ Ok (t, next) → Judged (number at) depth t next
unfolding token_at
token_read number at depth t next h = judged_read (number at) depth t next h

pub token_reads : (number : ℕ → Read ℕ) (at depth t next : ℕ) → Judged (number at) depth t next → token_at number at depth ≡ Ok (t, next)
unfolding token_at
token_reads number at depth t next j = judged_reads (number at) j

-- never more than 128 steps are open
pub depth_most : (r : Read ℕ) (depth t next : ℕ) → Judged r depth t next → depth ≤ 128 → depth_after t depth ≤ 128
unfolding depth_after
depth_most r depth t next j h = go (eqb (kind t) 1) refl (eqb (kind t) 2)
  where
    go : (b : Bool) → eqb (kind t) 1 ≡ b → (d : Bool) → cond b (depth + 1) (cond d (depth - 1) depth) ≤ 128
    go true p d = let l = j.opens (eqb-true _ _ p) in omega arith
    go false p true = omega arith
    go false p false = h
