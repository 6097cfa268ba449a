-- The sweep over the numbers that ends transactions: one number more.
use mathlib.Core.Path.{◌≡◌, refl, sym, ap, ◌∙◌}
use mathlib.Core.Bool.{Bool, true, false, not, cond, ◌&&◌, and-false}
use mathlib.Core.List.{List}
use mathlib.Core.Logic.{◌≢◌}
use Prim.Native.Nat.{ℕ, ◌+◌, ◌<◌, ◌≤◌}
use native.Mathlib.Omega.{arith}
use lib.ListN.{get_or, set}
use Rattle.laws.specs.Tests.{same, under}
use Rattle.laws.proofs.Tests.{same_cases, Same, is, isnt, same_refl, ne_false, Is, is_cases, yes', no', under-lt, lt-under, not-under}
use Rattle.laws.proofs.Booleans.{refute, clash}
use Rattle.audit_bearer.specs.Tables.{Matched, Ending}
use Rattle.audit_bearer.proofs.Change.{entry_set}
use Rattle.audit_bearer.proofs.Matching.{matched_end}

-- a test of a bound moves at the bound alone
pub under_next : (f b : ℕ) → f ≢ b → under f (b + 1) ≡ under f b
under_next f b n = go (is_cases (under f b))
  where
    go : Is (under f b) → under f (b + 1) ≡ under f b
    go (yes' e) = let k = under-lt f b e in lt-under f (b + 1) (omega (arith, k)) ∙ sym e
    go (no' e) = let k = not-under f b e in refute (under f (b + 1)) (λ d. let z = under-lt f (b + 1) d in n (omega (arith, z, k))) ∙ sym e

under_self : (b : ℕ) → under b b ≡ false
under_self b = refute (under b b) (λ d. let z = under-lt b b d in omega (arith, z))

none-zero : (b : Bool) (z : ℕ) → z ≡ cond b z z
none-zero true z = refl
none-zero false z = refl

no_hit : (x a b : Bool) (z f : ℕ) → cond (x && (a && false)) z f ≡ cond (x && (b && false)) z f
no_hit x a b z f = rw (and-false a, and-false b)

pub ending-none : (hit : ℕ → Bool) (fate bearer : List ℕ) → Ending hit 0 fate bearer fate bearer
ending-none hit fate bearer = record {
  fates = λ i. go (get_or fate i 0) (hit i) (is_cases (under 31 (get_or fate i 0)));
  bearers = λ u. let z = refute (under u 0) (λ d. let k = under-lt u 0 d in omega (arith, k)) in rw z;
}
  where
    go : (f : ℕ) (b : Bool) → Is (under 31 f) → f ≡ cond (under 31 f && (under f (32 + 0) && b)) 0 f
    go f b (no' e) = rw e
    go f b (yes' e) = let k = under-lt 31 f e in let z = refute (under f (32 + 0)) (λ d. let y = under-lt f (32 + 0) d in omega (arith, y, k)) in rw (e, z)

module _ (hit : ℕ → Bool) {fate bearer : List ℕ} {begun : ℕ} (S : Matched fate bearer begun) (known : begun < 4097) (t : ℕ) (small : t < 24)
    {fate' bearer' : List ℕ} (E : Ending hit t fate bearer fate' bearer') (S' : Matched fate' bearer' begun) where
  abbrev i : ℕ
  i = get_or bearer t 0

  -- number t is still as it was
  same_i : get_or bearer' t 0 ≡ i
  same_i = E.bearers t ∙ rw (under_self t)

  abbrev c : Bool
  c = not (same i 0) && hit i

  -- another transaction isn't of number t
  other_fate : (k : ℕ) → get_or fate k 0 ≢ 32 + t
      → cond (under 31 (get_or fate k 0) && (under (get_or fate k 0) (32 + t) && hit k)) 0 (get_or fate k 0) ≡ cond (under 31 (get_or fate k 0) && (under (get_or fate k 0) (32 + (t + 1)) && hit k)) 0 (get_or fate k 0)
  other_fate k n = let z : 32 + (t + 1) ≡ 32 + t + 1 = omega arith in rw (z, under_next (get_or fate k 0) (32 + t) n)

  number_t : (k : ℕ) → get_or fate k 0 ≡ 32 + t → i ≡ k
  number_t k e = S.who k t e

  -- the fates where i ends, where it doesn't
  fates_hit : c ≡ true → (k : ℕ) → cond (same k i) 0 (get_or fate' k 0) ≡ cond (under 31 (get_or fate k 0) && (under (get_or fate k 0) (32 + (t + 1)) && hit k)) 0 (get_or fate k 0)
  fates_hit e k = go (same_cases k i) (same_cases (get_or fate k 0) (32 + t))
    where
      some : i ≢ 0
      some z = clash e (rw (z, same_refl 0))

      hits : hit i ≡ true
      hits = rw (ne_false i 0 some) at e

      go : Same k i → Same (get_or fate k 0) (32 + t) → cond (same k i) 0 (get_or fate' k 0) ≡ cond (under 31 (get_or fate k 0) && (under (get_or fate k 0) (32 + (t + 1)) && hit k)) 0 (get_or fate k 0)
      go (is q s _) d = rw (s, q, S.bears t some, lt-under 31 (32 + t) (omega arith), lt-under (32 + t) (32 + (t + 1)) (omega arith), hits)
      go (isnt q s _) (is z _ _) = absurd (q (sym (number_t k z)))
      go (isnt q s _) (isnt z _ _) = rw s (E.fates k ∙ other_fate k z)

  fates_miss : c ≡ false → (k : ℕ) → get_or fate' k 0 ≡ cond (under 31 (get_or fate k 0) && (under (get_or fate k 0) (32 + (t + 1)) && hit k)) 0 (get_or fate k 0)
  fates_miss e k = E.fates k ∙ go (same_cases (get_or fate k 0) (32 + t))
    where
      go : Same (get_or fate k 0) (32 + t) → cond (under 31 (get_or fate k 0) && (under (get_or fate k 0) (32 + t) && hit k)) 0 (get_or fate k 0) ≡ cond (under 31 (get_or fate k 0) && (under (get_or fate k 0) (32 + (t + 1)) && hit k)) 0 (get_or fate k 0)
      go (isnt z _ _) = other_fate k z
      go (is z _ _) = rw misses (no_hit (under 31 (get_or fate k 0)) (under (get_or fate k 0) (32 + t)) (under (get_or fate k 0) (32 + (t + 1))) 0 (get_or fate k 0))
        where
          q : i ≡ k
          q = number_t k z

          some : i ≢ 0
          some y = let x : get_or fate 0 0 ≡ 32 + t = rw (sym q ∙ y) at z in let w = S.none_ended in omega (arith, x, w)

          misses : hit k ≡ false
          misses = rw (ne_false i 0 some, q) at e

  bearers_hit : c ≡ true → (u : ℕ) → cond (same u t) 0 (get_or bearer' u 0) ≡ cond (under u (t + 1) && hit (get_or bearer u 0)) 0 (get_or bearer u 0)
  bearers_hit e u = go (same_cases u t)
    where
      some : i ≢ 0
      some z = clash e (rw (z, same_refl 0))

      hits : hit i ≡ true
      hits = rw (ne_false i 0 some) at e

      go : Same u t → cond (same u t) 0 (get_or bearer' u 0) ≡ cond (under u (t + 1) && hit (get_or bearer u 0)) 0 (get_or bearer u 0)
      go (is q s _) = rw (s, q, lt-under t (t + 1) (omega arith), hits)
      go (isnt q s _) = rw (s, under_next u t q) (E.bearers u)

  bearers_miss : c ≡ false → (u : ℕ) → get_or bearer' u 0 ≡ cond (under u (t + 1) && hit (get_or bearer u 0)) 0 (get_or bearer u 0)
  bearers_miss e u = go (same_cases u t) (same_cases i 0)
    where
      go : Same u t → Same i 0 → get_or bearer' u 0 ≡ cond (under u (t + 1) && hit (get_or bearer u 0)) 0 (get_or bearer u 0)
      go (is q s _) (is z y _) = rw (q, same_i, z) (none-zero (under t (t + 1) && hit 0) 0)
      go (is q s _) (isnt z y _) = let misses : hit i ≡ false = rw y at e in rw (q, same_i, misses, and-false)
      go (isnt q s _) d = rw (under_next u t q) (E.bearers u)

  pub ending_more : (fate'' bearer'' : List ℕ) → fate'' ≡ cond (not (same (get_or bearer' t 0) 0) && hit (get_or bearer' t 0)) (set fate' (get_or bearer' t 0) 0) fate'
      → bearer'' ≡ cond (not (same (get_or bearer' t 0) 0) && hit (get_or bearer' t 0)) (set bearer' t 0) bearer'
      → Ending hit (t + 1) fate bearer fate'' bearer'' × Matched fate'' bearer'' begun
  ending_more fate'' bearer'' p q = go (is_cases c)
    where
      i_known : i ≤ begun
      i_known = S.known t

      go : Is c → Ending hit (t + 1) fate bearer fate'' bearer'' × Matched fate'' bearer'' begun
      go (yes' e) =
          let some : i ≢ 0 = λ z. clash e (rw (z, same_refl 0)) in
          let a : fate'' ≡ set fate' i 0 = p ∙ rw (same_i, e) in
          let d : bearer'' ≡ set bearer' t 0 = q ∙ rw (same_i, e) in (
            record {
              fates = λ k. ap (λ (m : List ℕ). get_or m k 0) a ∙ entry_set fate' i 0 k (let w = S'.wide in omega (arith, w, known, i_known)) ∙ fates_hit e k;
              bearers = λ u. ap (λ (m : List ℕ). get_or m u 0) d ∙ entry_set bearer' t 0 u (let w = S'.long in omega (arith, w, small)) ∙ bearers_hit e u;
            },
            rw (a, d) (rw same_i at (matched_end S' t 0 known (λ z. some (sym same_i ∙ z)) (omega arith))),
          )
      go (no' e) =
          let a : fate'' ≡ fate' = p ∙ rw (same_i, e) in
          let d : bearer'' ≡ bearer' = q ∙ rw (same_i, e) in
          (record { fates = λ k. ap (λ (m : List ℕ). get_or m k 0) a ∙ fates_miss e k; bearers = λ u. ap (λ (m : List ℕ). get_or m u 0) d ∙ bearers_miss e u }, rw (a, d) S')
