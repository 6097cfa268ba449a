-- Transactions end: the tables after the sweep tell the ending of the history.
use mathlib.Core.Path.{◌≡◌, refl, sym, ap, ◌∙◌, fun_ext}
use mathlib.Core.Bool.{Bool, true, false, cond, ◌&&◌, true≢false}
use mathlib.Core.List.{List}
use mathlib.Core.Logic.{◌≢◌}
use Prim.Native.Nat.{ℕ, ◌+◌, ◌-◌, ◌<◌}
use native.Mathlib.Omega.{arith}
use lib.ListN.{get_or}
use Rattle.laws.specs.Tests.{same, under}
use Rattle.laws.proofs.Tests.{same_cases, Same, is, isnt, Is, is_cases, yes', no', under-lt, lt-under, not-under}
use Rattle.history.specs.History.{Fate, bearing, committed, stored, waiting, ended, is_bearing, turned}
use Rattle.audit_link.specs.Links.{fate_of, passed_of, entry_at, fate_in, passed_in}
use Rattle.audit_bearer.specs.Tables.{Matched, Ending}
use Rattle.audit_bearer.proofs.Change.{fate_bears, pass_bears, fate_ended, pass_ended}
use Rattle.audit_bearer.proofs.Matching.{number_small}

-- a fate of a number that isn't borne
low_fate : (n : ℕ) → n < 32 → is_bearing (fate_of n) ≡ false
unfolding fate_of is_bearing
low_fate n h = rw (lt-under n 32 h) (go (same n 2) (same n 3))
  where
    go : (a b : Bool) → is_bearing (cond a committed (cond b stored ended)) ≡ false
    go true b = refl
    go false true = refl
    go false false = refl

pub turned_over : (w : Bool) (new c : Fate) → is_bearing c ≡ false → c ≡ turned w new c
unfolding turned is_bearing
turned_over w new (bearing t) e = absurd (true≢false e)
turned_over w new committed e = refl
turned_over w new stored e = refl
turned_over w new waiting e = refl
turned_over w new ended e = refl

module _ {fate bearer fate' bearer' : List ℕ} {begun : ℕ} {hit : ℕ → Bool} (S : Matched fate bearer begun) (E : Ending hit 24 fate bearer fate' bearer')
    (who : ℕ → Bool) (same_who : (i : ℕ) → i ≢ 0 → hit i ≡ who i) where
  -- a fate that bears a number bears one of the numbers
  pub data Stands (i : ℕ) : Type 0 where
    over : get_or fate i 0 < 32 → get_or fate' i 0 ≡ get_or fate i 0 → Stands i
    live : (t : ℕ) → get_or fate i 0 ≡ 32 + t → i ≢ 0 → get_or fate' i 0 ≡ cond (hit i) 0 (32 + t) → Stands i

  pub stands_cases : (i : ℕ) → Stands i
  stands_cases i = go (is_cases (under 31 (get_or fate i 0)))
    where
      alive : (t : ℕ) → under 31 (get_or fate i 0) ≡ true → get_or fate i 0 ≡ 32 + t → Stands i
      alive t e q =
          let some : i ≢ 0 = λ z. (let w = S.none_ended in let y : get_or fate i 0 ≡ get_or fate 0 0 = ap (λ (j : ℕ). get_or fate j 0) z in omega (arith, w, y, q)) in
          let small : t < 24 = number_small S t (λ z. some (sym (S.who i t q) ∙ z)) in
          live t q some (E.fates i ∙ rw (e, lt-under (get_or fate i 0) (32 + 24) (omega (arith, q, small)), q))

      go : Is (under 31 (get_or fate i 0)) → Stands i
      go (no' e) = let k = not-under 31 (get_or fate i 0) e in over (omega (arith, k)) (E.fates i ∙ rw e)
      go (yes' e) = let k = under-lt 31 (get_or fate i 0) e in alive (get_or fate i 0 - 32) e (omega (arith, k))

  fate_at : (i : ℕ) → Stands i → fate_of (get_or fate' i 0) ≡ turned (who i) ended (fate_of (get_or fate i 0))
  unfolding turned
  fate_at i (over h e) = rw e (turned_over (who i) ended (fate_of (get_or fate i 0)) (low_fate (get_or fate i 0) h))
  fate_at i (live t q n e) = rw (e, q, fate_bears t, same_who i n) (go (who i))
    where
      go : (b : Bool) → fate_of (cond b 0 (32 + t)) ≡ cond b ended (bearing t)
      go true = fate_ended
      go false = fate_bears t

  pub fates_after : fate_in fate' ≡ (λ i. turned (who i) ended (fate_in fate i))
  unfolding fate_in
  fates_after = fun_ext (λ i. fate_at i (stands_cases i))

  pass_at : (i : ℕ) → Stands i → passed_of (get_or fate' i 0) ≡ passed_of (get_or fate i 0)
  pass_at i (over h e) = rw e
  pass_at i (live t q n e) = rw (e, q, pass_bears t) (go (hit i))
    where
      go : (b : Bool) → passed_of (cond b 0 (32 + t)) ≡ false
      go true = pass_ended
      go false = pass_bears t

  pub passes_after : passed_in fate' ≡ passed_in fate
  unfolding passed_in
  passes_after = fun_ext (λ i. pass_at i (stands_cases i))

  bearer_at_lem : (t : ℕ) → Same (get_or bearer t 0) 0 → get_or bearer' t 0 ≡ cond (is_bearing (turned (who (get_or bearer t 0)) ended (fate_of (get_or fate (get_or bearer t 0) 0)))) (get_or bearer t 0) 0
  unfolding turned is_bearing
  bearer_at_lem t (is z s _) = E.bearers t ∙ rw z (zeros (under t 24 && hit 0) (is_bearing (turned (who 0) ended (fate_of (get_or fate 0 0)))) 0)
    where
      zeros : (a b : Bool) (z : ℕ) → cond a z z ≡ cond b z z
      zeros true true z = refl
      zeros true false z = refl
      zeros false true z = refl
      zeros false false z = refl
  bearer_at_lem t (isnt z s _) =
      E.bearers t ∙ rw (lt-under t 24 (number_small S t z), S.bears t z, fate_bears t, same_who (get_or bearer t 0) z) (go (who (get_or bearer t 0)))
    where
      go : (b : Bool) → cond b 0 (get_or bearer t 0) ≡ cond (is_bearing (cond b ended (bearing t))) (get_or bearer t 0) 0
      go true = refl
      go false = refl

  pub bearers_after : entry_at bearer' ≡ (λ t. cond (is_bearing (turned (who (entry_at bearer t)) ended (fate_in fate (entry_at bearer t)))) (entry_at bearer t) 0)
  unfolding entry_at fate_in
  bearers_after = fun_ext (λ t. bearer_at_lem t (same_cases (get_or bearer t 0) 0))
