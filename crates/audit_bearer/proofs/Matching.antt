-- Who bears a number goes on agreeing with the fates: where a transaction ends, and where one begins.
use mathlib.Core.Path.{◌≡◌, sym, ap, ◌∙◌}
use mathlib.Core.Bool.{cond}
use mathlib.Core.List.{List}
use mathlib.Core.Logic.{◌≢◌}
use Prim.Native.Nat.{ℕ, suc, ◌+◌, ◌-◌, ◌<◌, ◌≤◌}
use native.Mathlib.Omega.{arith}
use lib.ListN.{length, get_or, set, length-set, get_or-eq_default}
use Rattle.laws.specs.Tests.{same}
use Rattle.laws.proofs.Tests.{same_cases, Same, is, isnt, same_refl, ne_false}
use Rattle.audit_bearer.specs.Tables.{Matched}
use Rattle.audit_bearer.proofs.Change.{entry_set}

module _ {fate bearer : List ℕ} {begun : ℕ} (S : Matched fate bearer begun) where
  -- a borne number is one of the numbers
  pub number_small : (t : ℕ) → get_or bearer t 0 ≢ 0 → t < 24
  number_small t n = go (same_cases (24 - t) 0)
    where
      go : Same (24 - t) 0 → t < 24
      go (is e _ _) = absurd (n (get_or-eq_default bearer 0 (let k = S.long in omega (arith, k, e))))
      go (isnt e _ _) = omega (arith, e)

  -- t ends with a fate that bears no number
  module _ (t new : ℕ) (known : begun < 4097) (borne : get_or bearer t 0 ≢ 0) (over : new < 32) where
    abbrev i : ℕ
    i = get_or bearer t 0

    small : t < 24
    small = number_small t borne

    inside : i < length fate
    inside = let k = S.known t in let w = S.wide in omega (arith, k, w, known)

    abbrev fate' : List ℕ
    fate' = set fate i new

    abbrev bearer' : List ℕ
    bearer' = set bearer t 0

    at_fate : (k : ℕ) → get_or fate' k 0 ≡ cond (same k i) new (get_or fate k 0)
    at_fate k = entry_set fate i new k inside

    at_bearer : (u : ℕ) → get_or bearer' u 0 ≡ cond (same u t) 0 (get_or bearer u 0)
    at_bearer u = entry_set bearer t 0 u (let k = S.long in omega (arith, k, small))

    end_known : (u : ℕ) → Same u t → get_or bearer' u 0 ≤ begun
    end_known u (is e s _) = rw (at_bearer u, s) (omega arith)
    end_known u (isnt e s _) = rw (at_bearer u, s) (S.known u)

    end_bears : (u : ℕ) → Same u t → get_or bearer' u 0 ≢ 0 → get_or fate' (get_or bearer' u 0) 0 ≡ 32 + u
    end_bears u (is e s _) n = absurd (n (rw (at_bearer u, s)))
    end_bears u (isnt e s _) n =
        let m : get_or bearer u 0 ≢ 0 = λ z. n (rw (at_bearer u, s) z) in
        let other : get_or bearer u 0 ≢ i = λ z. (let a = S.bears u m in let b = S.bears t borne in let c : get_or fate (get_or bearer u 0) 0 ≡ get_or fate i 0 = ap (λ (k : ℕ). get_or fate k 0) z in e (omega (arith, a, b, c))) in
        rw (at_bearer u, s, at_fate (get_or bearer u 0), ne_false (get_or bearer u 0) i other) (S.bears u m)

    end_who : (k u : ℕ) → Same k i → Same u t → get_or fate' k 0 ≡ 32 + u → get_or bearer' u 0 ≡ k
    end_who k u (is e s _) d q = let z : new ≡ 32 + u = rw (at_fate k, s) at q in absurd (omega (arith, z, over))
    end_who k u (isnt e s _) (is d r _) q =
        let z : get_or fate k 0 ≡ 32 + u = rw (at_fate k, s) at q in
        absurd (e (sym (S.who k u z) ∙ ap (λ (v : ℕ). get_or bearer v 0) d))
    end_who k u (isnt e s _) (isnt d r _) q =
        let z : get_or fate k 0 ≡ 32 + u = rw (at_fate k, s) at q in
        rw (at_bearer u, r) (S.who k u z)

    pub matched_end : Matched fate' bearer' begun
    matched_end = record {
      long = length-set bearer t 0 ∙ S.long;
      wide = length-set fate i new ∙ S.wide;
      known = λ u. end_known u (same_cases u t);
      bears = λ u. end_bears u (same_cases u t);
      who = λ k u. end_who k u (same_cases k i) (same_cases u t);
      none_ended = rw (at_fate 0, ne_false 0 i (λ z. borne (sym z))) S.none_ended;
      unborn = λ k h. let low = S.known t in rw (at_fate k, ne_false k i (λ z. omega (arith, z, h, low))) (S.unborn k h);
    }

  -- t, free before, begins
  module _ (t : ℕ) (small : t < 24) (free : get_or bearer t 0 ≡ 0) (room : begun < 4096) where
    abbrev new : ℕ
    new = suc begun

    at_fate' : (k : ℕ) → get_or (set fate new (32 + t)) k 0 ≡ cond (same k new) (32 + t) (get_or fate k 0)
    at_fate' k = entry_set fate new (32 + t) k (let w = S.wide in omega (arith, w, room))

    at_bearer' : (u : ℕ) → get_or (set bearer t new) u 0 ≡ cond (same u t) new (get_or bearer u 0)
    at_bearer' u = entry_set bearer t new u (let k = S.long in omega (arith, k, small))

    begin_known : (u : ℕ) → Same u t → get_or (set bearer t new) u 0 ≤ new
    begin_known u (is e s _) = rw (at_bearer' u, s) (omega arith)
    begin_known u (isnt e s _) = rw (at_bearer' u, s) (let k = S.known u in omega (arith, k))

    begin_bears : (u : ℕ) → Same u t → get_or (set bearer t new) u 0 ≢ 0 → get_or (set fate new (32 + t)) (get_or (set bearer t new) u 0) 0 ≡ 32 + u
    begin_bears u (is e s _) n = rw (at_bearer' u, s, at_fate' new, same_refl new, e)
    begin_bears u (isnt e s _) n =
        let k = S.known u in
        rw (at_bearer' u, s, at_fate' (get_or bearer u 0), ne_false (get_or bearer u 0) new (λ z. omega (arith, z, k))) (S.bears u (λ z. n (rw (at_bearer' u, s) z)))

    begin_who : (k u : ℕ) → Same k new → Same u t → get_or (set fate new (32 + t)) k 0 ≡ 32 + u → get_or (set bearer t new) u 0 ≡ k
    begin_who k u (is e s _) (is d r _) q = rw (at_bearer' u, r) (sym e)
    begin_who k u (is e s _) (isnt d r _) q = let z : 32 + t ≡ 32 + u = rw (at_fate' k, s) at q in absurd (d (omega (arith, z)))
    begin_who k u (isnt e s _) (is d r _) q =
        let z : get_or fate k 0 ≡ 32 + u = rw (at_fate' k, s) at q in
        let y : k ≡ 0 = sym (S.who k u z) ∙ ap (λ (v : ℕ). get_or bearer v 0) d ∙ free in
        let x : get_or fate 0 0 ≡ 32 + u = rw y at z in
        let w = S.none_ended in absurd (omega (arith, w, x))
    begin_who k u (isnt e s _) (isnt d r _) q =
        let z : get_or fate k 0 ≡ 32 + u = rw (at_fate' k, s) at q in
        rw (at_bearer' u, r) (S.who k u z)

    pub matched_begin : Matched (set fate new (32 + t)) (set bearer t new) new
    matched_begin = record {
      long = length-set bearer t new ∙ S.long;
      wide = length-set fate new (32 + t) ∙ S.wide;
      known = λ u. begin_known u (same_cases u t);
      bears = λ u. begin_bears u (same_cases u t);
      who = λ k u. begin_who k u (same_cases k new) (same_cases u t);
      none_ended = rw (at_fate' 0, ne_false 0 new (λ z. omega (arith, z))) S.none_ended;
      unborn = λ k h. rw (at_fate' k, ne_false k new (λ z. omega (arith, z, h))) (S.unborn k (omega (arith, h)));
    }
