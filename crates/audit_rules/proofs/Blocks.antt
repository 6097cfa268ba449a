-- Who bars a lock is found among the accepted locks: the rule of grants, told from the ledger.
use mathlib.Core.Path.{◌≡◌, refl, sym, ap, ap₂, ◌∙◌, fun_ext}
use mathlib.Core.Bool.{Bool, true, false, not, cond, ◌&&◌, ◌||◌, true≢false, or-true}
use mathlib.Core.List.{List, [], ◌∷◌}
use mathlib.Core.Logic.{◌≢◌}
use Prim.Native.Nat.{ℕ, zero, suc, ◌<◌, ◌≤◌}
use native.Mathlib.Omega.{arith}
use Rattle.laws.specs.Tests.{same}
use Rattle.laws.specs.Counting.{all}
use Rattle.laws.proofs.Tests.{same_cases, Same, is, isnt, same_refl, ne_false, Is, is_cases, yes', no'}
use Rattle.laws.proofs.Booleans.{clash, refute}
use Rattle.laws.proofs.Counting.{all_true_lem, all_of}
use Rattle.rules.specs.Geometry.{transactions, nobody}
use Rattle.rules.specs.Event.{Access}
use Rattle.rules.specs.State.{Bearers, is_active, line_of, mem, Mode, Modes}
use Rattle.rules.specs.Locks.{mode_for, bars, holders_allow, retainers_allow, grantable}
use Rattle.rules.proofs.Bearers.{Rooted}
use Rattle.rules.proofs.Grades.{barring}
use Rattle.history.specs.History.{Fate, bearing, committed, stored, waiting, ended, History, is_bearing, is_within}
use Rattle.history.proofs.Roots.{Root, settled, lost, waiting as awaiting, at, is_at}
use Rattle.history.proofs.Table.{Table, bearer_one, within_is}
use Rattle.audit_rules.specs.Plain.{Grant, Ledger, rises, locks_with, locks_of, grant_blocks}
use Rattle.audit_rules.proofs.Picked.{locks_of-or, locks_of-pick}
use Rattle.audit_rules.proofs.Locking.{over_stand, bears, stand, Locking, none_stands}

-- each of the numbers passes two tests
both_all : (n : ℕ) (p q : ℕ → Bool) → all n (λ u. p u && q u) ≡ (all n p && all n q)
unfolding all
both_all zero p q = refl
both_all (suc n) p q = rw (both_all n p q) (four (all n p) (all n q) (p n) (q n))
  where
    four : (a b c d : Bool) → ((a && b) && (c && d)) ≡ ((a && c) && (b && d))
    four true true c d = refl
    four true false true d = refl
    four true false false d = refl
    four false b c d = refl

none_barred : (n : ℕ) (ok : ℕ → Bool) → all n (λ u. true) ≡ true
none_barred n ok = all_of n (λ u. true) (λ u k. refl)

-- only v is asked
all_one : (n v : ℕ) (ok : ℕ → Bool) → v < n → all n (λ u. not (same v u) || ok u) ≡ ok v
all_one n v ok small = go (is_cases (ok v))
  where
    go : Is (ok v) → all n (λ u. not (same v u) || ok u) ≡ ok v
    go (yes' e) = all_of n (λ u. not (same v u) || ok u) (λ u k. each u (same_cases v u)) ∙ sym e
      where
        each : (u : ℕ) → Same v u → (not (same v u) || ok u) ≡ true
        each u (is q s _) = rw (← q, e, or-true)
        each u (isnt q s _) = rw s
    go (no' e) = refute (all n (λ u. not (same v u) || ok u)) (λ d. clash (all_true_lem n (λ u. not (same v u) || ok u) v d small) (rw (same_refl v, e))) ∙ sym e

-- A test of all numbers u against the locks of those that p u picks, lock by lock: bad says which transactions make it fail.
module _ (n : ℕ) (test : Mode → Bool) (p : ℕ → ℕ → Bool) (ok bad : ℕ → Bool) (each : (i : ℕ) → all n (λ u. not (p u i) || ok u) ≡ not (bad i)) where
  split : (q s v o : Bool) → (not ((q && s) || v) || o) ≡ ((not (q && s) || o) && (not v || o))
  split true true true true = refl
  split true true true false = refl
  split true true false true = refl
  split true true false false = refl
  split true false true true = refl
  split true false true false = refl
  split true false false o = refl
  split false s true true = refl
  split false s true false = refl
  split false s false o = refl

  head : (i : ℕ) (s : Bool) → all n (λ u. not (p u i && s) || ok u) ≡ not (bad i && s)
  head i true = ap (all n) (fun_ext (λ u. ap (λ z. not z || ok u) (and-true (p u i)))) ∙ each i ∙ ap not (sym (and-true (bad i)))
    where
      and-true : (a : Bool) → (a && true) ≡ a
      and-true true = refl
      and-true false = refl
  head i false = ap (all n) (fun_ext (λ u. ap (λ z. not z || ok u) (and-false (p u i)))) ∙ none_barred n ok ∙ ap not (sym (and-false (bad i)))
    where
      and-false : (a : Bool) → (a && false) ≡ false
      and-false true = refl
      and-false false = refl

  de_morgan : (a b : Bool) → (not a && not b) ≡ not (a || b)
  de_morgan true b = refl
  de_morgan false b = refl

  pub all-locks : (r : ℕ) (gs : List Grant) → all n (λ u. not (locks_of test (p u) r gs) || ok u) ≡ not (locks_of test bad r gs)
  unfolding locks_of
  all-locks r [] = none_barred n ok
  all-locks r (g ∷ gs) =
      let s : Bool = same g.rec r && test (mode_for g.access) in
      ap (all n) (fun_ext (λ u. split (p u g.transaction) s (locks_of test (p u) r gs) (ok u)))
      ∙ both_all n (λ u. not (p u g.transaction && s) || ok u) (λ u. not (locks_of test (p u) r gs) || ok u)
      ∙ ap₂ ◌&&◌ (head g.transaction s) (all-locks r gs)
      ∙ de_morgan (bad g.transaction && s) (locks_of test bad r gs)

-- held by another; retained off the line
abbrev pub held_off : ℕ → Fate → Bool
held_off t (bearing u) = not (same u t)
held_off t committed = false
held_off t stored = false
held_off t waiting = false
held_off t ended = false

abbrev pub off : List ℕ → Root → Bool
off line settled = false
off line lost = false
off line awaiting = false
off line (at u) = not (mem u line)

module _ (l : Ledger) {b : Bearers} {root : ℕ → Root} (S : Rooted transactions nobody b) (T : Table b l.story root) {held retained : Modes} {lroot : ℕ → Root}
    (K : Locking l.story l.passed l.grants held retained lroot) where
  abbrev h : History
  h = l.story

  -- where the locks of a transaction stand, by following the links up
  stands_by : (n i : ℕ) → i ≤ n → lroot i ≡ stand lost false (h.fate (rises h.parent l.passed n i))
  unfolding rises
  stands_by zero i le = let q : i ≡ 0 = omega arith in rw q (none_stands T K ∙ sym (over_stand lost false (h.fate 0) T.none_bears))
  stands_by (suc n) i le = go (is_cases (l.passed i)) (λ p k. stands_by n p k)
    where
      unpassed : (c : Fate) → stand (lroot (h.parent i)) false c ≡ stand lost false c
      unpassed (bearing t) = refl
      unpassed committed = refl
      unpassed stored = refl
      unpassed waiting = refl
      unpassed ended = refl

      went : (c : Fate) → h.fate i ≡ c → l.passed i ≡ true → stand (lroot (h.parent i)) true c ≡ lroot (h.parent i)
      went (bearing t) q e = clash e (K.kept i t q)
      went committed q e = refl
      went stored q e = refl
      went waiting q e = refl
      went ended q e = refl

      go : Is (l.passed i) → ((p : ℕ) → p ≤ n → lroot p ≡ stand lost false (h.fate (rises h.parent l.passed n p)))
          → lroot i ≡ stand lost false (h.fate (cond (l.passed i) (rises h.parent l.passed n (h.parent i)) i))
      go (no' e) ih = rw e (K.one i ∙ rw e (unpassed (h.fate i)))
      go (yes' e) ih =
          let some : i ≢ 0 = λ q. clash e (ap l.passed q ∙ K.origin) in
          let k : h.parent i < i = T.earlier i (omega (arith, some)) in
          rw e (K.one i ∙ rw e (went (h.fate i) refl e) ∙ ih (h.parent i) (omega (arith, k, le)))

  pub stands_is : (i : ℕ) → lroot i ≡ stand lost false (h.fate (locks_with l i))
  unfolding locks_with
  stands_is i = stands_by i i (omega arith)

  -- a live transaction's locks stand with itself
  own_stands : (n i t : ℕ) → h.fate i ≡ bearing t → rises h.parent l.passed n i ≡ i
  unfolding rises
  own_stands zero i t e = refl
  own_stands (suc n) i t e = rw (K.kept i t e)

  own_with : (i t : ℕ) → h.fate i ≡ bearing t → locks_with l i ≡ i
  unfolding locks_with
  own_with i t e = own_stands i i t e

  -- t asks, and is live
  module _ (t : ℕ) (alive : is_active (b t) ≡ true) where
    abbrev line : List ℕ
    line = line_of b t

    way_is : (i : ℕ) → grant_blocks l (h.bearer t) i ≡ (held_off t (h.fate i) || (not (is_bearing (h.fate i)) && off line (lroot i)))
    unfolding grant_blocks is_bearing
    way_is i = rw (stands_is i) (go (h.fate i) refl (same_cases (locks_with l i) i))
      where
        at_rest : (c : Fate) → h.fate (locks_with l i) ≡ c → (is_bearing c && not (is_within h (locks_with l i) (h.bearer t))) ≡ off line (stand lost false c)
        at_rest (bearing u) q = let w = T.who (locks_with l i) u q in rw (← w.0) (ap not (within_is S T u t w.1 alive))
        at_rest committed q = refl
        at_rest stored q = refl
        at_rest waiting q = refl
        at_rest ended q = refl

        -- who isn't live, and whose locks stand with itself: nobody has them
        nowhere : (c : Fate) → is_bearing c ≡ false → off line (stand lost false c) ≡ false
        nowhere (bearing u) e = absurd (true≢false e)
        nowhere committed e = refl
        nowhere stored e = refl
        nowhere waiting e = refl
        nowhere ended e = refl

        idle : (c : Fate) → is_bearing c ≡ false → h.fate i ≡ c → Same (locks_with l i) i
            → (is_bearing (h.fate (locks_with l i)) && not (cond (same (locks_with l i) i) (same i (h.bearer t)) (is_within h (locks_with l i) (h.bearer t)))) ≡ off line (stand lost false (h.fate (locks_with l i)))
        idle c e q (is z s _) = rw (s, z, q, e) (sym (nowhere c e))
        idle c e q (isnt z s _) = rw s (at_rest (h.fate (locks_with l i)) refl)

        go : (c : Fate) → h.fate i ≡ c → Same (locks_with l i) i
            → (is_bearing (h.fate (locks_with l i)) && not (cond (same (locks_with l i) i) (same i (h.bearer t)) (is_within h (locks_with l i) (h.bearer t))))
            ≡ (held_off t c || (not (is_bearing c) && off line (stand lost false (h.fate (locks_with l i)))))
        go (bearing u) q d = rw (own_with i u q, q, same_refl i) (other (same_cases u t))
          where
            w : (h.bearer u ≡ i) × (is_active (b u) ≡ true)
            w = T.who i u q

            other : Same u t → not (same i (h.bearer t)) ≡ (not (same u t) || false)
            other (is z s _) = rw (s, ← w.0, z, same_refl (h.bearer t))
            other (isnt z s _) = rw (s, ne_false i (h.bearer t) (λ y. z (bearer_one T u t w.1 alive (w.0 ∙ y))))
        go committed q d = idle committed refl q d
        go stored q d = idle stored refl q d
        go waiting q d = idle waiting refl q d
        go ended q d = idle ended refl q d

    -- the rule, number by number
    module _ (numbered : (u : ℕ) → is_active (b u) ≡ true → u < transactions) where
      none-asked : (ok : ℕ → Bool) → all transactions (λ u. not false || ok u) ≡ true
      none-asked ok = none_barred transactions ok

      each_held : (i : ℕ) → all transactions (λ u. not (bears u (h.fate i)) || same u t) ≡ not (held_off t (h.fate i))
      each_held i = go (h.fate i) refl
        where
          double : (a : Bool) → a ≡ not (not a)
          double true = refl
          double false = refl

          go : (c : Fate) → h.fate i ≡ c → all transactions (λ u. not (bears u c) || same u t) ≡ not (held_off t c)
          go (bearing v) q = all_one transactions v (λ u. same u t) (numbered v (T.who i v q).1) ∙ double (same v t)
          go committed q = none-asked (λ u. same u t)
          go stored q = none-asked (λ u. same u t)
          go waiting q = none-asked (λ u. same u t)
          go ended q = none-asked (λ u. same u t)

      each_retained : (i : ℕ) → all transactions (λ u. not (not (is_bearing (h.fate i)) && is_at u (lroot i)) || mem u line) ≡ not (not (is_bearing (h.fate i)) && off line (lroot i))
      each_retained i = go (is_bearing (h.fate i))
        where
          double : (a : Bool) → a ≡ not (not a)
          double true = refl
          double false = refl

          by : (c : Fate) → h.fate (locks_with l i) ≡ c → all transactions (λ u. not (is_at u (stand lost false c)) || mem u line) ≡ not (off line (stand lost false c))
          by (bearing v) q = all_one transactions v (λ u. mem u line) (numbered v (T.who (locks_with l i) v q).1) ∙ double (mem v line)
          by committed q = none-asked (λ u. mem u line)
          by stored q = none-asked (λ u. mem u line)
          by waiting q = none-asked (λ u. mem u line)
          by ended q = none-asked (λ u. mem u line)

          go : (a : Bool) → all transactions (λ u. not (not a && is_at u (lroot i)) || mem u line) ≡ not (not a && off line (lroot i))
          go true = none-asked (λ u. mem u line)
          go false = rw (stands_is i) (by (h.fate (locks_with l i)) refl)

      -- WHO BARS A LOCK IS TOLD BY THE LEDGER.
      pub grant_is : (a : Access) (r : ℕ) → not (grantable a held retained line t r) ≡ locks_of (bars a) (grant_blocks l (h.bearer t)) r l.grants
      unfolding grantable holders_allow retainers_allow
      grant_is a r =
          let test = bars a in
          ap not (ap₂ ◌&&◌
          (ap (all transactions) (fun_ext (λ u. ap (λ z. not z || same u t) (K.holds (barring a) r u))) ∙ all-locks transactions test (λ u i. bears u (h.fate i)) (λ u. same u t) (λ i. held_off t (h.fate i)) each_held r l.grants)
          (ap (all transactions) (fun_ext (λ u. ap (λ z. not z || mem u line) (K.retains (barring a) r u))) ∙ all-locks transactions test (λ u i. not (is_bearing (h.fate i)) && is_at u (lroot i)) (λ u. mem u line) (λ i. not (is_bearing (h.fate i)) && off line (lroot i)) each_retained r l.grants))
          ∙ joined (locks_of test (λ i. held_off t (h.fate i)) r l.grants) (locks_of test (λ i. not (is_bearing (h.fate i)) && off line (lroot i)) r l.grants)
          ∙ sym (locks_of-or test (λ i. held_off t (h.fate i)) (λ i. not (is_bearing (h.fate i)) && off line (lroot i)) r l.grants)
          ∙ locks_of-pick test r l.grants (λ i. sym (way_is i))
        where
          joined : (x y : Bool) → not (not x && not y) ≡ (x || y)
          joined true y = refl
          joined false true = refl
          joined false false = refl
