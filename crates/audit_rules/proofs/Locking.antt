-- THE LOCK LAW: what each transaction holds and retains is told by the accepted locks, by where each transaction's locks stand by now. Said of
-- every grade of modes; kept by a begin, by a lock, and when transactions end with their locks discarded or handed to a parent.
use mathlib.Core.Path.{◌≡◌, refl, sym, ap, ap₂, ◌∙◌}
use mathlib.Core.Bool.{Bool, true, false, not, cond, ◌&&◌, ◌||◌, true≢false, and-false}
use mathlib.Core.List.{List, ◌∷◌}
use mathlib.Core.Logic.{◌≢◌}
use Prim.Native.Nat.{ℕ, suc, ◌<◌, ◌≤◌}
use native.Mathlib.Omega.{arith}
use Rattle.laws.specs.Tests.{same, under}
use Rattle.laws.specs.Functions.{updated}
use Rattle.laws.proofs.Tests.{same_cases, Same, is, isnt, ne_false, Is, is_cases, yes', no', under-lt, not-under}
use Rattle.laws.proofs.Booleans.{clash}
use Rattle.rules.specs.Event.{Access}
use Rattle.rules.specs.State.{Bearers, is_active, Modes}
use Rattle.rules.specs.Locks.{mode_for, granted, discarded}
use Rattle.rules.proofs.Grades.{Grade}
use Rattle.history.specs.History.{Fate, bearing, committed, stored, waiting, ended, History, is_bearing, turned, ending, after, begins}
use Rattle.history.proofs.Roots.{Root, lost, at, is_at}
use Rattle.history.proofs.Table.{Table, bearing≢, bearer_known}
use Rattle.audit_rules.specs.Plain.{Grant, locks_of}
use Rattle.audit_rules.proofs.Picked.{locks_of-none, locks_of-pick, locks_of-fresh}

-- bears the number t
abbrev pub bears : ℕ → Fate → Bool
bears t (bearing u) = same u t
bears t committed = false
bears t stored = false
bears t waiting = false
bears t ended = false

-- where the locks of a transaction stand that stands so: with itself; with its parent's, if they went up; else nowhere
abbrev pub stand : Root → Bool → Fate → Root
stand c went (bearing t) = at t
stand c went committed = cond went c lost
stand c went stored = cond went c lost
stand c went waiting = cond went c lost
stand c went ended = cond went c lost

pub record Locking (h : History) (passed : ℕ → Bool) (gs : List Grant) (held retained : Modes) (lroot : ℕ → Root) : Type 0 where
  pub one : (i : ℕ) → lroot i ≡ stand (lroot (h.parent i)) (passed i) (h.fate i)
  -- the locks of a live transaction are its own; what isn't begun has handed nothing up, and has locked nothing
  pub kept : (i t : ℕ) → h.fate i ≡ bearing t → passed i ≡ false
  pub origin : passed 0 ≡ false
  pub unpassed : (i : ℕ) → h.begun < i → passed i ≡ false
  pub fresh : (G : Grade) (i r : ℕ) → h.begun < i → locks_of G.test (λ k. same k i) r gs ≡ false
  -- held is what the transaction itself was granted; retained is what has come up to it
  pub holds : (G : Grade) (r t : ℕ) → G.test (held r t) ≡ locks_of G.test (λ i. bears t (h.fate i)) r gs
  pub retains : (G : Grade) (r t : ℕ) → G.test (retained r t) ≡ locks_of G.test (λ i. not (is_bearing (h.fate i)) && is_at t (lroot i)) r gs

or_comm : (a b : Bool) → (a || b) ≡ (b || a)
or_comm true true = refl
or_comm true false = refl
or_comm false true = refl
or_comm false false = refl

over_bears : (t : ℕ) (c : Fate) → is_bearing c ≡ false → bears t c ≡ false
unfolding is_bearing
over_bears t (bearing u) e = absurd (true≢false e)
over_bears t committed e = refl
over_bears t stored e = refl
over_bears t waiting e = refl
over_bears t ended e = refl

pub over_stand : (c : Root) (q : Bool) (k : Fate) → is_bearing k ≡ false → stand c q k ≡ cond q c lost
unfolding is_bearing
over_stand c q (bearing t) e = absurd (true≢false e)
over_stand c q committed e = refl
over_stand c q stored e = refl
over_stand c q waiting e = refl
over_stand c q ended e = refl

module _ {b : Bearers} {h : History} {root : ℕ → Root} (T : Table b h root) {passed : ℕ → Bool} {gs : List Grant} {held retained : Modes} {lroot : ℕ → Root}
    (K : Locking h passed gs held retained lroot) where
  pub live_stands : (i t : ℕ) → h.fate i ≡ bearing t → lroot i ≡ at t
  live_stands i t e = K.one i ∙ ap (stand (lroot (h.parent i)) (passed i)) e

  pub none_stands : lroot 0 ≡ lost
  none_stands = K.one 0 ∙ over_stand (lroot (h.parent 0)) (passed 0) (h.fate 0) T.none_bears ∙ rw K.origin

  passed_known : (i : ℕ) → passed i ≡ true → i ≤ h.begun
  passed_known i e = go (is_cases (under h.begun i))
    where
      go : Is (under h.begun i) → i ≤ h.begun
      go (no' k) = not-under h.begun i k
      go (yes' k) = clash e (K.unpassed i (under-lt h.begun i k))

  parent_most : (i : ℕ) → h.parent i ≤ i
  parent_most i = go (same_cases i 0)
    where
      go : Same i 0 → h.parent i ≤ i
      go (is z _ _) = rw (z, T.origin) (omega arith)
      go (isnt z _ _) = let k : h.parent i < i = T.earlier i (omega arith) in omega arith

  -- a begin of the number t
  module _ (records t p : ℕ) where
    abbrev new : ℕ
    new = suc h.begun

    abbrev h' : History
    h' = after records (begins p t) h

    abbrev lroot' : ℕ → Root
    lroot' i = cond (same i new) (at t) (lroot i)

    begin_one : (i : ℕ) → Same i new → lroot' i ≡ stand (lroot' (h'.parent i)) (passed i) (h'.fate i)
    unfolding after updated
    begin_one i (is q s _) = rw s
    begin_one i (isnt q s _) = rw s (go (is_cases (passed i)))
      where
        go : Is (passed i) → lroot i ≡ stand (lroot' (h.parent i)) (passed i) (h.fate i)
        go (no' e) = K.one i ∙ rw e (each (h.fate i))
          where
            each : (c : Fate) → stand (lroot (h.parent i)) false c ≡ stand (lroot' (h.parent i)) false c
            each (bearing u) = refl
            each committed = refl
            each stored = refl
            each waiting = refl
            each ended = refl
        go (yes' e) =
            let low : h.parent i ≤ i = parent_most i in
            let known : i ≤ h.begun = passed_known i e in
            K.one i ∙ rw (ne_false (h.parent i) new (λ z. omega (arith, z, low, known)))

    begin_kept : (i u : ℕ) → Same i new → h'.fate i ≡ bearing u → passed i ≡ false
    unfolding after updated
    begin_kept i u (is q s _) e = K.unpassed i (omega (arith, q))
    begin_kept i u (isnt q s _) e = K.kept i u (rw s at e)

    begin_fate : (j : ℕ) → j ≢ new → h.fate j ≡ h'.fate j
    unfolding after updated
    begin_fate j n = rw (ne_false j new n)

    begin_root : (j : ℕ) → j ≢ new → lroot j ≡ lroot' j
    begin_root j n = rw (ne_false j new n)

    pub begin_locking : Locking h' passed gs held retained lroot'
    unfolding after
    begin_locking = record {
      one = λ i. begin_one i (same_cases i new);
      kept = λ i u e. begin_kept i u (same_cases i new) e;
      origin = K.origin;
      unpassed = λ i k. K.unpassed i (omega (arith, k));
      fresh = λ G i r k. K.fresh G i r (omega (arith, k));
      holds = λ G r u. K.holds G r u ∙ locks_of-fresh G.test _ _ new r gs (K.fresh G new r (omega arith)) (λ j n. ap (bears u) (begin_fate j n));
      retains = λ G r u. K.retains G r u ∙ locks_of-fresh G.test _ _ new r gs (K.fresh G new r (omega arith))
          (λ j n. ap₂ (λ (c : Fate) (x : Root). not (is_bearing c) && is_at u x) (begin_fate j n) (begin_root j n));
    }

  -- a lock by the transaction of number t, which is live
  module _ (t r : ℕ) (a : Access) (alive : is_active (b t) ≡ true) where
    abbrev g : Grant
    g = record { transaction = h.bearer t; rec = r; access = a }

    lock_holds : (G : Grade) (q j : ℕ) → Same q r → Same j t → G.test (granted a t r held q j) ≡ locks_of G.test (λ i. bears j (h.fate i)) q (g ∷ gs)
    unfolding granted locks_of
    lock_holds G q j (is e s s') (is e' u u') = rw (s, s', u, T.bears t alive, u') (G.either (held q j) (mode_for a) ∙ rw (K.holds G q j) (or_comm (locks_of G.test (λ i. bears j (h.fate i)) q gs) (G.test (mode_for a))))
    lock_holds G q j (is e s s') (isnt e' u u') = rw (s, s', u, T.bears t alive, u') (K.holds G q j)
    lock_holds G q j (isnt e s s') k = rw (s, s', and-false) (K.holds G q j)

    lock_fresh : (G : Grade) (i q : ℕ) → h.begun < i → locks_of G.test (λ k. same k i) q (g ∷ gs) ≡ false
    unfolding locks_of
    lock_fresh G i q k = let m : h.bearer t ≤ h.begun = bearer_known T t alive in rw (ne_false (h.bearer t) i (λ z. omega (arith, z, m, k))) (K.fresh G i q k)

    lock_retains : (G : Grade) (q j : ℕ) → G.test (retained q j) ≡ locks_of G.test (λ i. not (is_bearing (h.fate i)) && is_at j (lroot i)) q (g ∷ gs)
    unfolding locks_of is_bearing
    lock_retains G q j = rw (T.bears t alive) (K.retains G q j)

    pub lock_locking : Locking h passed (g ∷ gs) (granted a t r held) retained lroot
    lock_locking = record {
      one = K.one;
      kept = K.kept;
      origin = K.origin;
      unpassed = K.unpassed;
      fresh = lock_fresh;
      holds = λ G q j. lock_holds G q j (same_cases q r) (same_cases j t);
      retains = lock_retains;
    }

  -- The transactions that `who` picks, whose numbers `dead` picks, end with one fate. What they pass on is told by φ.
  module _ (dead who : ℕ → Bool) (new : Fate) (passed' : ℕ → Bool) (φ : Root → Root)
      (picks : (t : ℕ) → is_active (b t) ≡ true → who (h.bearer t) ≡ dead t)
      (over : is_bearing new ≡ false)
      (other_passed : (i : ℕ) → is_bearing (h.fate i) ≡ false → passed' i ≡ passed i)
      (left_passed : (i : ℕ) → who i ≡ false → passed' i ≡ passed i)
      (on_lost : φ lost ≡ lost)
      (stays : (t : ℕ) → dead t ≡ false → φ (at t) ≡ at t)
      (goes : (t : ℕ) → is_active (b t) ≡ true → dead t ≡ true → φ (at t) ≡ cond (passed' (h.bearer t)) (φ (lroot (h.parent (h.bearer t)))) lost) where
    abbrev fate' : ℕ → Fate
    fate' i = turned (who i) new (h.fate i)

    push : (q : Bool) (c : Root) → φ (cond q c lost) ≡ cond q (φ c) lost
    push true c = refl
    push false c = on_lost

    ended_one : (i : ℕ) (c : Fate) → h.fate i ≡ c → φ (stand (lroot (h.parent i)) (passed i) c) ≡ stand (φ (lroot (h.parent i))) (passed' i) (turned (who i) new c)
    unfolding turned is_bearing
    ended_one i (bearing t) q = go (is_cases (dead t))
      where
        w : (h.bearer t ≡ i) × (is_active (b t) ≡ true)
        w = T.who i t q

        go : Is (dead t) → φ (at t) ≡ stand (φ (lroot (h.parent i))) (passed' i) (cond (who i) new (bearing t))
        go (yes' d) = rw (← w.0, picks t w.1, d) (goes t w.1 d ∙ sym (over_stand (φ (lroot (h.parent (h.bearer t)))) (passed' (h.bearer t)) new over))
        go (no' d) = rw (← w.0, picks t w.1, d) (stays t d)
    ended_one i committed q = rw (other_passed i (rw q)) (push (passed i) _)
    ended_one i stored q = rw (other_passed i (rw q)) (push (passed i) _)
    ended_one i waiting q = rw (other_passed i (rw q)) (push (passed i) _)
    ended_one i ended q = rw (other_passed i (rw q)) (push (passed i) _)

    ended_kept : (i t : ℕ) (c : Fate) → h.fate i ≡ c → turned (who i) new c ≡ bearing t → passed' i ≡ false
    unfolding turned is_bearing
    ended_kept i t (bearing u) q e = go (is_cases (who i))
      where
        go : Is (who i) → passed' i ≡ false
        go (yes' d) = bearing≢ over (rw d at e)
        go (no' d) = left_passed i d ∙ K.kept i u q
    ended_kept i t committed q e = bearing≢ refl e
    ended_kept i t stored q e = bearing≢ refl e
    ended_kept i t waiting q e = bearing≢ refl e
    ended_kept i t ended q e = bearing≢ refl e

    -- who bears t after: nobody, where t is dead
    ended_bears : (t i : ℕ) (c : Fate) → h.fate i ≡ c → bears t (turned (who i) new c) ≡ (not (dead t) && bears t c)
    unfolding turned
    ended_bears t i (bearing u) q = go (is_cases (dead u)) (same_cases u t)
      where
        w : (h.bearer u ≡ i) × (is_active (b u) ≡ true)
        w = T.who i u q

        go : Is (dead u) → Same u t → bears t (cond (who i) new (bearing u)) ≡ (not (dead t) && same u t)
        go (yes' d) (is z s _) = rw (← w.0, picks u w.1, d, over_bears t new over, ← z, d)
        go (yes' d) (isnt z s _) = rw (← w.0, picks u w.1, d, over_bears t new over, s, and-false)
        go (no' d) (is z s _) = rw (← w.0, picks u w.1, d, ← z, d)
        go (no' d) (isnt z s _) = rw (← w.0, picks u w.1, d, s, and-false)
    ended_bears t i committed q = sym (and-false (not (dead t)))
    ended_bears t i stored q = sym (and-false (not (dead t)))
    ended_bears t i waiting q = sym (and-false (not (dead t)))
    ended_bears t i ended q = sym (and-false (not (dead t)))

    ended_holds : (G : Grade) (r t : ℕ) → Is (dead t) → G.test (discarded dead held r t) ≡ locks_of G.test (λ i. bears t (fate' i)) r gs
    unfolding discarded
    ended_holds G r t (yes' d) = rw d (G.fails ∙ sym (locks_of-none G.test r gs) ∙ locks_of-pick G.test r gs (λ i. sym (ended_bears t i (h.fate i) refl ∙ rw d)))
    ended_holds G r t (no' d) = rw d (K.holds G r t ∙ locks_of-pick G.test r gs (λ i. sym (ended_bears t i (h.fate i) refl ∙ rw d)))

    -- where what is retained after is as φ says, the law holds after
    pub ended_locking : (retained' : Modes) → ((G : Grade) (r t : ℕ) → G.test (retained' r t) ≡ locks_of G.test (λ i. not (is_bearing (fate' i)) && is_at t (φ (lroot i))) r gs)
        → Locking (ending who new h) passed' gs (discarded dead held) retained' (λ i. φ (lroot i))
    unfolding ending is_bearing
    ended_locking retained' inherits = record {
      one = λ i. ap φ (K.one i) ∙ ended_one i (h.fate i) refl;
      kept = λ i t e. ended_kept i t (h.fate i) refl e;
      origin = other_passed 0 T.none_bears ∙ K.origin;
      unpassed = λ i k. other_passed i (rw (T.unborn i k)) ∙ K.unpassed i k;
      fresh = K.fresh;
      holds = λ G r t. ended_holds G r t (is_cases (dead t));
      retains = inherits;
    }
