-- The labels go on agreeing with the history when transactions end, when one begins, and at a write.
use mathlib.Core.Path.{◌≡◌, refl, sym, ap, ◌∙◌}
use mathlib.Core.Bool.{Bool, true, false, cond, true≢false, false≢true, or-true}
use mathlib.Core.Logic.{◌≢◌, ◌⊎◌, inl, inr}
use Prim.Native.Nat.{ℕ, suc, ◌<◌, ◌≤◌}
use native.Mathlib.Omega.{arith}
use Rattle.laws.specs.Tests.{same}
use Rattle.laws.specs.Functions.{updated}
use Rattle.laws.proofs.Tests.{same_cases, Same, is, isnt, same_refl, ne_false, Is, is_cases, yes', no'}
use Rattle.rules.specs.Geometry.{nobody}
use Rattle.rules.specs.State.{Bearer, Bearers, free, active, is_active, depth_in, line_of, mem, open_state}
use Rattle.rules.proofs.Tree.{own}
use Rattle.rules.proofs.Bearers.{Rooted, rooted_tree, active_line, parent_line, begun_in, ended_in}
use Rattle.history.specs.History.{Fate, bearing, committed, stored, waiting, ended, History, is_committed, is_bearing, writes_to, turned, ending, resolved, after, begins, writes, decides}
use Rattle.history.proofs.Roots.{Root, settled, lost, waiting as awaiting, at, resolve}
use Rattle.history.proofs.Table.{entry, Table, bearing≢, bearing_inj, bearer_known, bearer_most, committed_begun}

module _ {limit : ℕ} {b : Bearers} (S : Rooted limit nobody b) {h : History} {root : ℕ → Root} (T : Table b h root) where
  -- the transactions that `who` picks, whose numbers `dead` picks, end with one fate
  module _ (dead who : ℕ → Bool) (new : Fate) (f : Root → Root)
      (closed : (z a : ℕ) → dead z ≡ false → dead a ≡ true → mem a (line_of b z) ≡ false)
      (picks : (t : ℕ) → is_active (b t) ≡ true → who (h.bearer t) ≡ dead t)
      (over : is_bearing new ≡ false) (on_settled : f settled ≡ settled) (on_lost : f lost ≡ lost) (on_waiting : f awaiting ≡ awaiting)
      (stays : (t : ℕ) → dead t ≡ false → f (at t) ≡ at t)
      (goes : (t : ℕ) → is_active (b t) ≡ true → dead t ≡ true → f (at t) ≡ entry (λ i. f (root i)) (h.parent (h.bearer t)) new) where
    abbrev h' : History
    h' = ending who new h

    abbrev b' : Bearers
    b' = ended_in b dead

    left : (t : ℕ) → is_active (b' t) ≡ true → (dead t ≡ false) × (is_active (b t) ≡ true)
    unfolding is_active
    left t e = go (is_cases (dead t))
      where
        go : Is (dead t) → (dead t ≡ false) × (is_active (b t) ≡ true)
        go (yes' d) = absurd (false≢true (rw d at e))
        go (no' d) = (d, rw d at e)

    bearer_left : (t : ℕ) → dead t ≡ false → is_active (b t) ≡ true → h'.bearer t ≡ h.bearer t
    unfolding ending turned is_bearing
    bearer_left t d e = rw (T.bears t e, picks t e, d)

    bearer_gone : (t : ℕ) → Is (is_active (b t)) → is_active (b' t) ≡ false → h'.bearer t ≡ 0
    unfolding ending turned is_bearing is_active
    bearer_gone t (no' e) k = rw (T.vacant t e) (either (is_bearing (turned (who 0) new (h.fate 0))))
      where
        either : (b : Bool) → cond {A = ℕ} b 0 0 ≡ 0
        either true = refl
        either false = refl
    bearer_gone t (yes' e) k = go (is_cases (dead t))
      where
        go : Is (dead t) → h'.bearer t ≡ 0
        go (yes' d) = rw (T.bears t e, picks t e, d, over)
        go (no' d) = absurd (true≢false (sym e ∙ rw d at k))

    ended_who : (i t : ℕ) (c : Fate) → h.fate i ≡ c → turned (who i) new c ≡ bearing t → (h'.bearer t ≡ i) × (is_active (b' t) ≡ true)
    unfolding turned is_bearing
    ended_who i t (bearing v) q e = go (is_cases (dead v))
      where
        w : (h.bearer v ≡ i) × (is_active (b v) ≡ true)
        w = T.who i v q

        k : cond (dead v) new (bearing v) ≡ bearing t
        k = rw (← w.0, picks v w.1) at e

        go : Is (dead v) → (h'.bearer t ≡ i) × (is_active (b' t) ≡ true)
        go (yes' d) = bearing≢ over (rw d at k)
        go (no' d) = let z : v ≡ t = bearing_inj (rw d at k) in rw (← z) (bearer_left v d w.1 ∙ w.0, rw d w.1)
    ended_who i t committed q e = bearing≢ refl e
    ended_who i t stored q e = bearing≢ refl e
    ended_who i t waiting q e = bearing≢ refl e
    ended_who i t ended q e = bearing≢ refl e

    ended_one : (i : ℕ) (c : Fate) → h.fate i ≡ c → f (entry root (h.parent i) c) ≡ entry (λ k. f (root k)) (h.parent i) (turned (who i) new c)
    unfolding turned
    ended_one i (bearing t) q = go (is_cases (dead t))
      where
        w : (h.bearer t ≡ i) × (is_active (b t) ≡ true)
        w = T.who i t q

        go : Is (dead t) → f (at t) ≡ entry (λ k. f (root k)) (h.parent i) (cond (who i) new (bearing t))
        go (yes' d) = rw (← w.0, picks t w.1, d) (goes t w.1 d)
        go (no' d) = rw (← w.0, picks t w.1, d) (stays t d)
    ended_one i committed q = refl
    ended_one i stored q = on_settled
    ended_one i waiting q = on_waiting
    ended_one i ended q = on_lost

    -- the parent of one that is left is left
    ended_above : (t p d : ℕ) → b t ≡ active p d → dead t ≡ false → Is (is_active (b p)) → h.bearer p ≡ h'.bearer p
    unfolding mem is_active
    ended_above t p d q k (no' e) = T.vacant p e ∙ sym (bearer_gone p (no' e) (go (is_cases (dead p))))
      where
        go : Is (dead p) → is_active (b' p) ≡ false
        go (yes' m) = rw m
        go (no' m) = rw m e
    ended_above t p d q k (yes' e) = go (is_cases (dead p))
      where
        go : Is (dead p) → h.bearer p ≡ h'.bearer p
        go (no' m) = sym (bearer_left p m e)
        go (yes' m) = absurd (true≢false (sym (rw (parent_line S t p d q, own (rooted_tree S) p (sym (active_line S p) ∙ e)) (or-true (same p t))) ∙ closed t p k m))

    above_kept : (t p d : ℕ) → b' t ≡ active p d → h.parent (h'.bearer t) ≡ h'.bearer p
    unfolding is_active
    above_kept t p d e =
        let l = left t (ap is_active e) in
        let q : b t ≡ active p d = rw l.0 at e in
        ap h.parent (bearer_left t l.0 l.1) ∙ T.above t p d q ∙ ended_above t p d q l.0 (is_cases (is_active (b p)))

    no_bearer : (c : Fate) → is_bearing c ≡ false → is_bearing (turned (who 0) new c) ≡ false
    unfolding turned is_bearing
    no_bearer (bearing t) e = absurd (true≢false e)
    no_bearer committed e = refl
    no_bearer stored e = refl
    no_bearer waiting e = refl
    no_bearer ended e = refl

    no_commit : (c : Fate) → is_bearing c ≡ false → is_committed c ≡ false → is_committed (turned (who 0) new c) ≡ false
    unfolding turned is_bearing is_committed
    no_commit (bearing t) e q = absurd (true≢false e)
    no_commit committed e q = absurd (true≢false q)
    no_commit stored e q = refl
    no_commit waiting e q = refl
    no_commit ended e q = refl

    pub ended_table : Table b' h' (λ i. f (root i))
    unfolding ending turned is_bearing
    ended_table = record {
      one = λ i. ap f (T.one i) ∙ ended_one i (h.fate i) refl;
      earlier = T.earlier;
      origin = T.origin;
      bears = λ t e. let l = left t e in rw (bearer_left t l.0 l.1, T.bears t l.1, picks t l.1, l.0);
      who = λ i t e. ended_who i t (h.fate i) refl e;
      vacant = λ t e. bearer_gone t (is_cases (is_active (b t))) e;
      above = λ t p d e. above_kept t p d e;
      none_bears = no_bearer (h.fate 0) T.none_bears;
      none-commits = no_commit (h.fate 0) T.none_bears T.none-commits;
      unborn = λ i k. rw (T.unborn i k);
      fresh = T.fresh;
    }

  -- a begin of the number t, free before, under p
  module _ (records t p : ℕ) (off : is_active (b t) ≡ false) (named : t ≢ nobody) (parent : (p ≡ nobody) ⊎ (is_active (b p) ≡ true)) (nobody_off : is_active (b nobody) ≡ false) where
    abbrev new : ℕ
    new = suc h.begun

    -- the parent's transaction: none for nobody
    parent_is : cond (same p nobody) 0 (h.bearer p) ≡ h.bearer p
    parent_is = go (same_cases p nobody)
      where
        go : Same p nobody → cond (same p nobody) 0 (h.bearer p) ≡ h.bearer p
        go (is q s _) = rw (s, q) (sym (T.vacant nobody nobody_off))
        go (isnt q s _) = rw s

    old : (i : ℕ) → i ≤ h.begun → same i new ≡ false
    old i le = ne_false i new (λ q. omega arith)

    other : (u : ℕ) → is_active (b u) ≡ true → same u t ≡ false
    other u e = ne_false u t (λ q. true≢false (sym e ∙ rw q off))

    -- no number's parent is t
    parent_other : (u q d : ℕ) → b u ≡ active q d → same q t ≡ false
    unfolding open_state
    parent_other u q d e = ne_false q t (λ z. named (sym z ∙ S.rooted u q d e (rw z (flat (b t) off))))
      where
        flat : (c : Bearer) → is_active c ≡ false → depth_in c ≡ 0
        flat free k = refl
        flat (active v w) k = absurd (true≢false k)

    own_parent : same p t ≡ false
    own_parent = ne_false p t (go parent)
      where
        go : (p ≡ nobody) ⊎ (is_active (b p) ≡ true) → p ≢ t
        go (inl q) z = named (sym z ∙ q)
        go (inr e) z = true≢false (sym e ∙ rw z off)

    abbrev root' : ℕ → Root
    root' i = cond (same i new) (at t) (root i)

    abbrev h'' : History
    h'' = after records (begins p t) h

    begin_one : (i : ℕ) → Same i new → root' i ≡ entry root' (h''.parent i) (h''.fate i)
    unfolding after updated
    begin_one i (is q s _) = rw s
    begin_one i (isnt q s _) = rw s (T.one i ∙ go (h.fate i) refl)
      where
        go : (c : Fate) → h.fate i ≡ c → entry root (h.parent i) c ≡ entry root' (h.parent i) c
        go (bearing v) e = refl
        go committed e =
            let k = committed_begun T i e in
            let l : h.parent i < i = T.earlier i k.0 in
            rw (old (h.parent i) (omega (arith, k.1)))
        go stored e = refl
        go waiting e = refl
        go ended e = refl

    begin_earlier : (i : ℕ) → 0 < i → Same i new → h''.parent i < i
    unfolding after updated
    begin_earlier i k (is q s _) = rw (s, parent_is) (let m : h.bearer p ≤ h.begun = bearer_most T p in omega arith)
    begin_earlier i k (isnt q s _) = rw s (T.earlier i k)

    begin_bears : (u : ℕ) → is_active (begun_in b t p u) ≡ true → Same u t → h''.fate (h''.bearer u) ≡ bearing u
    unfolding after updated
    begin_bears u e (is q s _) = rw (s, same_refl new, q)
    begin_bears u e (isnt q s _) = let k : is_active (b u) ≡ true = rw s at e in rw (s, old (h.bearer u) (bearer_known T u k)) (T.bears u k)

    begin_who : (i u : ℕ) → h''.fate i ≡ bearing u → Same i new → (h''.bearer u ≡ i) × (is_active (begun_in b t p u) ≡ true)
    unfolding after updated is_active
    begin_who i u e (is q s _) = let z : t ≡ u = bearing_inj (rw s at e) in rw (← z, same_refl t) (sym q, refl)
    begin_who i u e (isnt q s _) = let w = T.who i u (rw s at e) in rw (other u w.1) w

    begin_vacant : (u : ℕ) → is_active (begun_in b t p u) ≡ false → Same u t → h''.bearer u ≡ 0
    unfolding after updated is_active
    begin_vacant u e (is q s _) = absurd (true≢false (rw s at e))
    begin_vacant u e (isnt q s _) = rw s (T.vacant u (rw s at e))

    begin_above : (u q d : ℕ) → begun_in b t p u ≡ active q d → Same u t → h''.parent (h''.bearer u) ≡ h''.bearer q
    unfolding after updated is_active
    begin_above u q d e (is z s _) =
        let k : active p (suc (depth_in (b p))) ≡ active q d = rw s at e in
        let a : p ≡ q = cc in
        rw (s, same_refl new, parent_is, ← a, own_parent)
    begin_above u q d e (isnt z s _) =
        let k : b u ≡ active q d = rw s at e in
        rw (s, old (h.bearer u) (bearer_known T u (rw k)), parent_other u q d k) (T.above u q d k)

    pub begin_table : Table (begun_in b t p) h'' root'
    unfolding after updated
    begin_table = record {
      one = λ i. begin_one i (same_cases i new);
      earlier = λ i k. begin_earlier i k (same_cases i new);
      origin = rw (old 0 (omega arith)) T.origin;
      bears = λ u e. begin_bears u e (same_cases u t);
      who = λ i u e. begin_who i u e (same_cases i new);
      vacant = λ u e. begin_vacant u e (same_cases u t);
      above = λ u q d e. begin_above u q d e (same_cases u t);
      none_bears = rw (old 0 (omega arith)) T.none_bears;
      none-commits = rw (old 0 (omega arith)) T.none-commits;
      unborn = λ i k. rw (ne_false i new (λ q. omega arith)) (T.unborn i (omega arith));
      fresh = λ i r k. T.fresh i r (omega arith);
    }

  -- a write by the transaction of number t
  pub write_table : (records t r o v : ℕ) → is_active (b t) ≡ true → Table b (after records (writes t r o v) h) root
  unfolding after writes_to
  write_table records t r o v e = record {
    one = T.one;
    earlier = T.earlier;
    origin = T.origin;
    bears = T.bears;
    who = T.who;
    vacant = T.vacant;
    above = T.above;
    none_bears = T.none_bears;
    none-commits = T.none-commits;
    unborn = T.unborn;
    fresh = λ i q k. let m : h.bearer t ≤ h.begun = bearer_known T t e in rw (ne_false (h.bearer t) i (λ z. omega arith)) (T.fresh i q k);
  }

  -- the decision on the one that waits
  pub decide_table : (records : ℕ) (d : Bool) → Table b (after records (decides d) h) (λ i. resolve d (root i))
  unfolding after resolved is_bearing is_committed
  decide_table records d = record {
    one = λ i. ap (resolve d) (T.one i) ∙ turns (h.parent i) (h.fate i);
    earlier = T.earlier;
    origin = T.origin;
    bears = λ t e. rw (T.bears t e);
    who = λ i t e. T.who i t (bore (h.fate i) t e);
    vacant = T.vacant;
    above = T.above;
    none_bears = idle (h.fate 0) T.none_bears;
    none-commits = same_commit (h.fate 0) T.none-commits;
    unborn = λ i k. rw (T.unborn i k);
    fresh = T.fresh;
  }
    where
      turns : (p : ℕ) (c : Fate) → resolve d (entry root p c) ≡ entry (λ k. resolve d (root k)) p (resolved d c)
      turns p (bearing t) = refl
      turns p committed = refl
      turns p stored = refl
      turns p waiting = go d
        where
          go : (b : Bool) → cond b settled lost ≡ entry (λ k. resolve d (root k)) p (cond b stored ended)
          go true = refl
          go false = refl
      turns p ended = refl

      rules_none : (b : Bool) {A : Type 0} {t : ℕ} → cond b stored ended ≡ bearing t → A
      rules_none true e = bearing≢ refl e
      rules_none false e = bearing≢ refl e

      bore : (c : Fate) (t : ℕ) → resolved d c ≡ bearing t → c ≡ bearing t
      bore (bearing u) t e = e
      bore committed t e = e
      bore stored t e = e
      bore waiting t e = rules_none d e
      bore ended t e = e

      idle : (c : Fate) → is_bearing c ≡ false → is_bearing (resolved d c) ≡ false
      idle (bearing t) e = e
      idle committed e = refl
      idle stored e = refl
      idle waiting e = go d
        where
          go : (b : Bool) → is_bearing (cond b stored ended) ≡ false
          go true = refl
          go false = refl
      idle ended e = refl

      same_commit : (c : Fate) → is_committed c ≡ false → is_committed (resolved d c) ≡ false
      same_commit (bearing t) e = refl
      same_commit committed e = e
      same_commit stored e = refl
      same_commit waiting e = go d
        where
          go : (b : Bool) → is_committed (cond b stored ended) ≡ false
          go true = refl
          go false = refl
      same_commit ended e = refl
