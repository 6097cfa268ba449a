-- Every event keeps a sound state sound: the live transactions stay a tree, and the locks and versions go by its lines. So every state that
-- a run reaches is sound, and while it is up its commit page is empty or prepared.
use mathlib.Core.Path.{◌≡◌, refl, sym, ap, subst⁻¹, ◌∙◌, fun_ext}
use mathlib.Core.Bool.{Bool, true, false, cond, ◌&&◌, true≢false, false≢true}
use mathlib.Core.List.{List, [], ◌∷◌}
use mathlib.Core.Logic.{◌≢◌, ◌⊎◌, inl, inr}
use mathlib.Core.Option.{Option, none, some}
use Prim.Native.Nat.{ℕ, suc, ◌<◌, ◌≤◌}
use native.Mathlib.Omega.{arith}
use lib.ListN.{length, set, length-set}
use Rattle.laws.specs.Tests.{same, under}
use Rattle.laws.specs.Functions.{updated}
use Rattle.laws.proofs.Tests.{same_cases, Same, is, isnt, same-eq, same_refl, ne_false, or_false_left, or_false_right, Is, is_cases, yes', no', under-lt}
use Rattle.laws.proofs.Booleans.{or_cases, or_left, and_left, and_right, refute, clash}
use Rattle.rules.specs.Geometry.{Geometry, records, nobody, page_size}
use Rattle.rules.specs.Store.{Page}
use Rattle.rules.specs.Event.{Event, Access, begin, lock, write, read, commit, abort, crash, recover, prepare, decide, query, decode, fits}
use Rattle.rules.specs.State.{free, is_active, depth_in, line_of, mem, is_lock, Modes, Versions, live, holds_writing, down}
use Rattle.rules.specs.Locks.{granted, inherited, reported, discarded}
use Rattle.rules.specs.Versions.{is_some, else, also, nearest, with_version, handed_up, dropped}
use Rattle.rules.specs.Commit.{Cut}
use Rattle.rules.specs.Form.{Form}
use Rattle.rules.specs.Step.{is_for, is_top, StateOf, changes, busy, reserved, decides, first_free, begun, locked, wrote, ended, passed, retaining, aborted, raised, concluded, finished, visible, refusal, commits_top, commits_child, commits, recovers, act, step}
use Rattle.rules.specs.Run.{play}
use Rattle.rules.specs.Sound.{Sound, is_calm}
use Rattle.rules.proofs.Tree.{Lines, is_cons}
use Rattle.rules.proofs.Bearers.{begun_line, begun_rooted, ended_line, ended_rooted}
use Rattle.rules.proofs.Medium.{changed_in, is_clear, MediumLaws}
use Rattle.rules.proofs.Event.{decode_fits}
use Rattle.rules.proofs.Acceptance.{BeginOk, LockOk, WriteOk, CommitOk, PrepareOk, RecoverOk, begin_ok, lock_ok, lock_free, write_ok, commit_ok, commit_clear, abort_ok, recover_ok, prepare_ok, Judged, acts, refuses, judge_cases}
use Rattle.rules.proofs.Grades.{has}
use Rattle.rules.proofs.Locks.{Owned, Leaf, ChildOf, rooted_of, owned_of, has_live, own_line, live_line, no_child, beneath_closed, top_line, child_line, grant_alone, grant_above}
use Rattle.rules.proofs.Parts.{sound_of, sound_down}
use Rattle.rules.proofs.Owners.{grant_owned, write_owned, ended_owned, child_owned, report_owned, relined}
use Rattle.rules.proofs.Reserved.{prepare_fits, free_inherited, free_discarded, clear_of, for_some, unlocked}
use Rattle.rules.proofs.Shaped.{shaped_step, shaped_bad}

-- every version of the second is somebody's in the first
abbrev From : Versions → Versions → Type 0
From v w = (t r : ℕ) (p : Page) → w t r ≡ some p → (u : ℕ) × (v u r ≡ some p)

dropped_from : (dead : ℕ → Bool) (v : Versions) → From v (dropped dead v)
unfolding dropped
dropped_from dead v t r p e = go (is_cases (dead t))
  where
    go : Is (dead t) → (u : ℕ) × (v u r ≡ some p)
    go (yes' d) = let z : none ≡ some p = rw d at e in let k : true ≡ false = cc in absurd (true≢false k)
    go (no' d) = (t, rw d at e)

also_from : (a b : Option Page) (p : Page) → also a b ≡ some p → (a ≡ some p) ⊎ (b ≡ some p)
unfolding also
also_from none b p e = inr e
also_from (some q) b p e = inl e

handed_from : (x y : ℕ) (v : Versions) → From v (handed_up x y v)
unfolding handed_up
handed_from x y v t r p e = go (same_cases t y)
  where
    go : Same t y → (u : ℕ) × (v u r ≡ some p)
    go (isnt q d _) = (t, rw d at e)
    go (is q d _) = pick (also_from (v x r) (v y r) p (rw d at e))
      where
        pick : (v x r ≡ some p) ⊎ (v y r ≡ some p) → (u : ℕ) × (v u r ≡ some p)
        pick (inl k) = (x, k)
        pick (inr k) = (y, k)

-- the record of a write whose fields a word can hold
pub write_record : (g : Geometry) (t r o v : ℕ) → fits g (write t r o v) ≡ true → r < records g
unfolding fits
write_record g t r o v h = under-lt r (records g) (second (under t 32) (under r (records g)) (under o page_size) (under v 256) h)
  where
    second : (a b c d : Bool) → (a && b && c && d) ≡ true → b ≡ true
    second true true c d e = refl
    second true false c d e = absurd (false≢true e)
    second false b c d e = absurd (false≢true e)

-- a page that is seen is a page of the store or a version
pub nearest_paged : (v : Versions) (home : Page) (r : ℕ) (l : List ℕ) → ((t : ℕ) (p : Page) → v t r ≡ some p → length p ≡ page_size) → length home ≡ page_size
    → length (nearest v home r l) ≡ page_size
unfolding nearest else
nearest_paged v home r [] h k = k
nearest_paged v home r (a ∷ l) h k = go (v a r) refl (nearest_paged v home r l h k)
  where
    go : (o : Option Page) → v a r ≡ o → length (nearest v home r l) ≡ page_size → length (else o (nearest v home r l)) ≡ page_size
    go none e ih = ih
    go (some p) e ih = h a p e

module _ {f : Form} {s : StateOf f} (S : Sound f s) where
  from_ranged : (w : Versions) → From s.version w → (t r : ℕ) → is_some (w t r) ≡ true → r < records f.geometry
  unfolding is_some
  from_ranged w h t r e = go (w t r) refl e
    where
      go : (o : Option Page) → w t r ≡ o → is_some o ≡ true → r < records f.geometry
      go none q k = absurd (false≢true k)
      go (some p) q k = let u = h t r p q in S.ranged u.0 r (rw u.1)

  from_paged : (w : Versions) → From s.version w → (t r : ℕ) (p : Page) → w t r ≡ some p → length p ≡ page_size
  from_paged w h t r p e = let u = h t r p e in S.paged u.0 r p u.1

  -- a begin
  pub sound_begun : (p : ℕ) → BeginOk f s p → Sound f (begun s (first_free s) p)
  unfolding begun updated live depth_in
  sound_begun p ok = sound_of (record {
    tree = begun_rooted (rooted_of S) (first_free s) p ok.unborne ok.small (omega arith) (turn ok.parent);
    shallow = λ t. deep t (same_cases t (first_free s));
    owned = relined (owned_of S) (λ r j h. begun_line (rooted_of S) (first_free s) p ok.unborne j ∙ other r j h (same_cases j (first_free s)));
    ranged = S.ranged;
    paged = S.paged;
    idle = λ t e. clash ok.up e;
    calm = S.calm;
    reserved = unlocked S;
  })
    where
      turn : (p ≡ nobody) ⊎ (live s p ≡ true) → (is_active (s.bearer p) ≡ true) ⊎ (p ≡ nobody)
      turn (inl a) = inr a
      turn (inr a) = inl a

      room : depth_in (s.bearer p) ≢ f.geometry.depth_limit → depth_in (s.bearer p) ≤ f.geometry.depth_limit → suc (depth_in (s.bearer p)) ≤ f.geometry.depth_limit
      room n h = omega arith

      deep : (t : ℕ) → Same t (first_free s) → depth_in ((begun s (first_free s) p).bearer t) ≤ f.geometry.depth_limit
      deep t (is e d _) = rw d (room ok.room (S.shallow p))
      deep t (isnt e d _) = rw d (S.shallow t)

      other : (r j : ℕ) → has is_lock s.held s.retained r j ≡ true → Same j (first_free s)
          → cond (same j (first_free s)) (first_free s ∷ line_of s.bearer p) (line_of s.bearer j) ≡ line_of s.bearer j
      other r j h (is e d _) = clash (has_live S r j h) (rw e ok.unborne)
      other r j h (isnt e d _) = rw d

  -- a lock
  pub sound_locked : (t r : ℕ) (a : Access) → LockOk s t r a → reserved f s r ≡ false → Sound f (locked s t r a)
  unfolding locked live reserved granted
  sound_locked t r a ok spared = sound_of (record {
    tree = rooted_of S;
    shallow = S.shallow;
    owned = grant_owned (owned_of S) a t r (own_line S t ok.alive) (grant_alone S t r a ok) (grant_above S t r a ok);
    ranged = S.ranged;
    paged = S.paged;
    idle = S.idle;
    calm = S.calm;
    reserved = λ q j e. none_there q j e (is_cases (same q r && same j t));
  })
    where
      none_there : (q j : ℕ) → is_some (f.medium.pending s.store q) ≡ true → Is (same q r && same j t) → has is_lock (granted a t r s.held) s.retained q j ≡ false
      none_there q j e (yes' d) = clash (rw (same-eq q r (and_left (same q r) (same j t) d)) at e) spared
      none_there q j e (no' d) = rw d (unlocked S q j e)

  -- a write: a page that is a version of a record
  pub sound_wrote : (t r : ℕ) (page : Page) → WriteOk s t r → r < records f.geometry → length page ≡ page_size → Sound f (wrote s t r page)
  unfolding wrote with_version is_some holds_writing live
  sound_wrote t r page ok small long = sound_of (record {
    tree = rooted_of S;
    shallow = S.shallow;
    owned = write_owned (owned_of S) t r page ok.writing;
    ranged = λ j q v. in_range j q v (is_cases (same j t && same q r));
    paged = λ j q p e. is_page j q p e (is_cases (same j t && same q r));
    idle = S.idle;
    calm = S.calm;
    reserved = unlocked S;
  })
    where
      in_range : (j q : ℕ) → is_some (with_version t r page s.version j q) ≡ true → Is (same j t && same q r) → q < records f.geometry
      in_range j q v (yes' e) = rw (same-eq q r (and_right (same j t) (same q r) e)) small
      in_range j q v (no' e) = S.ranged j q (rw e at v)

      is_page : (j q : ℕ) (p : Page) → with_version t r page s.version j q ≡ some p → Is (same j t && same q r) → length p ≡ page_size
      is_page j q p k (yes' e) = let z : some page ≡ some p = rw e at k in let y : page ≡ p = cc in rw (← y) long
      is_page j q p k (no' e) = S.paged j q p (rw e at k)

  -- the transactions that `dead` picks end, over this store
  module _ (dead : ℕ → Bool) (closed : (z a : ℕ) → dead z ≡ false → dead a ≡ true → mem a (line_of s.bearer z) ≡ false)
      (store : f.medium.Store) (up : s.up ≡ true) (calm : is_calm f.medium store ≡ true) where
    shallow_left : (t : ℕ) → Is (dead t) → depth_in (cond (dead t) free (s.bearer t)) ≤ f.geometry.depth_limit
    unfolding depth_in
    shallow_left t (yes' d) = rw d (omega arith)
    shallow_left t (no' d) = rw d (S.shallow t)

    sound_left : (held retained : Modes) (version : Versions) → Owned (λ j. cond (dead j) [] (line_of s.bearer j)) held retained version → From s.version version
        → ((r t : ℕ) → is_some (f.medium.pending store r) ≡ true → has is_lock held retained r t ≡ false)
        → Sound f (record { up = s.up; bearer = λ j. cond (dead j) free (s.bearer j); held = held; retained = retained; version = version; store = store })
    sound_left held retained version L from spared = sound_of (record {
      tree = ended_rooted (rooted_of S) dead closed;
      shallow = λ t. shallow_left t (is_cases (dead t));
      owned = subst⁻¹ (λ (l : Lines). Owned l held retained version) (fun_ext (ended_line (rooted_of S) dead closed)) L;
      ranged = from_ranged version from;
      paged = from_paged version from;
      idle = λ t e. clash up e;
      calm = λ e. calm;
      reserved = spared;
    })

    pub sound_ended : ((r t : ℕ) → is_some (f.medium.pending store r) ≡ true → dead t ≡ false → has is_lock s.held s.retained r t ≡ false) → Sound f (ended s dead store)
    unfolding ended
    sound_ended spared = sound_left _ _ _ (ended_owned (owned_of S) dead) (dropped_from dead s.version) (λ r t e. rw (
      free_discarded dead s.held r t (λ d. or_false_left _ (is_lock (s.retained r t)) (spared r t e d)),
      free_discarded dead s.retained r t (λ d. or_false_right (is_lock (s.held r t)) _ (spared r t e d)),
    ))

  -- an abort: x ends with all beneath it, and its parent has the report
  module _ (x : ℕ) (up : s.up ≡ true) where
    abbrev dead : ℕ → Bool
    dead j = mem x (line_of s.bearer j)

    abbrev OwnedBy : Modes → Type 0
    OwnedBy retained = Owned (λ j. cond (dead j) [] (line_of s.bearer j)) (discarded dead s.held) (discarded dead retained) (dropped dead s.version)

    reported_owned : (w : Bool) (l : List ℕ) → line_of s.bearer x ≡ l → OwnedBy (reported x w l s.held s.retained)
    unfolding reported
    reported_owned false l q = ended_owned (owned_of S) dead
    reported_owned true [] q = ended_owned (owned_of S) dead
    reported_owned true (a ∷ []) q = ended_owned (owned_of S) dead
    reported_owned true (a ∷ y ∷ l) q = let C = child_line S x a y l q in report_owned (owned_of S) dead x y (λ z n. n) C.under C.own_line

    -- a report gives nobody what is reserved
    free_reported : (w : Bool) (l : List ℕ) (r : ℕ) → ((t : ℕ) → has is_lock s.held s.retained r t ≡ false) → (j : ℕ) → is_lock (reported x w l s.held s.retained r j) ≡ false
    unfolding reported
    free_reported false l r h j = or_false_right (is_lock (s.held r j)) _ (h j)
    free_reported true [] r h j = or_false_right (is_lock (s.held r j)) _ (h j)
    free_reported true (a ∷ []) r h j = or_false_right (is_lock (s.held r j)) _ (h j)
    free_reported true (a ∷ y ∷ l) r h j = free_inherited x y r s.held s.retained h j

    pub sound_aborted : (w : Bool) → Sound f (aborted s x w (line_of s.bearer x))
    unfolding aborted retaining ended
    sound_aborted w = sound_left dead (beneath_closed S x) s.store up (S.calm up) _ _ _ (reported_owned w (line_of s.bearer x) refl) (dropped_from dead s.version) (λ r t e. rw (
      free_discarded dead s.held r t (λ d. or_false_left _ (is_lock (s.retained r t)) (unlocked S r t e)),
      free_discarded dead (reported x w (line_of s.bearer x) s.held s.retained) r t (λ d. free_reported w (line_of s.bearer x) r (λ u. unlocked S r u e) t),
    ))

  -- a commit: x, with no live child, ends alone
  module _ (x : ℕ) (ok : CommitOk s x) where
    leaf : Leaf s.bearer x
    leaf = no_child S x ok.childless

    pub alone_closed : (z a : ℕ) → same z x ≡ false → same a x ≡ true → mem a (line_of s.bearer z) ≡ false
    alone_closed z a n k = rw (same-eq a x k) (leaf z (λ q. clash (same_refl x) (rw q at n)))

    -- into its parent y
    pub sound_passed : (y : ℕ) → ChildOf s.bearer x y → Sound f (ended (passed s x y) (λ j. same j x) s.store)
    unfolding ended passed
    sound_passed y under =
        sound_left (λ j. same j x) alone_closed s.store ok.up (S.calm ok.up) _ _ _
        (child_owned (owned_of S) (λ j. same j x) x y (λ z n. alone_closed z x n (same_refl x)) under.under under.own_line)
        (λ t r p e. let a = dropped_from (λ j. same j x) (handed_up x y s.version) t r p e in handed_from x y s.version a.0 r p a.1)
        (λ r t e. rw (
          free_discarded (λ j. same j x) s.held r t (λ d. or_false_left _ (is_lock (s.retained r t)) (unlocked S r t e)),
          free_discarded (λ j. same j x) (inherited x y s.held s.retained) r t (λ d. free_inherited x y r s.held s.retained (λ u. unlocked S r u e) t),
        ))

    -- of a top transaction, over what the page writes left
    sound_top : (c : Cut f.medium.Store) → (c.crashed ≡ false → is_calm f.medium c.store ≡ true)
        → (c.crashed ≡ false → (r t : ℕ) → is_some (f.medium.pending c.store r) ≡ true → t ≢ x → has is_lock s.held s.retained r t ≡ false) → Sound f (commits_top f s x c).state
    unfolding commits_top concluded
    sound_top c whole spared = go c.crashed refl
      where
        go : (b : Bool) → c.crashed ≡ b → Sound f (concluded (ended s (λ j. same j x) c.store) c b).state
        go true e = sound_down f c.store
        go false e = sound_ended (λ j. same j x) alone_closed c.store ok.up (whole e) (λ r t p d. spared e r t p (λ q. clash (same_refl x) (rw q at d)))

    -- nobody else has a lock of what a top transaction changed
    pub sole_lock : (a : ℕ) → line_of s.bearer x ≡ a ∷ [] → (r t : ℕ) → is_some (s.version x r) ≡ true → t ≢ x → has is_lock s.held s.retained r t ≡ false
    unfolding mem
    sole_lock a q r t v n = refute (has is_lock s.held s.retained r t) (λ h.
        or_cases (mem x (line_of s.bearer t)) (mem t (line_of s.bearer x)) ((owned_of S).in_line_lem r x t ((owned_of S).by_lock x r v) h)
        (λ e. clash e (leaf t n)) (λ e. clash e (rw (top_line S x a q, ne_false t x n))))

module _ (f : Form) (M : MediumLaws f.geometry f.medium) {s : StateOf f} (S : Sound f s) (shaped : M.Shaped s.store) where
  commit_free : (x k : ℕ) → is_clear f.geometry f.medium s.store (s.version x) ≡ true → (r t : ℕ)
      → is_some (f.medium.pending (f.medium.commit s.store (s.version x) k).store r) ≡ true → has is_lock s.held s.retained r t ≡ false
  commit_free x k clear r t e = unlocked S r t (sym (ap is_some ((M.commit_unmoved s.store (s.version x) k clear).same_pending r)) ∙ e)

  pub sound_commits : (x k : ℕ) → CommitOk s x → (l : List ℕ) → line_of s.bearer x ≡ l → (is_top l ≡ true → (changes f s x && busy f s) ≡ false) → Sound f (commits f s x k l).state
  unfolding commits commits_child finished is_top
  sound_commits x k ok [] q h =
      let clear = clear_of f s x (S.calm ok.up) (h refl) in
      sound_top S x ok (f.medium.commit s.store (s.version x) k) (λ e. (M.commit_whole s.store (s.version x) k (S.calm ok.up) clear e).0) (λ e r t p n. commit_free x k clear r t p)
  sound_commits x k ok (a ∷ []) q h =
      let clear = clear_of f s x (S.calm ok.up) (h refl) in
      sound_top S x ok (f.medium.commit s.store (s.version x) k) (λ e. (M.commit_whole s.store (s.version x) k (S.calm ok.up) clear e).0) (λ e r t p n. commit_free x k clear r t p)
  sound_commits x k ok (a ∷ y ∷ l) q h = sound_passed S x ok y (child_line S x a y l q)

  -- a prepare: what it changed is reserved then, and nobody else has a lock of that
  pub sound_prepares : (x k i : ℕ) → PrepareOk f s x → f.geometry.joint ≡ true → i < 256 → Sound f (commits_top f s x (f.medium.prepare s.store (s.version x) i k)).state
  sound_prepares x k i ok on short =
      sound_top S x ok.as_commit (f.medium.prepare s.store (s.version x) i k) (λ e. M.prepare_calm s.store (s.version x) i k (S.calm ok.as_commit.up) on short e)
      (λ e r t p n. spared e r t p n (same_cases (changed_in f.geometry (s.version x)) 0))
    where
      line_top : (l : List ℕ) → line_of s.bearer x ≡ l → is_top l ≡ true → (a : ℕ) × (line_of s.bearer x ≡ a ∷ [])
      line_top [] q h = clash ok.as_commit.alive (live_line S x ∙ ap is_cons q)
      line_top (a ∷ []) q h = (a, q)
      line_top (a ∷ y ∷ l) q h = absurd (false≢true (unfold is_top in h))

      top : (a : ℕ) × (line_of s.bearer x ≡ a ∷ [])
      top = line_top (line_of s.bearer x) refl ok.top

      spared : (f.medium.prepare s.store (s.version x) i k).crashed ≡ false → (r t : ℕ) → is_some (f.medium.pending (f.medium.prepare s.store (s.version x) i k).store r) ≡ true → t ≢ x
          → Same (changed_in f.geometry (s.version x)) 0 → has is_lock s.held s.retained r t ≡ false
      spared e r t p n (is z _ _) = unlocked S r t (sym (ap (λ (d : f.medium.Store). is_some (f.medium.pending d r)) (M.prepare_none s.store (s.version x) i k z).0) ∙ p)
      spared e r t p n (isnt z _ _) =
          let T = M.prepare_taken s.store (s.version x) i k (S.ranged x) on short (omega (arith, z)) e in
          sole_lock S x ok.as_commit top.0 top.1 r t (sym (ap is_some (T.1 r)) ∙ p) n

  -- up over what page writes left, if that is calm and nobody has a lock of what is reserved then
  sound_raised : (c : Cut f.medium.Store) → (c.crashed ≡ false → is_calm f.medium c.store ≡ true)
      → (c.crashed ≡ false → (r t : ℕ) → is_some (f.medium.pending c.store r) ≡ true → has is_lock s.held s.retained r t ≡ false) → Sound f (recovers f s c).state
  unfolding recovers concluded raised live
  sound_raised c calm spared = go c.crashed refl
    where
      go : (b : Bool) → c.crashed ≡ b → Sound f (concluded (raised s c.store) c b).state
      go true e = sound_down f c.store
      go false e = sound_of (record {
        tree = rooted_of S;
        shallow = S.shallow;
        owned = owned_of S;
        ranged = S.ranged;
        paged = S.paged;
        idle = λ t q. absurd (true≢false q);
        calm = λ q. calm e;
        reserved = spared e;
      })

  pub sound_recovers : (k : ℕ) → RecoverOk f s → Sound f (recovers f s (f.medium.recover s.store k)).state
  sound_recovers k ok =
      sound_raised (f.medium.recover s.store k) (λ e. M.recover_whole s.store k ok.whole e)
      (λ e r t p. refute (has is_lock s.held s.retained r t) (λ h. clash (has_live S r t h) (S.idle t ok.down)))

  pub sound_decides : (d : Bool) (k i : ℕ) (b : Bool) → is_for i (f.medium.prepared s.store) ≡ b → Sound f (decides f s d k b).state
  unfolding decides finished is_calm is_some
  sound_decides d k i false q = S
  sound_decides d k i true q =
      let here = for_some i (f.medium.prepared s.store) q in
      let c = f.medium.decide s.store d k in
      let freed : c.crashed ≡ false → f.medium.prepared c.store ≡ none = λ e. M.emptied_free c.store (M.decide_whole s.store d k i here e).0 in
      sound_raised c (λ e. or_left (f.medium.emptied c.store) _ (M.decide_whole s.store d k i here e).0)
      (λ e r t p. absurd (false≢true (sym (ap is_some (M.free_pending c.store r (freed e))) ∙ p)))

  -- what is visible is a page
  pub visible_paged : (t r : ℕ) → r < records f.geometry → length (visible f s t r) ≡ page_size
  unfolding visible
  visible_paged t r small = nearest_paged s.version (f.medium.home s.store r) r (line_of s.bearer t) (λ j p e. S.paged j r p e) (M.shaped_home s.store r shaped small)

  pub sound_act : (e : Event) → fits f.geometry e ≡ true → refusal f s e ≡ none → Sound f (act f s e).state
  unfolding act finished fits
  sound_act (begin p) h q = sound_begun S p (begin_ok f s p q)
  sound_act (lock t r a) h q = sound_locked S t r a (lock_ok f s t r a q) (lock_free f s t r a q)
  sound_act (write t r o v) h q =
      let small = write_record f.geometry t r o v h in
      sound_wrote S t r (set (visible f s t r) o v) (write_ok f s t r o v q) small (length-set (visible f s t r) o v ∙ visible_paged t r small)
  sound_act (read t r o) h q = S
  sound_act (commit t k) h q = sound_commits t k (commit_ok f s t k q) (line_of s.bearer t) refl (commit_clear f s t k q)
  sound_act (abort t w) h q = sound_aborted S t (abort_ok f s t w q).up w
  sound_act crash h q = sound_down f s.store
  sound_act (recover k) h q = sound_recovers k (recover_ok f s k q)
  sound_act (prepare t k i) h q = let a = prepare_fits f.geometry t k i h in sound_prepares t k i (prepare_ok f s t k i q) a.0 a.1
  sound_act (decide d k i) h q = sound_decides d k i (is_for i (f.medium.prepared s.store)) refl
  sound_act (query i) h q = S

  -- one event
  pub sound_step : (e : Event) → fits f.geometry e ≡ true → Sound f (step f s (some e)).state
  sound_step e h = go (judge_cases f s e)
    where
      go : Judged f s e → Sound f (step f s (some e)).state
      go (acts q k) = rw k (sound_act e h q)
      go (refuses n q k) = rw k S

  -- a bad event
  pub sound_bad : Sound f (step f s none).state
  unfolding step
  sound_bad = S

-- a list of words
module _ (f : Form) (M : MediumLaws f.geometry f.medium) where
  -- what all states that a run reaches have in common
  pub record Reached (s : StateOf f) : Type 0 where
    pub sound : Sound f s
    pub shaped : M.Shaped s.store

  pub reached_start : (bs : List ℕ) → length bs ≡ f.medium.size → Reached (down (f.medium.from_bytes bs))
  unfolding down
  reached_start bs e = record { sound = sound_down f (f.medium.from_bytes bs); shaped = M.shaped_from bs e }

  pub reached_word : {s : StateOf f} → Reached s → (w : ℕ) → Reached (step f s (decode f.geometry w)).state
  reached_word {s} R w = go (decode f.geometry w) refl
    where
      go : (o : Option Event) → decode f.geometry w ≡ o → Reached (step f s o).state
      go none q = record { sound = sound_bad f M R.sound R.shaped; shaped = shaped_bad f M R.sound R.shaped }
      go (some e) q = record { sound = sound_step f M R.sound R.shaped e (decode_fits f.geometry w e q); shaped = shaped_step f M R.sound R.shaped e }

  pub reached_play : (s : StateOf f) → Reached s → (ws : List ℕ) → Reached (play f s ws).state
  unfolding play
  reached_play s R [] = R
  reached_play s R (w ∷ ws) = reached_play (step f s (decode f.geometry w)).state (reached_word R w) ws

  -- every state that a list of words reaches from a start is sound
  pub sound_play : (bs : List ℕ) → length bs ≡ f.medium.size → (ws : List ℕ) → Sound f (play f (down (f.medium.from_bytes bs)) ws).state
  sound_play bs e ws = (reached_play (down (f.medium.from_bytes bs)) (reached_start bs e) ws).sound
