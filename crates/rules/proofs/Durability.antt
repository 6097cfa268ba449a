-- What the stable store promises, for readers. Of every medium: a commit settles all its versions or none wherever it is cut, and recovery cut any number of
-- times changes no settled record. Of atomic pages: neither damages the commit page, and how many page writes each takes.
use mathlib.Core.Path.{◌≡◌, refl, sym, ◌∙◌, ap}
use mathlib.Core.Bool.{true, false, cond, true≢false}
use mathlib.Core.List.{List, [], ◌∷◌}
use mathlib.Core.Option.{Option, some}
use Prim.Native.Nat.{ℕ, zero, suc, ◌+◌, ◌*◌, ◌<◌}
use native.Mathlib.Omega.{arith}
use Rattle.laws.specs.Tests.{same, under}
use Rattle.laws.specs.Counting.{count}
use Rattle.laws.proofs.Tests.{ne_false, Is, is_cases, yes', no', under-lt}
use Rattle.laws.proofs.Booleans.{or_left}
use Rattle.rules.specs.Geometry.{Geometry, Proper, records}
use Rattle.rules.specs.Store.{Page, Pages, damaged, Prepared, read_prepared, is_reserved}
use Rattle.rules.specs.Versions.{else}
use Rattle.rules.specs.Commit.{Cut, commit_at, recover_at, prepare_at, decide_at}
use Rattle.rules.specs.Form.{Medium, atomic_pages}
use Rattle.rules.proofs.Medium.{changed_in, stored, Ranged, is_clear, MediumLaws}
use Rattle.rules.proofs.Map.{map_of-lt}
use Rattle.rules.proofs.Cuts.{commit_due, recover_due, broken, commit_readable, recover_readable}
use Rattle.rules.proofs.AtomicCommits.{made_of, named_in, commit_made, commit_crashed, commit_page, recover_made, recover_crashed, recover_page}
use Rattle.rules.proofs.Prepares.{prepare_due, ruled, ruled-count, commits_first, commits_then, aborts_first, aborts_then}
use Rattle.rules.proofs.AtomicPrepares.{prepare_made, prepare_crashed}
use Rattle.rules.proofs.Uncut.{reserved_in, some-reserved}

-- made of a list of writes that was cut, or wasn't
cut_made : (k due : ℕ) → under k due ≡ true → (made_of k due ≡ k) × (k < due)
unfolding made_of
cut_made k due e = (rw e, under-lt k due e)

whole_made : (k due : ℕ) → under k due ≡ false → made_of k due ≡ due
unfolding made_of
whole_made k due e = rw e

-- recoveries one after another, each cut at its place
unfoldable pub recoveries : (m : Medium) → m.Store → List ℕ → m.Store
recoveries m s [] = s
recoveries m s (k ∷ ks) = recoveries m (m.recover s k).store ks

module _ {g : Geometry} {m : Medium} (laws : MediumLaws g m) where
  -- recoveries, however many and wherever each is cut, change no settled record
  pub recoveries_keep : (s : m.Store) (ks : List ℕ) (r : ℕ) → m.settled (recoveries m s ks) r ≡ m.settled s r
  unfolding recoveries
  recoveries_keep s [] r = refl
  recoveries_keep s (k ∷ ks) r = recoveries_keep (m.recover s k).store ks r ∙ laws.recover_settled s k r

  -- A commit settles all its versions or none, wherever it is cut, and so it stays through any recoveries: all, where as many page writes were made as the
  -- intention pages and the commit record take.
  pub commit_all_or_none : (s : m.Store) (v : ℕ → Option Page) (k : ℕ) (ks : List ℕ) → m.emptied s ≡ true → Ranged g v → (r : ℕ)
      → m.settled (recoveries m (m.commit s v k).store ks) r ≡ cond (stored (changed_in g v) (m.commit s v k).made) (else (v r) (m.settled s r)) (m.settled s r)
  unfolding is_clear
  commit_all_or_none s v k ks empty ranged r = recoveries_keep (m.commit s v k).store ks r ∙ go (is_cases (stored (changed_in g v) (m.commit s v k).made))
    where
      go : Is (stored (changed_in g v) (m.commit s v k).made)
          → m.settled (m.commit s v k).store r ≡ cond (stored (changed_in g v) (m.commit s v k).made) (else (v r) (m.settled s r)) (m.settled s r)
      go (yes' q) = rw q (laws.commit_kept s v k r (or_left (m.emptied s) _ empty) ranged q)
      go (no' q) = rw q (laws.commit_lost s v k r (or_left (m.emptied s) _ empty) q)

module _ (g : Geometry) where
  -- a commit that changes n records and is not cut takes 2n + 2 page writes, or none for no record
  pub commit_due_lem : (s : Pages) (v : ℕ → Option Page) (k : ℕ) → (commit_at g s v k).crashed ≡ false
      → (commit_at g s v k).made ≡ cond (same (changed_in g v) 0) 0 (2 * changed_in g v + 2)
  unfolding commit_due
  commit_due_lem s v k e = commit_made g s v k ∙ whole_made k (commit_due (changed_in g v)) (sym (commit_crashed g s v k) ∙ e)

  -- one that is cut at k makes exactly k, fewer than it should
  pub commit_cut : (s : Pages) (v : ℕ → Option Page) (k : ℕ) → (commit_at g s v k).crashed ≡ true
      → ((commit_at g s v k).made ≡ k) × (k < cond (same (changed_in g v) 0) 0 (2 * changed_in g v + 2))
  unfolding commit_due
  commit_cut s v k e =
      let c = cut_made k (commit_due (changed_in g v)) (sym (commit_crashed g s v k) ∙ e) in (commit_made g s v k ∙ c.0, c.1)

  -- a recovery over a commit page that names c records and is not cut takes c + 1 page writes, or none for no record
  pub recover_due_lem : (s : Pages) (k : ℕ) → (recover_at g s k).crashed ≡ false → (recover_at g s k).made ≡ cond (same (named_in g s) 0) 0 (named_in g s + 1)
  unfolding recover_due
  recover_due_lem s k e = recover_made g s k ∙ whole_made k (recover_due (named_in g s)) (sym (recover_crashed g s k) ∙ e)

  pub recover_cut : (s : Pages) (k : ℕ) → (recover_at g s k).crashed ≡ true → ((recover_at g s k).made ≡ k) × (k < cond (same (named_in g s) 0) 0 (named_in g s + 1))
  unfolding recover_due
  recover_cut s k e =
      let c = cut_made k (recover_due (named_in g s)) (sym (recover_crashed g s k) ∙ e) in (recover_made g s k ∙ c.0, c.1)

  module _ (proper : Proper g) where
    -- a prepare of n records that is not cut takes n + 1 page writes, or none for no record; one that is cut at k makes exactly k, fewer than it should
    pub prepare_due_lem : (s : Pages) (v : ℕ → Option Page) (i k : ℕ) → (prepare_at g s v i k).crashed ≡ false
        → (prepare_at g s v i k).made ≡ cond (same (changed_in g v) 0) 0 (changed_in g v + 1)
    unfolding prepare_due
    prepare_due_lem s v i k e = prepare_made g proper s v i k ∙ whole_made k (prepare_due (changed_in g v)) (sym (prepare_crashed g proper s v i k) ∙ e)

    pub prepare_cut : (s : Pages) (v : ℕ → Option Page) (i k : ℕ) → (prepare_at g s v i k).crashed ≡ true
        → ((prepare_at g s v i k).made ≡ k) × (k < cond (same (changed_in g v) 0) 0 (changed_in g v + 1))
    unfolding prepare_due
    prepare_cut s v i k e =
        let c = cut_made k (prepare_due (changed_in g v)) (sym (prepare_crashed g proper s v i k) ∙ e) in (prepare_made g proper s v i k ∙ c.0, c.1)

    -- a decision on n records that is not cut takes n + 2 page writes to commit, 1 to abort
    module _ (s : Pages) (p : Prepared) (here : read_prepared g (s 0) ≡ some p) where
      pub commit_decision_due : (k : ℕ) → (decide_at g s true k).crashed ≡ false → (decide_at g s true k).made ≡ reserved_in g s + 2
      unfolding reserved_in named_in recover_due
      commit_decision_due zero e = absurd (true≢false (sym (ap (λ (c : Cut Pages). c.crashed) (commits_first g proper s p here)) ∙ e))
      commit_decision_due (suc k) e =
          let x = ruled g proper s p here in
          let q = commits_then g proper s p here k in
          let d = recover_due_lem x k (sym (ap (λ (c : Cut Pages). c.crashed) q) ∙ e) in
          ap (λ (c : Cut Pages). c.made) q
          ∙ ap suc (d ∙ ap (λ (m : ℕ). cond (same m 0) 0 (m + 1)) (ruled-count g proper s p here) ∙ rw (ne_false (count (records g) (is_reserved g s)) 0 (some-reserved g proper s p here)))
          ∙ more (count (records g) (is_reserved g s))
        where
          more : (m : ℕ) → suc (m + 1) ≡ m + 2
          more m = omega arith

      pub abort_decision_due : (k : ℕ) → (decide_at g s false k).crashed ≡ false → (decide_at g s false k).made ≡ 1
      abort_decision_due zero e = absurd (true≢false (sym (ap (λ (c : Cut Pages). c.crashed) (aborts_first g proper s p here)) ∙ e))
      abort_decision_due (suc k) e = ap (λ (c : Cut Pages). c.made) (aborts_then g proper s p here k)

    -- a recovery leaves a commit page that can be read, wherever it is cut, and so do many
    pub recover_sound : (s : Pages) (k : ℕ) → damaged g s ≡ false → damaged g (recover_at g s k).store ≡ false
    unfolding damaged broken
    recover_sound s k e = ap (broken g) (recover_page g s k) ∙ recover_readable g proper k _ (s 0) e

    pub recoveries_sound : (s : Pages) (ks : List ℕ) → damaged g s ≡ false → damaged g (recoveries (atomic_pages g) s ks) ≡ false
    unfolding recoveries
    recoveries_sound s [] e = e
    recoveries_sound s (k ∷ ks) e = recoveries_sound (recover_at g s k).store ks (recover_sound s k e)

    -- a commit leaves a commit page that can be read, wherever it is cut
    pub commit_sound : (s : Pages) (v : ℕ → Option Page) (k : ℕ) → damaged g s ≡ false → damaged g (commit_at g s v k).store ≡ false
    unfolding damaged broken
    commit_sound s v k e = ap (broken g) (commit_page g s v k) ∙ commit_readable g proper k _ (map_of-lt g _) _ (s 0) e
