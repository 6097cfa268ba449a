-- The rules' outcome of each kind of event, from the tests that decide it.
use mathlib.Core.Path.{◌≡◌, refl}
use mathlib.Core.Bool.{Bool, true, false, not, cond, ◌&&◌, ◌||◌}
use mathlib.Core.Logic.{◌≢◌}
use mathlib.Core.Option.{none, some}
use Prim.Native.Nat.{ℕ, ◌<◌}
use native.Mathlib.Omega.{arith}
use lib.ListN.{get_or, set}
use Rattle.laws.specs.Tests.{same}
use Rattle.laws.specs.Counting.{all, lowest}
use Rattle.laws.proofs.Booleans.{not-false, not-true, refute, clash}
use Rattle.laws.proofs.Counting.{Lowest, found, missing, lowest_is, all_true_lem, all_of}
use Rattle.rules.specs.Geometry.{transactions, nobody}
use Rattle.rules.specs.Event.{Access, begin, lock, write, read, commit, abort, crash, recover, prepare, decide, query}
use Rattle.rules.specs.State.{line_of, depth_in, live, holds, holds_writing, down}
use Rattle.rules.specs.Locks.{grantable}
use Rattle.rules.specs.Form.{Form}
use Rattle.rules.specs.Step.{refused, StateOf, OutcomeOf, has_child, first_free, begun, locked, wrote, aborted, finished, visible, is_for, is_top, changes, busy, reserved, commits_top, commits, recovers, decides, first_of, refusals, refusal, act, outcome_by, step, open_step}

-- nothing is free where the lowest free number is the bound; else something is
pub full : (n : ℕ) (p : ℕ → Bool) → lowest n (λ u. not (p u)) ≡ n → all n p ≡ true
full n p e = go (lowest_is n (λ u. not (p u)))
  where
    go : Lowest n (λ u. not (p u)) 0 (lowest n (λ u. not (p u))) → all n p ≡ true
    go (found q h k) = absurd (omega arith)
    go (missing q k) = all_of n p (λ u h. not-false (p u) (k u (omega arith) (omega arith)))

pub not_full : (n : ℕ) (p : ℕ → Bool) → lowest n (λ u. not (p u)) ≢ n → (all n p ≡ false) × (p (lowest n (λ u. not (p u))) ≡ false) × (lowest n (λ u. not (p u)) < n)
not_full n p e = go (lowest_is n (λ u. not (p u)))
  where
    go : Lowest n (λ u. not (p u)) 0 (lowest n (λ u. not (p u))) → (all n p ≡ false) × (p (lowest n (λ u. not (p u))) ≡ false) × (lowest n (λ u. not (p u)) < n)
    go (found q h k) = let f = not-true _ q in (refute (all n p) (λ d. clash (all_true_lem n p _ d (omega arith)) f), f, omega arith)
    go (missing q k) = absurd (e (omega arith))

module _ (f : Form) (s : StateOf f) where
  abbrev no : ℕ → OutcomeOf f
  no n = record { state = s; answer = refused n }

  pub bad_refused : step f s none ≡ no 1
  unfolding open_step
  bad_refused = refl

  module _ (d : s.up ≡ false) where
    pub begin_down : (p : ℕ) → step f s (some (begin p)) ≡ no 2
    unfolding open_step
    begin_down p = rw d

    pub lock_down : (t r : ℕ) (a : Access) → step f s (some (lock t r a)) ≡ no 2
    unfolding open_step
    lock_down t r a = rw d

    pub write_down : (t r o v : ℕ) → step f s (some (write t r o v)) ≡ no 2
    unfolding open_step
    write_down t r o v = rw d

    pub read_down : (t r o : ℕ) → step f s (some (read t r o)) ≡ no 2
    unfolding open_step
    read_down t r o = rw d

    pub commit_down : (t k : ℕ) → step f s (some (commit t k)) ≡ no 2
    unfolding open_step
    commit_down t k = rw d

    pub prepare_down : (t k i : ℕ) → step f s (some (prepare t k i)) ≡ no 2
    unfolding open_step
    prepare_down t k i = rw d

    pub decide_down : (c : Bool) (k i : ℕ) → step f s (some (decide c k i)) ≡ no 2
    unfolding open_step
    decide_down c k i = rw d

    pub query_down : (i : ℕ) → step f s (some (query i)) ≡ no 2
    unfolding open_step
    query_down i = rw d

    pub abort_down : (t : ℕ) (w : Bool) → step f s (some (abort t w)) ≡ no 2
    unfolding open_step
    abort_down t w = rw d

  module _ (t : ℕ) (u : s.up ≡ true) (l : live s t ≡ false) where
    pub lock_unknown : (r : ℕ) (a : Access) → step f s (some (lock t r a)) ≡ no 5
    unfolding open_step
    lock_unknown r a = rw (l, u)

    pub write_unknown : (r o v : ℕ) → step f s (some (write t r o v)) ≡ no 5
    unfolding open_step
    write_unknown r o v = rw (l, u)

    pub read_unknown : (r o : ℕ) → step f s (some (read t r o)) ≡ no 5
    unfolding open_step
    read_unknown r o = rw (l, u)

    pub commit_unknown : (k : ℕ) → step f s (some (commit t k)) ≡ no 5
    unfolding open_step
    commit_unknown k = rw (l, u)

    pub prepare_unknown : (k i : ℕ) → step f s (some (prepare t k i)) ≡ no 5
    unfolding open_step
    prepare_unknown k i = rw (l, u)

    pub abort_unknown : (w : Bool) → step f s (some (abort t w)) ≡ no 5
    unfolding open_step
    abort_unknown w = rw (l, u)

  module _ (t : ℕ) (u : s.up ≡ true) (l : live s t ≡ true) (n : has_child s t ≡ false) where
    pub lock_done : (r : ℕ) (a : Access) → reserved f s r ≡ false → grantable a s.held s.retained (line_of s.bearer t) t r ≡ true → step f s (some (lock t r a)) ≡ finished (locked s t r a) 0
    unfolding step refusal refusals first_of act outcome_by
    lock_done r a open_to_lem g = rw (open_to_lem, l, n, g, u)

    pub lock_refused : (r : ℕ) (a : Access) → reserved f s r ≡ false → grantable a s.held s.retained (line_of s.bearer t) t r ≡ false → step f s (some (lock t r a)) ≡ no 8
    unfolding step refusal refusals first_of act outcome_by
    lock_refused r a open_to_lem g = rw (open_to_lem, l, n, g, u)

    -- a record that the prepared transaction changed
    pub lock_reserved : (r : ℕ) (a : Access) → reserved f s r ≡ true → step f s (some (lock t r a)) ≡ no 8
    unfolding step refusal refusals first_of act outcome_by
    lock_reserved r a e = rw (e, l, n, u)

    pub read_done : (r o : ℕ) → holds s r t ≡ true → step f s (some (read t r o)) ≡ finished s (get_or (visible f s t r) o 0)
    unfolding step refusal refusals first_of act outcome_by
    read_done r o h = rw (l, n, h, u)

    pub read_refused : (r o : ℕ) → holds s r t ≡ false → step f s (some (read t r o)) ≡ no 9
    unfolding step refusal refusals first_of act outcome_by
    read_refused r o h = rw (l, n, h, u)

    pub write_done : (r o v : ℕ) → holds_writing s r t ≡ true → step f s (some (write t r o v)) ≡ finished (wrote s t r (set (visible f s t r) o v)) 0
    unfolding step refusal refusals first_of act outcome_by
    write_done r o v h = rw (l, n, h, u)

    pub write_refused : (r o v : ℕ) → holds_writing s r t ≡ false → step f s (some (write t r o v)) ≡ no 9
    unfolding step refusal refusals first_of act outcome_by
    write_refused r o v h = rw (l, n, h, u)

  module _ (t : ℕ) (u : s.up ≡ true) (l : live s t ≡ true) where
    pub commit_done : (k : ℕ) → has_child s t ≡ false → (is_top (line_of s.bearer t) && (changes f s t && busy f s)) ≡ false → step f s (some (commit t k)) ≡ commits f s t k (line_of s.bearer t)
    unfolding step refusal refusals first_of act outcome_by
    commit_done k h c = rw (l, h, c, u)

    pub commit_busy : (k : ℕ) → has_child s t ≡ false → (is_top (line_of s.bearer t) && (changes f s t && busy f s)) ≡ true → step f s (some (commit t k)) ≡ no 13
    unfolding step refusal refusals first_of act outcome_by
    commit_busy k h c = rw (l, h, c, u)

    pub prepare_children : (k i : ℕ) → has_child s t ≡ true → step f s (some (prepare t k i)) ≡ no 10
    unfolding step refusal refusals first_of act outcome_by
    prepare_children k i h = rw (l, h, u)

    pub prepare_busy : (k i : ℕ) → has_child s t ≡ false → (changes f s t && busy f s) ≡ true → step f s (some (prepare t k i)) ≡ no 13
    unfolding step refusal refusals first_of act outcome_by
    prepare_busy k i h c = rw (l, h, c, u)

    pub prepare_beneath : (k i : ℕ) → has_child s t ≡ false → (changes f s t && busy f s) ≡ false → is_top (line_of s.bearer t) ≡ false → step f s (some (prepare t k i)) ≡ no 27
    unfolding step refusal refusals first_of act outcome_by
    prepare_beneath k i h c b = rw (l, h, c, b, u)

    pub prepare_done : (k i : ℕ) → has_child s t ≡ false → (changes f s t && busy f s) ≡ false → is_top (line_of s.bearer t) ≡ true
        → step f s (some (prepare t k i)) ≡ commits_top f s t (f.medium.prepare s.store (s.version t) i k)
    unfolding step refusal refusals first_of act outcome_by
    prepare_done k i h c b = rw (l, h, c, b, u)

    pub commit_refused : (k : ℕ) → has_child s t ≡ true → step f s (some (commit t k)) ≡ no 10
    unfolding step refusal refusals first_of act outcome_by
    commit_refused k h = rw (l, h, u)

    pub abort_done : (w : Bool) → step f s (some (abort t w)) ≡ finished (aborted s t w (line_of s.bearer t)) 0
    unfolding step refusal refusals first_of act outcome_by
    abort_done w = rw (l, u)

  module _ (p : ℕ) (u : s.up ≡ true) where
    pub begin_unknown : same p nobody ≡ false → live s p ≡ false → step f s (some (begin p)) ≡ no 5
    unfolding open_step
    begin_unknown a l = rw (a, l, u)

    pub begin_deep : (same p nobody || live s p) ≡ true → same (depth_in (s.bearer p)) f.geometry.depth_limit ≡ true → step f s (some (begin p)) ≡ no 6
    unfolding open_step
    begin_deep a d = rw (a, d, u)

    module _ (a : (same p nobody || live s p) ≡ true) (d : same (depth_in (s.bearer p)) f.geometry.depth_limit ≡ false) where
      pub begin_full : all transactions (live s) ≡ true → step f s (some (begin p)) ≡ no 7
      unfolding open_step
      begin_full h = rw (a, d, h, u)

      pub begin_done : all transactions (live s) ≡ false → step f s (some (begin p)) ≡ finished (begun s (first_free s) p) (first_free s)
      unfolding step refusal refusals first_of act outcome_by
      begin_done h = rw (a, d, h, u)

  pub decide_done : (d : Bool) (k i : ℕ) → s.up ≡ true → step f s (some (decide d k i)) ≡ decides f s d k (is_for i (f.medium.prepared s.store))
  unfolding step refusal refusals first_of act outcome_by
  decide_done d k i u = rw u

  pub query_done : (i : ℕ) → s.up ≡ true → step f s (some (query i)) ≡ finished s (cond (is_for i (f.medium.prepared s.store)) 1 0)
  unfolding step refusal refusals first_of act outcome_by
  query_done i u = rw u

  pub crash_done : step f s (some crash) ≡ finished (down s.store) 0
  unfolding open_step
  crash_done = refl

  pub recover_up : (k : ℕ) → s.up ≡ true → step f s (some (recover k)) ≡ no 3
  unfolding open_step
  recover_up k u = rw u

  pub recover_damaged : (k : ℕ) → s.up ≡ false → f.medium.damaged s.store ≡ true → step f s (some (recover k)) ≡ no 4
  unfolding open_step
  recover_damaged k u d = rw (d, u)

  pub recover_done : (k : ℕ) → s.up ≡ false → f.medium.damaged s.store ≡ false → step f s (some (recover k)) ≡ recovers f s (f.medium.recover s.store k)
  unfolding step refusal refusals first_of act outcome_by
  recover_done k u d = rw (d, u)
