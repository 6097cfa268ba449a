-- The central law at each prefix of a list, and what is settled after crashes and recoveries.
use mathlib.Core.Path.{◌≡◌, refl, sym, ap, ◌∙◌}
use mathlib.Core.Bool.{Bool, true, false, false≢true}
use mathlib.Core.List.{List, [], ◌∷◌, append-nil}
use mathlib.Core.Option.{Option, none, some}
use Prim.Native.Nat.{ℕ}
use lib.ListN.{length}
use Rattle.laws.specs.Tests.{same}
use Rattle.laws.proofs.Booleans.{and_left, and_right, clash}
use Rattle.laws.proofs.Tests.{Is, is_cases, yes', no'}
use Rattle.rules.specs.Geometry.{records}
use Rattle.rules.specs.Store.{Page}
use Rattle.rules.specs.Event.{Event, begin, lock, write, read, commit, abort, crash, recover, prepare, decide, query, decode}
use Rattle.rules.specs.State.{line_of, live, down}
use Rattle.rules.specs.Versions.{is_some}
use Rattle.rules.specs.Commit.{Cut}
use Rattle.rules.specs.Form.{Form}
use Rattle.rules.specs.Step.{StateOf, raised, concluded, finished, visible, recovers, act, step}
use Rattle.rules.specs.Run.{answer_bytes, play}
use Rattle.rules.proofs.Medium.{MediumLaws}
use Rattle.rules.proofs.Acceptance.{Judged, acts, refuses, judge_cases}
use Rattle.rules.proofs.Locks.{rooted_of, tree_of}
use Rattle.rules.proofs.Soundness.{Reached, reached_start, reached_play}
use Rattle.rules.proofs.Portions.{play-append}
use Rattle.history.specs.History.{History, stands_with, writes_to, overlaid}
use Rattle.history.specs.Demand3.{rows, settled_in, start_of}
use Rattle.history.specs.Claims.{seen_by, is_restart, restarts, state_after, rows_after, history_after, ReadsOverlay, CommitSurvives}
use Rattle.history.proofs.Overlay.{overlaid_pick, writes_to-pick}
use Rattle.history.proofs.Roots.{Root}
use Rattle.history.proofs.Data.{reads_is}
use Rattle.history.proofs.Table.{stands_is, seen_is}
use Rattle.history.proofs.Invariant.{now, Holds, After}
use Rattle.history.proofs.Runs.{step_of, rows_from, rows_are, future, run_after, settled_is}
use Rattle.history.proofs.Starts.{start_root, start_holds}

-- the rows of a list, from its answers
pub rows_played : (f : Form) (s : StateOf f) (ws : List ℕ) → rows ws (answer_bytes (play f s ws).answers) ≡ rows_from f s ws
rows_played f s ws = ap (rows ws) (sym (append-nil (answer_bytes (play f s ws).answers))) ∙ rows_are f s ws []

-- a recovery leaves the store that its page writes left, cut or not
after_cut : (f : Form) (s : StateOf f) (c : Cut f.medium.Store) (b : Bool) (r : ℕ) → now f (concluded (raised s c.store) c b).state r ≡ f.medium.settled c.store r
unfolding concluded raised down
after_cut f s c true r = refl
after_cut f s c false r = refl

module _ (f : Form) (M : MediumLaws f.geometry f.medium) where
  -- what holds of a reached state with what the history tells
  module _ {start : ℕ → Page} {s : StateOf f} {h : History} {root : ℕ → Root} (R : Reached f M s) (H : Holds f start s h root) where
    is_up : (t : ℕ) → live s t ≡ true → s.up ≡ true
    is_up t e = go (is_cases s.up)
      where
        go : Is s.up → s.up ≡ true
        go (yes' u) = u
        go (no' u) = clash e (R.sound.idle t u)

    reads_of : (t r : ℕ) → live s t ≡ true → visible f s t r ≡ overlaid (seen_by h t) r h.writes (start r)
    unfolding visible live seen_by
    reads_of t r e = rw (M.home_settled s.store r (R.sound.calm (is_up t e)))
        (reads_is H.data' r (line_of s.bearer t) ((tree_of R.sound).good t) ∙ overlaid_pick r h.writes (start r) (λ i. seen_is (rooted_of R.sound) H.table t i e))

    versions_of : (t r : ℕ) → live s t ≡ true → is_some (s.version t r) ≡ writes_to (λ i. same (stands_with h i) (h.bearer t)) r h.writes
    unfolding live
    versions_of t r e = H.data'.on_wrote t r ∙ writes_to-pick r h.writes (λ i. sym (stands_is H.table t i e))

  module _ (store ws : List ℕ) (sized : length store ≡ f.medium.size) where
    abbrev s₀ : StateOf f
    s₀ = down (f.medium.from_bytes store)

    ran : After f (settled_in f store) (state_after f store ws) (start_of f store) (history_after f store ws) (start_root (records f.geometry) (f.medium.pending (f.medium.from_bytes store))) (future f s₀ ws)
    unfolding settled_in state_after rows_after history_after start_of
    ran = rw (rows_played f s₀ ws) (run_after f M ws (reached_start f M store sized) (start_holds f M (f.medium.from_bytes store)))

    reached : Reached f M (state_after f store ws)
    unfolding state_after
    reached = reached_play f M s₀ (reached_start f M store sized) ws

    -- THE CENTRAL LAW
    pub reads_overlay : ReadsOverlay f store ws
    reads_overlay = record {
      reads = reads_of reached ran.tells;
      versions = versions_of reached ran.tells;
      settles = settled_is f M (state_after f store ws) ran.tells;
    }

  -- a crash and a recovery leave the settled records alone
  act_settled : (s : StateOf f) (e : Event) → is_restart (some e) ≡ true → (r : ℕ) → now f (act f s e).state r ≡ now f s r
  unfolding is_restart act finished down recovers
  act_settled s (begin p) k r = absurd (false≢true k)
  act_settled s (lock t q a) k r = absurd (false≢true k)
  act_settled s (write t q o v) k r = absurd (false≢true k)
  act_settled s (read t q o) k r = absurd (false≢true k)
  act_settled s (commit t n) k r = absurd (false≢true k)
  act_settled s (abort t w) k r = absurd (false≢true k)
  act_settled s (prepare t n i) k r = absurd (false≢true k)
  act_settled s (decide d n i) k r = absurd (false≢true k)
  act_settled s (query i) k r = absurd (false≢true k)
  act_settled s crash k r = refl
  act_settled s (recover n) k r = go (f.medium.recover s.store n).crashed
    where
      go : (b : Bool) → now f (concluded (raised s (f.medium.recover s.store n).store) (f.medium.recover s.store n) b).state r ≡ now f s r
      go b = after_cut f s (f.medium.recover s.store n) b r ∙ M.recover_settled s.store n r

  restart_settled : (s : StateOf f) (e : Option Event) → is_restart e ≡ true → (r : ℕ) → now f (step f s e).state r ≡ now f s r
  unfolding step is_restart
  restart_settled s none k r = refl
  restart_settled s (some e) k r = go (judge_cases f s e)
    where
      go : Judged f s e → now f (step f s (some e)).state r ≡ now f s r
      go (acts q z) = rw z (act_settled s e k r)
      go (refuses n q z) = rw z

  pub restarts_settled : (s : StateOf f) (more : List ℕ) → restarts f.geometry more ≡ true → (r : ℕ) → now f (play f s more).state r ≡ now f s r
  unfolding play restarts
  restarts_settled s [] k r = refl
  restarts_settled s (w ∷ more) k r =
      restarts_settled (step_of f s w).state more (and_right (is_restart (decode f.geometry w)) (restarts f.geometry more) k) r
      ∙ restart_settled s (decode f.geometry w) (and_left (is_restart (decode f.geometry w)) (restarts f.geometry more) k) r

  pub commit_survives : (store ws more : List ℕ) → length store ≡ f.medium.size → CommitSurvives f store ws more
  unfolding CommitSurvives state_after
  commit_survives store ws more sized k r =
      ap (λ (s : StateOf f). now f s r) (play-append f (down (f.medium.from_bytes store)) ws more).state
      ∙ restarts_settled (play f (down (f.medium.from_bytes store)) ws).state more k r
      ∙ (reads_overlay store ws sized).settles r
