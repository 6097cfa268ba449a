-- The plain engine: the answer that is due to the next event, found in the history alone. It keeps no version and no lock. What a transaction
-- reads, which records it has changed and who bars a lock is looked up among the accepted writes and locks, by what has become of the
-- transactions that made them.
use Rattle.std.specs.Prelude.{ℕ, zero, suc, Bool, true, false, not, cond, ◌&&◌, ◌||◌, List, [], ◌∷◌, get_or}
use Rattle.std.proofs.Math.Option.{Option, none, some}
use Rattle.laws.specs.Tests.{same}
use Rattle.laws.specs.Counting.{all, any, lowest}
use Rattle.laws.specs.Functions.{updated}
use Rattle.rules.specs.Geometry.{transactions, nobody}
use Rattle.rules.specs.Store.{Page}
use Rattle.rules.specs.Event.{Event, Access, begin, lock, write, read, commit, abort, crash, recover, prepare, decide, query}
use Rattle.rules.specs.State.{Mode, is_lock, is_writing}
use Rattle.rules.specs.Locks.{mode_for, bars}
use Rattle.rules.specs.Commit.{Cut}
use Rattle.rules.specs.Form.{Form}
use Rattle.rules.specs.Step.{Answer, done, refused, cut, first_of}
use Rattle.history.specs.History.{History, nothing_yet, is_within, is_bearing, stands_with, writes_to, overlaid, told}
use Rattle.history.specs.Claims.{seen_by}

-- an accepted lock: who asked, for which record, for what
pub record Grant : Type 0 where
  pub transaction : ℕ
  pub rec : ℕ
  pub access : Access

-- What the rows so far tell of locks: two links beside those of the history. Data goes up to the parent at a child's commit; locks go up at its
-- commit and at its abort with a report.
pub record Ledger : Type 0 where
  pub story : History
  -- by transaction: it ended so that its locks went up (from a top transaction they go to nobody)
  pub passed : ℕ → Bool
  -- the accepted locks, the newest first
  pub grants : List Grant
  pub up : Bool

unfoldable pub blank_ledger : Ledger
blank_ledger = record { story = nothing_yet; passed = λ i. false; grants = []; up = false }

-- from i, to the parent as long as the locks went up, n times at most
unfoldable pub rises : (ℕ → ℕ) → (ℕ → Bool) → ℕ → ℕ → ℕ
rises parent passed zero i = i
rises parent passed (suc n) i = cond (passed i) (rises parent passed n (parent i)) i

-- the transaction with which the locks of i stand
unfoldable pub locks_with : Ledger → ℕ → ℕ
locks_with l i = rises l.story.parent l.passed i i

-- number t is borne
unfoldable pub borne : History → ℕ → Bool
borne h t = not (same (h.bearer t) 0)

-- i and the transactions above it, n at most
unfoldable pub height : (ℕ → ℕ) → ℕ → ℕ → ℕ
height parent zero i = 0
height parent (suc n) i = cond (same i 0) 0 (suc (height parent n (parent i)))

unfoldable pub depth_of : History → ℕ → ℕ
depth_of h i = height h.parent i i

-- some live transaction's parent is i
unfoldable pub is_parent : History → ℕ → Bool
is_parent h i = any transactions (λ u. borne h u && same (h.parent (h.bearer u)) i)

-- some accepted lock of r in a mode that passes the test, by a transaction that p picks
unfoldable pub locks_of : (Mode → Bool) → (ℕ → Bool) → ℕ → List Grant → Bool
locks_of test p r [] = false
locks_of test p r (g ∷ gs) = (p g.transaction && (same g.rec r && test (mode_for g.access))) || locks_of test p r gs

-- A lock that i was granted stands in the way of another transaction: i still holds it and is another; or it has come up to a live
-- transaction, which retains it, and that one is neither the asker nor its ancestor.
unfoldable pub grant_blocks : Ledger → ℕ → ℕ → Bool
grant_blocks l asker i =
    let j : ℕ = locks_with l i in
    is_bearing (l.story.fate j) && not (cond (same j i) (same i asker) (is_within l.story j asker))

-- transaction i has changed r: a write of r stands with it
unfoldable pub has_changed : History → ℕ → ℕ → Bool
has_changed h i r = writes_to (λ k. same (stands_with h k) i) r h.writes

-- what becomes of the two links and of the accepted locks
unfoldable pub passed_by : History → (ℕ → Bool) → Event → ℕ → Bool
passed_by h passed (begin p) = passed
passed_by h passed (lock t r a) = passed
passed_by h passed (write t r o v) = passed
passed_by h passed (read t r o) = passed
passed_by h passed (commit t k) = updated (h.bearer t) true passed
passed_by h passed (abort t w) = updated (h.bearer t) w passed
passed_by h passed crash = passed
passed_by h passed (recover k) = passed
passed_by h passed (prepare t k i) = passed
passed_by h passed (decide d k i) = passed
passed_by h passed (query i) = passed

unfoldable pub grants_by : History → List Grant → Event → List Grant
grants_by h gs (begin p) = gs
grants_by h gs (lock t r a) = record { transaction = h.bearer t; rec = r; access = a } ∷ gs
grants_by h gs (write t r o v) = gs
grants_by h gs (read t r o) = gs
grants_by h gs (commit t k) = gs
grants_by h gs (abort t w) = gs
grants_by h gs crash = gs
grants_by h gs (recover k) = gs
grants_by h gs (prepare t k i) = gs
grants_by h gs (decide d k i) = gs
grants_by h gs (query i) = gs

-- up after an accepted event that wasn't cut
unfoldable pub up_by : Bool → Event → Bool
up_by up (begin p) = up
up_by up (lock t r a) = up
up_by up (write t r o v) = up
up_by up (read t r o) = up
up_by up (commit t k) = up
up_by up (abort t w) = up
up_by up crash = false
up_by up (recover k) = true
up_by up (prepare t k i) = up
up_by up (decide d k i) = up
up_by up (query i) = up

-- What an event with its answer adds. A bad event is refused.
unfoldable pub learned : ℕ → Ledger → Option Event → Answer → Ledger
learned n l none a = l
learned n l (some e) (refused m) = l
learned n l (some e) (done v) = record {
  story = told n l.story (some e) (done v);
  passed = passed_by l.story l.passed e;
  grants = grants_by l.story l.grants e;
  up = up_by l.up e;
}
learned n l (some e) (cut v) = record {
  story = told n l.story (some e) (cut v);
  passed = passed_by l.story l.passed e;
  grants = grants_by l.story l.grants e;
  up = false;
}

-- the answer that is due to an event, and the store that it leaves
pub record Due (S : Type 0) : Type 0 where
  pub answer : Answer
  pub store : S

module _ (f : Form) (start : ℕ → Page) where
  abbrev Stored : Type 0
  Stored = f.medium.Store

  -- what transaction number t reads of r: the start's settled value, with the writes over it that survive so far or stand with its line
  unfoldable pub read_by : History → ℕ → ℕ → Page
  read_by h t r = overlaid (seen_by h t) r h.writes (start r)

  -- the pages that number t has changed
  unfoldable pub changes_by : History → ℕ → ℕ → Option Page
  changes_by h t r = cond (has_changed h (h.bearer t) r) (some (read_by h t r)) none

  -- the refusals in the order in which they are tried (a list with one of the last three kinds isn't audited: it is refused with 30)
  unfoldable pub due_refusals : Ledger → Stored → Event → List (ℕ × Bool)
  due_refusals l store (begin p) =
      (2, not l.up) ∷ (5, not (same p nobody || borne l.story p)) ∷
      (6, same (depth_of l.story (l.story.bearer p)) f.geometry.depth_limit) ∷ (7, all transactions (borne l.story)) ∷ []
  due_refusals l store (lock t r a) =
      (2, not l.up) ∷ (5, not (borne l.story t)) ∷ (14, is_parent l.story (l.story.bearer t)) ∷
      (8, locks_of (bars a) (grant_blocks l (l.story.bearer t)) r l.grants) ∷ []
  due_refusals l store (write t r o v) =
      (2, not l.up) ∷ (5, not (borne l.story t)) ∷ (14, is_parent l.story (l.story.bearer t)) ∷
      (9, not (locks_of is_writing (λ i. same i (l.story.bearer t)) r l.grants)) ∷ []
  due_refusals l store (read t r o) =
      (2, not l.up) ∷ (5, not (borne l.story t)) ∷ (14, is_parent l.story (l.story.bearer t)) ∷
      (9, not (locks_of is_lock (λ i. same i (l.story.bearer t)) r l.grants)) ∷ []
  due_refusals l store (commit t k) = (2, not l.up) ∷ (5, not (borne l.story t)) ∷ (10, is_parent l.story (l.story.bearer t)) ∷ []
  due_refusals l store (abort t w) = (2, not l.up) ∷ (5, not (borne l.story t)) ∷ []
  due_refusals l store crash = []
  due_refusals l store (recover k) = (3, l.up) ∷ (4, f.medium.damaged store) ∷ []
  due_refusals l store (prepare t k i) = (1, true) ∷ []
  due_refusals l store (decide d k i) = (1, true) ∷ []
  due_refusals l store (query i) = (1, true) ∷ []

  -- after page writes: a crash came, or it didn't
  unfoldable pub due_cut : Cut Stored → Bool → Due Stored
  due_cut c true = record { answer = cut c.made; store = c.store }
  due_cut c false = record { answer = done c.made; store = c.store }

  unfoldable pub due_done : ℕ → Stored → Due Stored
  due_done v store = record { answer = done v; store = store }

  -- a commit: of a top transaction, or of a child
  unfoldable pub due_commit : Stored → (ℕ → Option Page) → ℕ → Bool → Due Stored
  due_commit store pages k true = let c = f.medium.commit store pages k in due_cut c c.crashed
  due_commit store pages k false = due_done 0 store

  -- to an event that isn't refused
  unfoldable pub due_to : Ledger → Stored → Event → Due Stored
  due_to l store (begin p) = due_done (lowest transactions (λ t. not (borne l.story t))) store
  due_to l store (lock t r a) = due_done 0 store
  due_to l store (write t r o v) = due_done 0 store
  due_to l store (read t r o) = due_done (get_or (read_by l.story t r) o 0) store
  due_to l store (commit t k) = due_commit store (changes_by l.story t) k (same (l.story.parent (l.story.bearer t)) 0)
  due_to l store (abort t w) = due_done 0 store
  due_to l store crash = due_done 0 store
  due_to l store (recover k) = let c = f.medium.recover store k in due_cut c c.crashed
  due_to l store (prepare t k i) = due_done 0 store
  due_to l store (decide d k i) = due_done 0 store
  due_to l store (query i) = due_done 0 store

  unfoldable pub due_by : Ledger → Stored → Event → Option ℕ → Due Stored
  due_by l store e none = due_to l store e
  due_by l store e (some n) = record { answer = refused n; store = store }

  -- what is due to one event, or to a bad one
  unfoldable pub due : Ledger → Stored → Option Event → Due Stored
  due l store none = record { answer = refused 1; store = store }
  due l store (some e) = due_by l store e (first_of (due_refusals l store e))
