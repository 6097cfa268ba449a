-- The plan of an event: the page writes that it makes on a state if nothing cuts it. Of atomic pages, and of pages that can tear: `tears` tells which.
use Rattle.std.specs.Prelude.{ℕ, zero, suc, ◌≡◌, Bool, true, false, cond, List, [], ◌∷◌, length, take}
use Rattle.std.proofs.Math.Option.{Option, none, some}
use Rattle.laws.specs.Tests.{same, under}
use Rattle.rules.specs.Geometry.{Geometry}
use Rattle.rules.specs.Store.{Page, Pages}
use Rattle.rules.specs.Event.{Event, begin, lock, write, read, commit, abort, crash, recover, prepare, decide, query}
use Rattle.rules.specs.State.{line_of}
use Rattle.rules.specs.Commit.{PageWrite, written, commit_plan, recover_plan, prepare_plan, decide_plan}
use Rattle.rules.specs.Form.{atomic}
use Rattle.rules.specs.Pairs.{shown}
use Rattle.rules.specs.Editions.{medium_of, form_in}
use Rattle.rules.specs.Step.{number_of, value_of, Outcome, StateOf, is_for, refusal}

-- The first k of some page writes, carried out one by one; all of them where there are fewer.
unfoldable pub carried : ℕ → List PageWrite → Pages → Pages
carried zero ws m = m
carried (suc k) [] m = m
carried (suc k) (w ∷ ws) m = carried k ws (written w m)

-- The write number n, from 0, where there is one.
unfoldable pub write_at : {A : Type 0} → ℕ → List A → Option A
write_at n [] = none
write_at zero (w ∷ ws) = some w
write_at (suc n) (w ∷ ws) = write_at n ws

-- the lesser of two numbers
unfoldable pub lesser : ℕ → ℕ → ℕ
lesser a b = cond (under a b) a b

-- The count of page writes after which an event says that a crash comes; where it says none nothing is written.
unfoldable pub count_of : Event → ℕ
count_of (begin p) = 0
count_of (lock t r a) = 0
count_of (write t r o v) = 0
count_of (read t r o) = 0
count_of (commit t k) = k
count_of (abort t w) = 0
count_of crash = 0
count_of (recover k) = k
count_of (prepare t k i) = k
count_of (decide d k i) = k
count_of (query i) = 0

-- the same event with another count
unfoldable pub with_count : ℕ → Event → Event
with_count k (begin p) = begin p
with_count k (lock t r a) = lock t r a
with_count k (write t r o v) = write t r o v
with_count k (read t r o) = read t r o
with_count k (commit t n) = commit t k
with_count k (abort t w) = abort t w
with_count k crash = crash
with_count k (recover n) = recover k
with_count k (prepare t n i) = prepare t k i
with_count k (decide d n i) = decide d k i
with_count k (query i) = query i

module _ (g : Geometry) where
  -- a commit by the line of its transaction: a child's writes no page
  unfoldable pub line_plan : (ℕ → Option Page) → List ℕ → List PageWrite
  line_plan versions [] = commit_plan g versions
  line_plan versions (a ∷ []) = commit_plan g versions
  line_plan versions (a ∷ y ∷ l) = []

  -- a decision on the identity that is prepared, or on another, which writes no page
  unfoldable pub decision_plan : Pages → Bool → Bool → List PageWrite
  decision_plan m d true = decide_plan g m d
  decision_plan m d false = []

-- the pages that a store shows
abbrev pub pages_in : (tears : Bool) (g : Geometry) → (medium_of tears g).Store → Pages
pages_in false g m = m
pages_in true g m = shown m

module _ (tears : Bool) (g : Geometry) where
  unfoldable pub accepted_plan : StateOf (form_in tears g) → Event → List PageWrite
  accepted_plan s (begin p) = []
  accepted_plan s (lock t r a) = []
  accepted_plan s (write t r o v) = []
  accepted_plan s (read t r o) = []
  accepted_plan s (commit t k) = line_plan g (s.version t) (line_of s.bearer t)
  accepted_plan s (abort t w) = []
  accepted_plan s crash = []
  accepted_plan s (recover k) = recover_plan g (pages_in tears g s.store)
  accepted_plan s (prepare t k i) = prepare_plan g (s.version t) i
  accepted_plan s (decide d k i) = decision_plan g (pages_in tears g s.store) d (is_for i ((medium_of tears g).prepared s.store))
  accepted_plan s (query i) = []

  unfoldable pub plan_by : StateOf (form_in tears g) → Event → Option ℕ → List PageWrite
  plan_by s e none = accepted_plan s e
  plan_by s e (some n) = []

  -- THE PLAN: the page writes that an event makes on a state if nothing cuts it, in order; none where it is refused
  unfoldable pub plan_of : StateOf (form_in tears g) → Event → List PageWrite
  plan_of s e = plan_by s e (refusal (form_in tears g) s e)

-- what an event with its own count writes on atomic pages; a bad event writes nothing
unfoldable pub due_of : (g : Geometry) → StateOf (atomic g) → Option Event → List PageWrite
due_of g s none = []
due_of g s (some e) = take (count_of e) (plan_of false g s e)

-- THE PLAN'S LAW: what a plan and a count say of an event's outcome, over the store before.
pub record Planned (k : ℕ) (ws : List PageWrite) (m : Pages) (o : Outcome Pages) : Type 0 where
  -- the plan's first k writes are carried out
  pub store : o.state.store ≡ carried k ws m
  -- the answer's value is the lesser of k and the plan's length; its number is 11 exactly if k is less
  pub value : value_of o.answer ≡ lesser k (length ws)
  pub number : same (number_of o.answer) 11 ≡ under k (length ws)

-- opens the definitions of this module: for what is proved by computing
unfoldable pub open_plan : Unit {0}
unfolding carried write_at lesser count_of with_count line_plan decision_plan accepted_plan plan_by plan_of due_of
open_plan = tt
