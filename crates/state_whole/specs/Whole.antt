-- The engine's arrays as one, the state that they stand for, what holds of them between two events, and what one event does.
use Rattle.std.specs.Prelude.{◌≡◌, Bool, false, List, ℕ, ◌*◌, ◌<◌, ◌≤◌, get_or, length}
use Rattle.std.proofs.Math.Option.{Option, some}
use Rattle.laws.specs.Tests.{same}
use Rattle.rules.specs.Store.{read_prepared}
use Rattle.rules.specs.Event.{Event}
use Rattle.rules.specs.State.{Bearers, line_of, mem}
use Rattle.rules.specs.Step as rules
use Rattle.rules.specs.Step.{StateOf, has_child, number_of, value_of, step}
use Rattle.rules.specs.Sound.{Sound}
use Rattle.rules.specs.Editions.{depths}
use Rattle.rules.specs.Geometry.{Geometry, records}
use Rattle.rules.specs.Form.{Form}
use Rattle.leaf_set.specs.Sets.{sets}
use Rattle.state_array.specs.View.{bearers_of, modes_of, Nested, versions_of}
use Rattle.leaf_commit_page.specs.Heard.{overheard}
use Rattle.store_write.specs.Phase.{store_of, shown_in}
use Rattle.leaf_event.specs.declared.Answer.{Answer}

-- up is 1, else the engine is down
pub record Arrays : Type 0 where
  pub up : ℕ
  pub parent : List ℕ
  pub depth : List ℕ
  pub line : List ℕ
  pub held : List ℕ
  pub retained : List ℕ
  pub writers : List ℕ
  pub work : List ℕ
  pub store : List ℕ

abbrev pub arrays : ℕ → List ℕ → List ℕ → List ℕ → List ℕ → List ℕ → List ℕ → List ℕ → List ℕ → Arrays
arrays up parent depth line held retained writers work store =
    record { up = up; parent = parent; depth = depth; line = line; held = held; retained = retained; writers = writers; work = work; store = store }

-- the members of a transaction's line
unfoldable pub line_in : Bearers → ℕ → ℕ → Bool
line_in b t u = mem u (line_of b t)

-- the answer's number and value are those of the rules' answer
unfoldable pub engine_answer : rules.Answer → Answer
engine_answer b = record { number = number_of b; value = value_of b }

module _ (f : Form) where
  -- the forms that the engine serves: up to sixty-four records, and slots for each depth
  pub record Served : Type 0 where
    pub few : records f.geometry ≤ 64
    pub deep : f.geometry.depth_limit ≡ depths

  -- the state that the arrays stand for
  unfoldable pub view : Arrays → StateOf f
  view x = record {
    up = same x.up 1;
    bearer = bearers_of x.parent x.depth;
    held = modes_of (sets x.held);
    retained = modes_of (sets x.retained);
    version = versions_of x.depth x.writers x.work;
    store = f.medium.from_bytes x.store;
  }

  -- the lines are those of the parents and depths; the flag is 0 or 1; a free number has the parent 0; who has a lock in write mode has it; the arrays
  -- have their lengths
  pub record Formed (x : Arrays) : Type 0 where
    pub lines : sets x.line ≡ line_in (bearers_of x.parent x.depth)
    pub flag : x.up ≤ 1
    pub tidy : (t : ℕ) → get_or x.depth t 0 ≡ 0 → get_or x.parent t 0 ≡ 0
    pub held_nested : Nested (sets x.held)
    pub retained_nested : Nested (sets x.retained)
    pub parents : length x.parent ≡ 24
    pub depths : length x.depth ≡ 24
    pub long : length x.line ≡ 24
    pub helds : length x.held ≡ 2 * records f.geometry
    pub retaineds : length x.retained ≡ 2 * records f.geometry
    pub writerss : length x.writers ≡ records f.geometry
    pub works : length x.work ≡ 512 * records f.geometry
    pub stores : length x.store ≡ f.medium.size

  -- what holds between two events
  pub record Intact (x : Arrays) : Type 0 where
    pub sound : Sound f (view x)
    pub served : Served
    pub form : Formed x

  -- the event e, or a bad one, leads from x to y, with the answer a
  pub record Stepped (x : Arrays) (e : Option Event) (a : Answer) (y : Arrays) : Type 0 where
    pub is : view y ≡ (step f (view x) e).state
    pub says : a ≡ engine_answer (step f (view x) e).answer
    pub form : Formed y

  -- it is up, and t is live
  pub record Ready (x : Arrays) (t : ℕ) : Type 0 where
    pub up : x.up ≡ 1
    pub live : 0 < get_or x.depth t 0

  -- and t has no live child
  pub record ReadyLeaf (x : Arrays) (t : ℕ) : Type 0 where
    pub ready : Ready x t
    pub childless : has_child (view x) t ≡ false

-- What the store says of a prepared transaction, kept beside the arrays: the map of the records that it changed, 0 where none is prepared, and its
-- identity.
abbrev pub Reserves : Bool → Geometry → List ℕ → ℕ → ℕ → Type 0
Reserves tears g store map identity = overheard (read_prepared g (shown_in tears (store_of tears store) 0)) ≡ record { map = map; identity = identity }

-- The sentence that the events' contracts share: from arrays that are intact, and a transaction of which it is known what it can do, the event leads
-- on as the rules say.
abbrev pub Does : (f : Form) → (Arrays → ℕ → Type 0) → Arrays → ℕ → Event → Answer → Arrays → Type 0
Does f Able before t e a after = Intact f before → Able before t → Stepped f before (some e) a after
