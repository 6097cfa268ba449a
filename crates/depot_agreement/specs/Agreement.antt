-- A depot and a gateway over a network that loses, repeats and delays messages, and the claim of document 02, L9: both ends never hold opposite
-- decisions for one transaction. The gateway is the store with its rules, playing event words.
use Rattle.std.specs.Prelude.{◌≡◌, Bool, true, cond, List, ◌≢◌, ◌⊎◌, ℕ, suc, length}
use Rattle.std.proofs.Math.Option.{Option, none, some}
use Rattle.laws.specs.Tests.{same}
use Rattle.rules.specs.Event.{decode}
use Rattle.rules.specs.State.{down}
use Rattle.rules.specs.Form.{Form}
use Rattle.rules.specs.Step.{StateOf, OutcomeOf, step}
use Rattle.depot_agreement.specs.Depot.{Stage, idle, start, give_up, Order, goes, table, decision}
use Rattle.depot_agreement.specs.Messages.{Message, order, vote, about, input_of, following, is_own, reply, News, nothing, taken, ended, news}

-- the messages that may still arrive, any number of times each
abbrev pub Network : Type 1
Network = Message → Type 0

-- decisions: of an identity, in a round of it
abbrev pub Log : Type 1
Log = ℕ → ℕ → Bool → Type 0

abbrev pub sending : Option Message → Network → Network
sending none net m = net m
sending (some k) net m = (m ≡ k) ⊎ net m

module _ (f : Form) where
  pub record World : Type 1 where
    -- by identity: the depot's state, and the round, that is how often the identity was given
    pub depot : ℕ → Stage
    pub round : ℕ → ℕ
    pub gate : StateOf f
    -- the round of its identity in which the transaction was prepared that is prepared at the gateway
    pub since : ℕ
    pub network : Network
    -- the decisions of the depot, and those that the gateway has stored for a transaction prepared in that round
    pub ruled : Log
    pub obeyed : Log

  -- the identity that is prepared at the gateway
  unfoldable pub prepared_at : World → Option ℕ
  prepared_at w = f.medium.prepared w.gate.store

  -- the gateway plays an event word
  unfoldable pub gateway_plays : World → ℕ → OutcomeOf f
  gateway_plays w x = step f w.gate (decode f.geometry x)

  -- the depot goes to a state for i, in round n, and gives an order
  abbrev pub depot_turns : World → ℕ → ℕ → Stage → Order → World
  depot_turns w i n d q = record {
    depot = λ j. cond (same j i) d (w.depot j);
    round = λ j. cond (same j i) n (w.round j);
    gate = w.gate;
    since = w.since;
    network = sending (some (order i q)) w.network;
    ruled = λ j m b. w.ruled j m b ⊎ ((j ≡ i) × (m ≡ n) × (decision d ≡ some b));
    obeyed = w.obeyed;
  }

  abbrev pub since_then : World → News → ℕ
  since_then w nothing = w.since
  since_then w (taken i) = w.round i
  since_then w (ended i d) = w.since

  abbrev pub obeyed_then : World → News → Log
  obeyed_then w nothing = w.obeyed
  obeyed_then w (taken i) = w.obeyed
  obeyed_then w (ended i d) = λ j m b. w.obeyed j m b ⊎ ((j ≡ i) × (m ≡ w.since) × (b ≡ d))

  abbrev pub gate_turns : World → ℕ → World
  gate_turns w x = record {
    depot = w.depot;
    round = w.round;
    gate = (gateway_plays w x).state;
    since = since_then w (news (decode f.geometry x) (gateway_plays w x).answer);
    network = sending (reply (decode f.geometry x) (gateway_plays w x).answer) w.network;
    ruled = w.ruled;
    obeyed = obeyed_then w (news (decode f.geometry x) (gateway_plays w x).answer);
  }

  abbrev pub loses : World → Network → World
  loses w net = record { depot = w.depot; round = w.round; gate = w.gate; since = w.since; network = net; ruled = w.ruled; obeyed = w.obeyed }

  -- no message of i is under way; no transaction is prepared with it
  abbrev pub Quiet : World → ℕ → Type 0
  Quiet w i = (m : Message) → about m ≡ i → w.network m → ⊥

  abbrev pub Unused : World → ℕ → Type 0
  Unused w i = prepared_at w ≢ some i

  -- the premise on identities, at every start
  abbrev pub Fresh : World → ℕ → Type 0
  Fresh w i = Quiet w i × Unused w i

  -- what may happen, where an identity is given only under a premise; a pair that the depot refuses has no effect
  module _ (Ok : World → ℕ → Type 0) where
    pub data Happens (w : World) : World → Type 1 where
      starts : (i : ℕ) (d : Stage) (q : Order) → table (w.depot i) start ≡ goes d q → Ok w i → Happens w (depot_turns w i (suc (w.round i)) d q)
      gives_up : (i : ℕ) (d : Stage) (q : Order) → table (w.depot i) give_up ≡ goes d q → Happens w (depot_turns w i (w.round i) d q)
      -- a message arrives, and may arrive again until it is lost
      votes : (i : ℕ) (b : Bool) (d : Stage) (q : Order) → w.network (vote i b) → table (w.depot i) (input_of b) ≡ goes d q → Happens w (depot_turns w i (w.round i) d q)
      orders : (i : ℕ) (q : Order) (t k x : ℕ) → w.network (order i q) → decode f.geometry x ≡ some (following q t k i) → Happens w (gate_turns w x)
      -- any event of the gateway's own: also a crash, a recover, a query
      plays : (x : ℕ) → is_own (decode f.geometry x) ≡ true → Happens w (gate_turns w x)
      lost : (net : Network) → ((m : Message) → net m → w.network m) → Happens w (loses w net)

    pub data Reaches (w : World) : World → Type 1 where
      here : Reaches w w
      then : {v u : World} → Reaches w v → Happens v u → Reaches w u

  -- at first: nothing at the depot, no message, no decision; the gateway is down over any store, also one in which a transaction is prepared
  abbrev pub first_world : List ℕ → World
  first_world store = record {
    depot = λ i. idle;
    round = λ i. 0;
    gate = down (f.medium.from_bytes store);
    since = 0;
    network = λ m. ⊥;
    ruled = λ i n b. ⊥;
    obeyed = λ i n b. ⊥;
  }

  -- both ends never hold opposite decisions for one transaction
  abbrev pub Agree : World → Type 0
  Agree w = (i n : ℕ) (b c : Bool) → w.ruled i n b → w.obeyed i n c → b ≡ c

  -- THE AGREEMENT, under a premise on the identities that are given
  abbrev pub Agreement : (World → ℕ → Type 0) → Type 1
  Agreement Ok = (store : List ℕ) → length store ≡ f.medium.size → (w : World) → Reaches Ok (first_world store) w → Agree w

-- opens the definitions of this module: for what is proved by computing
unfoldable pub open_agreement : Unit {0}
unfolding prepared_at gateway_plays
open_agreement = tt
