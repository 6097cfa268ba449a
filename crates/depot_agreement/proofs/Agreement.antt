-- The agreement. The depot decides a round of an identity once. An order that is under way tells the decision that the depot holds, since no
-- message outlives its round; and what is prepared at the gateway was prepared in the round that runs, since no identity is given while one is
-- prepared with it. So the gateway stores only what the depot has decided for that round.
use mathlib.Core.Path.{◌≡◌, refl, sym, ap, ◌∙◌}
use mathlib.Core.Bool.{Bool, true, false, cond, true≢false, false≢true}
use mathlib.Core.List.{List}
use mathlib.Core.Logic.{◌⊎◌, inl, inr}
use mathlib.Core.Option.{Option, none, some}
use Prim.Native.Nat.{ℕ, suc, ◌<◌}
use native.Mathlib.Omega.{arith}
use lib.ListN.{length}
use Rattle.laws.specs.Tests.{same}
use Rattle.laws.proofs.Tests.{same_cases, Same, is, isnt}
use Rattle.rules.specs.Event.{Event, begin, lock, write, read, commit, abort, crash, recover, prepare, decide, query, decode}
use Rattle.rules.specs.Form.{Form}
use Rattle.rules.specs.Step.{Answer}
use Rattle.rules.specs.Editions.{geometry1, edition1}
use Rattle.rules.proofs.Medium.{MediumLaws}
use Rattle.rules.proofs.Editions.{proper1}
use Rattle.rules.proofs.AtomicPages.{atomic_laws}
use Rattle.rules.proofs.Soundness.{Reached, reached_start, reached_word}
use Rattle.depot_agreement.specs.Depot.{Stage, Input, start, yes, no, give_up, Order, to_prepare, to_commit, to_abort, goes, table, decision, open_depot}
use Rattle.depot_agreement.specs.Messages.{Message, order, vote, about, input_of, following, is_own, reply, News, nothing, taken, ended, news, open_messages}
use Rattle.depot_agreement.specs.Agreement.{Network, sending, World, prepared_at, gateway_plays, depot_turns, since_then, obeyed_then, gate_turns, loses, Fresh, Happens, starts, gives_up, votes, orders, plays, lost, Reaches, here, then, first_world, Agreement}
use Rattle.depot_agreement.proofs.Table.{ruling, is_start, none-some, keeps, asks}
use Rattle.depot_agreement.proofs.Follows.{Follows, Fits, news_fits, follows_word}

some_is : {b c : Bool} → some b ≡ some c → b ≡ c
some_is {b} e = ap (λ o. elim o [ none ↦ b | some a ↦ a ]) e

some_number : {b c : ℕ} → some b ≡ some c → b ≡ c
some_number {b} e = ap (λ o. elim o [ none ↦ b | some a ↦ a ]) e

-- the order of a message, if it is one
abbrev order_of : Message → Option Bool
order_of (order i q) = ruling q
order_of (vote i b) = none

abbrev is_order : Message → Bool
is_order (order i q) = true
is_order (vote i b) = false

-- the gateway's replies are votes
abbrev Vote : Option Message → Type 0
Vote none = Unit {0}
Vote (some m) = is_order m ≡ false

reply_votes : (e : Option Event) (a : Answer) → Vote (reply e a)
unfolding open_messages
reply_votes none a = tt
reply_votes (some (begin p)) a = tt
reply_votes (some (lock t r m)) a = tt
reply_votes (some (write t r o v)) a = tt
reply_votes (some (read t r o)) a = tt
reply_votes (some (commit t k)) a = tt
reply_votes (some (abort t w)) a = tt
reply_votes (some crash) a = tt
reply_votes (some (recover k)) a = tt
reply_votes (some (prepare t k i)) a = refl
reply_votes (some (decide d k i)) a = tt
reply_votes (some (query i)) a = refl

module _ (f : Form) (M : MediumLaws f.geometry f.medium) where
  -- a decision of a round stands: of a past round, or of the one that runs, and the depot holds it
  abbrev Stands : World f → ℕ → ℕ → Bool → Type 0
  Stands w i n b = (n < w.round i) ⊎ ((n ≡ w.round i) × (decision (w.depot i) ≡ some b))

  record Holds (w : World f) : Type 1 where
    reached : Reached f M w.gate
    -- an order under way tells what the depot holds
    sent : (i : ℕ) (q : Order) (b : Bool) → w.network (order i q) → ruling q ≡ some b → decision (w.depot i) ≡ some b
    rules : (i n : ℕ) (b : Bool) → w.ruled i n b → Stands w i n b
    logged : (i : ℕ) (b : Bool) → decision (w.depot i) ≡ some b → w.ruled i (w.round i) b
    once : (i n : ℕ) (b c : Bool) → w.ruled i n b → w.ruled i n c → b ≡ c
    -- what is prepared was prepared in the round that runs
    current : (i : ℕ) → prepared_at f w ≡ some i → w.since ≡ w.round i
    -- the gateway stores what the depot decided for that round
    obeys : (i n : ℕ) (b : Bool) → w.obeyed i n b → w.ruled i n b

  module _ {w : World f} (I : Holds w) where
    -- the depot turns for i, in the round that runs
    turned : (i : ℕ) (x : Input) (d : Stage) (q : Order) → is_start x ≡ false → table (w.depot i) x ≡ goes d q → Holds (depot_turns f w i (w.round i) d q)
    unfolding prepared_at about
    turned i x d q k e = record {
      reached = I.reached;
      sent = λ j p b m h. sent' j p b (same_cases j i) m h;
      rules = λ j n b m. rules' j n b (same_cases j i) m;
      logged = λ j b h. logged' j b h (same_cases j i);
      once = λ j n b c m o. once' j n b c m o;
      current = λ j h. current' j h (same_cases j i);
      obeys = λ j n b m. inl (I.obeys j n b m);
    }
      where
        kept : ((b : Bool) → decision (w.depot i) ≡ some b → decision d ≡ some b) × (ruling q ≡ decision d)
        kept = keeps (w.depot i) x d q k e

        sent' : (j : ℕ) (p : Order) (b : Bool) → Same j i → sending (some (order i q)) w.network (order j p) → ruling p ≡ some b → decision (cond (same j i) d (w.depot j)) ≡ some b
        sent' j p b (isnt f s _) (inl m) h = absurd (f (ap about m))
        sent' j p b (isnt f s _) (inr m) h = rw s (I.sent j p b m h)
        sent' j p b (is f s _) (inl m) h = rw s (sym kept.1 ∙ sym (ap order_of m) ∙ h)
        sent' j p b (is f s _) (inr m) h = rw s (kept.0 b (rw f at (I.sent j p b m h)))

        stands : (j n : ℕ) (b : Bool) → Same j i → Stands w j n b → Stands (depot_turns f w i (w.round i) d q) j n b
        stands j n b (isnt f s _) m = rw s m
        stands j n b (is f s _) (inl m) = rw s (inl (rw f at m))
        stands j n b (is f s _) (inr m) = rw s (inr (rw f at m.0, kept.0 b (rw f at m.1)))

        rules' : (j n : ℕ) (b : Bool) → Same j i → w.ruled j n b ⊎ ((j ≡ i) × (n ≡ w.round i) × (decision d ≡ some b)) → Stands (depot_turns f w i (w.round i) d q) j n b
        rules' j n b c (inl m) = stands j n b c (I.rules j n b m)
        rules' j n b (is f s _) (inr m) = rw s (inr (m.1, m.2))
        rules' j n b (isnt f s _) (inr m) = absurd (f m.0)

        logged' : (j : ℕ) (b : Bool) → decision (cond (same j i) d (w.depot j)) ≡ some b → Same j i
            → w.ruled j (cond (same j i) (w.round i) (w.round j)) b ⊎ ((j ≡ i) × (cond (same j i) (w.round i) (w.round j) ≡ w.round i) × (decision d ≡ some b))
        logged' j b h (is f s _) = rw s (inr (f, refl, rw s at h))
        logged' j b h (isnt f s _) = rw s (inl (I.logged j b (rw s at h)))

        -- what stood before stands then
        stood : (j n : ℕ) (b : Bool) → j ≡ i → n ≡ w.round i → w.ruled j n b → decision d ≡ some b
        stood j n b f e m = go (I.rules j n b m)
          where
            go : Stands w j n b → decision d ≡ some b
            go (inl l) = let y : w.round j ≡ w.round i = ap w.round f in absurd (omega (arith, l, e, y))
            go (inr l) = kept.0 b (rw f at l.1)

        once' : (j n : ℕ) (b c : Bool) → w.ruled j n b ⊎ ((j ≡ i) × (n ≡ w.round i) × (decision d ≡ some b)) → w.ruled j n c ⊎ ((j ≡ i) × (n ≡ w.round i) × (decision d ≡ some c)) → b ≡ c
        once' j n b c (inl m) (inl o) = I.once j n b c m o
        once' j n b c (inr m) (inl o) = some_is (sym m.2 ∙ stood j n c m.0 m.1 o)
        once' j n b c (inl m) (inr o) = some_is (sym (stood j n b o.0 o.1 m) ∙ o.2)
        once' j n b c (inr m) (inr o) = some_is (sym m.2 ∙ o.2)

        current' : (j : ℕ) → prepared_at f w ≡ some j → Same j i → w.since ≡ cond (same j i) (w.round i) (w.round j)
        current' j h (is f s _) = rw s (I.current j h ∙ ap w.round f)
        current' j h (isnt f s _) = rw s (I.current j h)

    -- the identity i is given
    started : (i : ℕ) (d : Stage) (q : Order) → table (w.depot i) start ≡ goes d q → Fresh f w i → Holds (depot_turns f w i (suc (w.round i)) d q)
    unfolding prepared_at about
    started i d q e new = record {
      reached = I.reached;
      sent = λ j p b m h. sent' j p b (same_cases j i) m h;
      rules = λ j n b m. rules' j n b m;
      logged = λ j b h. logged' j b h (same_cases j i);
      once = λ j n b c m o. once' j n b c m o;
      current = λ j h. current' j h (same_cases j i);
      obeys = λ j n b m. inl (I.obeys j n b m);
    }
      where
        first_asks : (decision d ≡ none) × (ruling q ≡ decision d)
        first_asks = asks (w.depot i) d q e

        undecided : {A : Type 0} {b : Bool} → decision d ≡ some b → A
        undecided h = none-some (sym first_asks.0 ∙ h)

        sent' : (j : ℕ) (p : Order) (b : Bool) → Same j i → sending (some (order i q)) w.network (order j p) → ruling p ≡ some b → decision (cond (same j i) d (w.depot j)) ≡ some b
        sent' j p b (isnt f s _) (inl m) h = absurd (f (ap about m))
        sent' j p b (isnt f s _) (inr m) h = rw s (I.sent j p b m h)
        sent' j p b (is f s _) (inl m) h = rw s (sym first_asks.1 ∙ sym (ap order_of m) ∙ h)
        sent' j p b (is f s _) (inr m) h = absurd (new.0 (order j p) f m)

        stands : (j n : ℕ) (b : Bool) → Same j i → Stands w j n b → Stands (depot_turns f w i (suc (w.round i)) d q) j n b
        stands j n b (isnt f s _) m = rw s m
        stands j n b (is f s _) (inl m) = let k : n < w.round i = rw f at m in rw s (inl (omega (arith, k)))
        stands j n b (is f s _) (inr m) = let k : n ≡ w.round i = rw f at m.0 in rw s (inl (omega (arith, k)))

        rules' : (j n : ℕ) (b : Bool) → w.ruled j n b ⊎ ((j ≡ i) × (n ≡ suc (w.round i)) × (decision d ≡ some b)) → Stands (depot_turns f w i (suc (w.round i)) d q) j n b
        rules' j n b (inl m) = stands j n b (same_cases j i) (I.rules j n b m)
        rules' j n b (inr m) = undecided m.2

        logged' : (j : ℕ) (b : Bool) → decision (cond (same j i) d (w.depot j)) ≡ some b → Same j i
            → w.ruled j (cond (same j i) (suc (w.round i)) (w.round j)) b ⊎ ((j ≡ i) × (cond (same j i) (suc (w.round i)) (w.round j) ≡ suc (w.round i)) × (decision d ≡ some b))
        logged' j b h (is f s _) = undecided (rw s at h)
        logged' j b h (isnt f s _) = rw s (inl (I.logged j b (rw s at h)))

        once' : (j n : ℕ) (b c : Bool) → w.ruled j n b ⊎ ((j ≡ i) × (n ≡ suc (w.round i)) × (decision d ≡ some b)) → w.ruled j n c ⊎ ((j ≡ i) × (n ≡ suc (w.round i)) × (decision d ≡ some c)) → b ≡ c
        once' j n b c (inl m) (inl o) = I.once j n b c m o
        once' j n b c (inr m) o = undecided m.2
        once' j n b c (inl m) (inr o) = undecided o.2

        current' : (j : ℕ) → prepared_at f w ≡ some j → Same j i → w.since ≡ cond (same j i) (suc (w.round i)) (w.round j)
        current' j h (is f s _) = absurd (new.1 (h ∙ ap some f))
        current' j h (isnt f s _) = rw s (I.current j h)

    -- the gateway plays a word; where that ends a transaction the depot holds the decision
    gated : (x : ℕ) → ((i k : ℕ) (d : Bool) → decode f.geometry x ≡ some (decide d k i) → decision (w.depot i) ≡ some d) → Holds (gate_turns f w x)
    unfolding prepared_at gateway_plays
    gated x told = go (news (decode f.geometry x) (gateway_plays f w x).answer) (follows_word f M I.reached.sound x) (news_fits (decode f.geometry x) (gateway_plays f w x).answer)
      where
        v : News → World f
        v t = record {
          depot = w.depot;
          round = w.round;
          gate = (gateway_plays f w x).state;
          since = since_then f w t;
          network = sending (reply (decode f.geometry x) (gateway_plays f w x).answer) w.network;
          ruled = w.ruled;
          obeyed = obeyed_then f w t;
        }

        sent' : (i : ℕ) (q : Order) (b : Bool) → sending (reply (decode f.geometry x) (gateway_plays f w x).answer) w.network (order i q) → ruling q ≡ some b → decision (w.depot i) ≡ some b
        sent' i q b m h = by (reply (decode f.geometry x) (gateway_plays f w x).answer) (reply_votes (decode f.geometry x) (gateway_plays f w x).answer) m
          where
            by : (o : Option Message) → Vote o → sending o w.network (order i q) → decision (w.depot i) ≡ some b
            by none z m = I.sent i q b m h
            by (some y) z (inr m) = I.sent i q b m h
            by (some y) z (inl m) = absurd (true≢false (ap is_order m ∙ z))

        go : (t : News) → Follows (prepared_at f w) t (f.medium.prepared (gateway_plays f w x).state.store) → Fits (decode f.geometry x) t → Holds (v t)
        go nothing F k = record {
          reached = reached_word f M I.reached x;
          sent = sent';
          rules = I.rules;
          logged = I.logged;
          once = I.once;
          current = λ i h. I.current i (sym F ∙ h);
          obeys = I.obeys;
        }
        go (taken i) F k = record {
          reached = reached_word f M I.reached x;
          sent = sent';
          rules = I.rules;
          logged = I.logged;
          once = I.once;
          current = λ j h. ap w.round (some_number (sym F ∙ h));
          obeys = I.obeys;
        }
        go (ended i d) F k = record {
          reached = reached_word f M I.reached x;
          sent = sent';
          rules = I.rules;
          logged = I.logged;
          once = I.once;
          current = λ j h. none-some (sym F.1 ∙ h);
          obeys = obeys';
        }
          where
            obeys' : (j n : ℕ) (b : Bool) → w.obeyed j n b ⊎ ((j ≡ i) × (n ≡ w.since) × (b ≡ d)) → w.ruled j n b
            obeys' j n b (inl m) = I.obeys j n b m
            obeys' j n b (inr m) = rw (m.0, m.1, m.2, I.current i F.0) (I.logged i d (told i k.0 d k.1))

    -- a decide that follows an order under way
    ordered : (i : ℕ) (q : Order) (t k x : ℕ) → w.network (order i q) → decode f.geometry x ≡ some (following q t k i)
        → (j m : ℕ) (d : Bool) → decode f.geometry x ≡ some (decide d m j) → decision (w.depot j) ≡ some d
    unfolding following
    ordered i to_prepare t k x n e j m d h = let z : some (prepare t k i) ≡ some (decide d m j) = sym e ∙ h in let y : true ≡ false = cc in absurd (true≢false y)
    ordered i to_commit t k x n e j m d h =
        let z : some (decide true k i) ≡ some (decide d m j) = sym e ∙ h in
        let a : i ≡ j = cc in
        let c : true ≡ d = cc in
        rw (← a, ← c) (I.sent i to_commit true n refl)
    ordered i to_abort t k x n e j m d h =
        let z : some (decide false k i) ≡ some (decide d m j) = sym e ∙ h in
        let a : i ≡ j = cc in
        let c : false ≡ d = cc in
        rw (← a, ← c) (I.sent i to_abort false n refl)

    owned : (x : ℕ) → is_own (decode f.geometry x) ≡ true → (j m : ℕ) (d : Bool) → decode f.geometry x ≡ some (decide d m j) → decision (w.depot j) ≡ some d
    unfolding is_own
    owned x e j m d h = absurd (false≢true (sym (ap is_own h) ∙ e))

    lossy : (net : Network) → ((m : Message) → net m → w.network m) → Holds (loses f w net)
    unfolding prepared_at
    lossy net fewer = record {
      reached = I.reached;
      sent = λ i q b m h. I.sent i q b (fewer (order i q) m) h;
      rules = I.rules;
      logged = I.logged;
      once = I.once;
      current = I.current;
      obeys = I.obeys;
    }

  happens_holds : {w v : World f} → Holds w → Happens f (Fresh f) w v → Holds v
  unfolding input_of
  happens_holds I (starts i d q e new) = started I i d q e new
  happens_holds I (gives_up i d q e) = turned I i give_up d q refl e
  happens_holds I (votes i true d q m e) = turned I i yes d q refl e
  happens_holds I (votes i false d q m e) = turned I i no d q refl e
  happens_holds I (orders i q t k x m e) = gated I x (λ j n d h. ordered I i q t k x m e j n d h)
  happens_holds I (plays x e) = gated I x (λ j n d h. owned I x e j n d h)
  happens_holds I (lost net fewer) = lossy I net fewer

  reaches_holds : {w v : World f} → Holds w → Reaches f (Fresh f) w v → Holds v
  reaches_holds I here = I
  reaches_holds I (then r s) = happens_holds (reaches_holds I r) s

  first_holds : (store : List ℕ) → length store ≡ f.medium.size → Holds (first_world f store)
  unfolding open_depot
  first_holds store sized = record {
    reached = reached_start f M store sized;
    sent = λ i q b m h. absurd m;
    rules = λ i n b m. absurd m;
    logged = λ i b h. none-some h;
    once = λ i n b c m o. absurd m;
    current = λ i h. refl;
    obeys = λ i n b m. absurd m;
  }

  -- THE AGREEMENT
  pub agreement : Agreement f (Fresh f)
  agreement store sized w r i n b c m o = let I = reaches_holds (first_holds store sized) r in I.once i n b c m (I.obeys i n c o)

  -- what the gateway has stored the depot has decided, for the round in which the transaction was prepared
  pub gateway_follows : (store : List ℕ) → length store ≡ f.medium.size → (w : World f) → Reaches f (Fresh f) (first_world f store) w → (i n : ℕ) (b : Bool) → w.obeyed i n b → w.ruled i n b
  gateway_follows store sized w r = (reaches_holds (first_holds store sized) r).obeys

  -- the depot decides a round once
  pub decided_once : (store : List ℕ) → length store ≡ f.medium.size → (w : World f) → Reaches f (Fresh f) (first_world f store) w → (i n : ℕ) (b c : Bool) → w.ruled i n b → w.ruled i n c → b ≡ c
  decided_once store sized w r = (reaches_holds (first_holds store sized) r).once

-- of edition 1
pub agreement_edition1 : Agreement edition1 (Fresh edition1)
agreement_edition1 = agreement edition1 (atomic_laws geometry1 proper1)
