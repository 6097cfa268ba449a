-- As if one transaction at a time: of every list of words over every store.
use mathlib.Core.Path.{◌≡◌, refl, sym, ap, ap₂, subst⁻¹, ◌∙◌}
use mathlib.Core.Bool.{Bool, true, false, cond, ◌&&◌}
use mathlib.Core.List.{List, [], ◌∷◌, ◌++◌, map}
use mathlib.Core.Logic.{inl, inr}
use mathlib.Core.Option.{Option, none, some}
use Prim.Native.Nat.{ℕ, suc, ◌≤◌, ◌<◌}
use native.Mathlib.Omega.{arith}
use lib.ListN.{length, length-map}
use Rattle.laws.specs.Tests.{same}
use Rattle.laws.specs.Counting.{any}
use Rattle.laws.proofs.Tests.{same-eq, same_refl, Is, is_cases, yes', no'}
use Rattle.laws.proofs.Booleans.{and_left, clash}
use Rattle.laws.proofs.All.{and-true, and-false}
use Rattle.laws.proofs.Counting.{any_of}
use Rattle.rules.specs.Geometry.{Geometry, records, uncut}
use Rattle.rules.specs.Store.{Page}
use Rattle.rules.specs.Event.{Event, begin, lock, write, read, commit, abort, crash, recover, prepare, decide, query, decode, encode, fits}
use Rattle.rules.specs.State.{line_of, live, down, open_state}
use Rattle.rules.specs.Versions.{is_some}
use Rattle.rules.specs.Commit.{Cut}
use Rattle.rules.specs.Form.{Form}
use Rattle.rules.specs.Step.{number_of, value_of, StateOf, OutcomeOf, raised, concluded, step, open_step}
use Rattle.rules.specs.Run.{play}
use Rattle.rules.proofs.Uncut.{uncut_fits}
use Rattle.rules.proofs.Medium.{MediumLaws, Unmoved}
use Rattle.rules.proofs.Event.{decode_encode}
use Rattle.rules.proofs.Soundness.{Reached, reached_start}
use Rattle.history.specs.History.{waiting as waitingFate, ended, History, starting}
use Rattle.history.specs.Demand3.{Row, history, start_of}
use Rattle.history.specs.Claims.{rows_after}
use Rattle.history.specs.Entries.{Entry, awaits, open_entries}
use Rattle.history.proofs.Invariant.{now}
use Rattle.history.proofs.Runs.{row_by, rows_from, told_of}
use Rattle.history.proofs.Starts.{start_holds}
use Rattle.history.proofs.Claims.{rows_played}
use Rattle.history.proofs.Holder.{Holder, vacant, taken}
use Rattle.claim_serial.specs.Serial.{plays, serial, open_serial}
use Rattle.claim_serial.specs.OneAtATime.{naming, Right, AllRight, Replays, script, in_order, replay, settled_after, OneAtATime, OneAtATimeHolds}
use Rattle.claim_serial.proofs.Mirror.{again, Replayed, Open, reached_event}
use Rattle.claim_serial.proofs.Words.{AllFit}
use Rattle.claim_serial.proofs.Goes.{no_line}
use Rattle.claim_serial.proofs.Others.{entries_from, entries_are}
use Rattle.claim_serial.proofs.Order.{Even, one_by_one_lem}
use Rattle.claim_serial.proofs.Short.{down_entry, fewer_entries, serial-length}

module _ (f : Form) where
  abbrev g : Geometry
  g = f.geometry

  -- what was replayed is the run of the script's words
  scripted : (target : ℕ → Page) (u : StateOf f) (name : ℕ → ℕ) (xs : List Entry) → Replayed f target u name xs
      → let ws = map (encode g) (script f u name xs) in AllRight xs (rows_from f u ws) × ((r : ℕ) → now f (play f u ws).state r ≡ target r)
  unfolding script rows_from play
  scripted target u name [] R = (tt, R)
  scripted target u name (x ∷ xs) R =
      let e = again f name x.event in
      let o = step f u (some e) in
      let name' = naming name x.event (value_of x.answer) (value_of o.answer) in
      let rest : List ℕ = map (encode g) (script f o.state name' xs) in
      let T = scripted target o.state name' xs R.2 in
      subst⁻¹ (λ (v : Option Event). (Right x (row_by (encode g e) (step f u v).answer) × AllRight xs (rows_from f (step f u v).state rest)) × ((r : ℕ) → now f (play f (step f u v).state rest).state r ≡ target r))
      (decode_encode g e R.0) ((R.1, T.0), T.1)

  -- and its events fit their words
  scripted_fits : (target : ℕ → Page) (u : StateOf f) (name : ℕ → ℕ) (xs : List Entry) → Replayed f target u name xs → AllFit g (script f u name xs)
  unfolding script
  scripted_fits target u name [] R = tt
  scripted_fits target u name (x ∷ xs) R = (R.0, scripted_fits target (step f u (some (again f name x.event))).state _ xs R.2)

  script-length : (u : StateOf f) (name : ℕ → ℕ) (xs : List Entry) → length (script f u name xs) ≡ length xs
  unfolding script
  script-length u name [] = refl
  script-length u name (x ∷ xs) = ap suc (script-length (step f u (some (again f name x.event))).state _ xs)

  -- over a damaged commit page nothing happens
  module _ (d : f.medium.Store) (bad : f.medium.damaged d ≡ true) where
    still : (e : Option Event) → (step f (down d) e).state ≡ down d
    unfolding open_step down
    still none = refl
    still (some (begin p)) = refl
    still (some (lock t r a)) = refl
    still (some (write t r o v)) = refl
    still (some (read t r o)) = refl
    still (some (commit t k)) = refl
    still (some (abort t w)) = refl
    still (some crash) = refl
    still (some (recover k)) = rw bad
    still (some (prepare t k i)) = refl
    still (some (decide e k i)) = refl
    still (some (query i)) = refl

    pub still_down : (ws : List ℕ) → (play f (down d) ws).state ≡ down d
    unfolding play
    still_down [] = refl
    still_down (w ∷ ws) = ap (λ (v : StateOf f). (play f v ws).state) (still (decode g w)) ∙ still_down ws

    no_entries : (h : History) (ws : List ℕ) → entries_from f h (down d) ws ≡ []
    unfolding entries_from
    no_entries h [] = refl
    no_entries h (w ∷ ws) =
        ap₂ ◌++◌ (down_entry f h d (decode g w))
        (ap (λ (v : StateOf f). entries_from f (told_of f h (down d) w) v ws) (still (decode g w)) ∙ no_entries (told_of f h (down d) w) ws)

module _ (f : Form) (L : MediumLaws f.geometry f.medium) (store ws : List ℕ) (sized : length store ≡ f.medium.size) where
  abbrev d : f.medium.Store
  d = f.medium.from_bytes store

  -- the start, and the first event of the replay
  abbrev s₀ : StateOf f
  s₀ = down d

  abbrev first : Event
  first = recover (uncut f.geometry)

  -- the history before the first event
  abbrev h₀ : History
  h₀ = starting (records f.geometry) (f.medium.pending d)

  abbrev final : ℕ → Bool
  final = plays (history f.geometry h₀ (rows_from f s₀ ws))

  abbrev listed : List Entry
  listed = serial final (entries_from f h₀ s₀ ws)

  rows_are : rows_after f store ws ≡ rows_from f s₀ ws
  unfolding rows_after
  rows_are = rows_played f s₀ ws

  in_order_lem : in_order f store (rows_after f store ws) ≡ listed
  unfolding in_order start_of
  in_order_lem = rw (rows_are, entries_are f h₀ s₀ ws)

  first_fits : fits f.geometry first ≡ true
  unfolding fits
  first_fits = uncut_fits f.geometry

  abbrev u₀ : StateOf f
  u₀ = (step f s₀ (some first)).state

  replay_is : replay f store (rows_after f store ws) ≡ encode f.geometry first ∷ map (encode f.geometry) (script f u₀ (λ j. j) listed)
  unfolding replay
  replay_is = ap (λ (xs : List Entry). encode f.geometry first ∷ map (encode f.geometry) (script f u₀ (λ j. j) xs)) in_order_lem

  start_reached : Reached f L s₀
  start_reached = reached_start f L store sized

  -- who is prepared at the start
  start_fate : (j : ℕ) → awaits (h₀.fate j) ≡ (same j 0 && any (records f.geometry) (λ r. is_some (f.medium.pending d r)))
  unfolding starting
  start_fate j = go (same j 0 && any (records f.geometry) (λ r. is_some (f.medium.pending d r)))
    where
      go : (b : Bool) → awaits (cond b waitingFate ended) ≡ b
      go true = unfold awaits in refl
      go false = unfold awaits in refl

  start_holder : Holder f s₀ h₀
  start_holder = go (f.medium.prepared d) refl
    where
      go : (o : Option ℕ) → f.medium.prepared d ≡ o → Holder f s₀ h₀
      go none e = unfold down in vacant e (λ j. start_fate j ∙ rw (any_of (records f.geometry) (λ r. is_some (f.medium.pending d r)) (λ r lt. ap is_some (L.free_pending d r e) ∙ (unfold is_some in refl))) (and-false (same j 0)))
      go (some i) e = unfold down in taken 0 i e (λ j. start_fate j ∙ rw (L.prepared-some d i e) (and-true (same j 0))) (unfold starting in refl) (omega arith)

  pub replay-length : length (replay f store (rows_after f store ws)) ≡ suc (length (in_order f store (rows_after f store ws)))
  replay-length =
      ap length replay_is
      ∙ ap suc (length-map (script f u₀ (λ j. j) listed) (encode f.geometry) ∙ script-length f u₀ (λ j. j) listed ∙ ap length (sym in_order_lem))

  short : 0 < length ws → length (replay f store (rows_after f store ws)) ≤ length ws
  short = go ws refl
    where
      go : (l : List ℕ) → ws ≡ l → 0 < length l → length (replay f store (rows_after f store ws)) ≤ length l
      go [] q h = absurd (omega arith)
      go (w ∷ l) q h =
          let a = replay-length in
          let b : length (in_order f store (rows_after f store ws)) ≡ length listed = ap length in_order_lem in
          let c = serial-length final f L ws start_reached (start_holds f L d) start_holder (λ i. refl) in
          let e : length (entries_from f h₀ s₀ ws) ≤ length l = rw q (fewer_entries f h₀ d w l) in
          omega (arith, a, b, c, e)

  none_listed : f.medium.damaged d ≡ true → listed ≡ []
  none_listed bad = ap (serial final) (no_entries f d bad h₀ ws) ∙ (unfold open_entries open_serial in refl)

  -- over a commit page that isn't damaged, the recover is whole
  module _ (good : f.medium.damaged d ≡ false) where
    abbrev c : Cut f.medium.Store
    c = f.medium.recover d (uncut f.geometry)

    up_again : step f s₀ (some first) ≡ concluded (raised s₀ c.store) c false
    unfolding open_step down
    up_again = rw (good, L.recover_uncut d)

    opened : Open f L u₀
    opened = record {
      reached = reached_event f L start_reached first first_fits;
      ready = ap (λ (o : OutcomeOf f). o.state.up) up_again ∙ (unfold concluded raised in refl);
    }

    idle : (t : ℕ) → live u₀ t ≡ false
    idle t = ap (λ (o : OutcomeOf f). live o.state t) up_again ∙ (unfold concluded raised down open_state in refl)

    kept : (r : ℕ) → now f u₀ r ≡ now f s₀ r
    kept r = ap (λ (o : OutcomeOf f). now f o.state r) up_again ∙ (unfold concluded raised down in L.recover_settled d (uncut f.geometry) r)

    first_alone : (w : ℕ) → awaits (h₀.fate w) ≡ true → w ≡ 0
    first_alone w y = same-eq w 0 (and_left (same w 0) _ (sym (start_fate w) ∙ y))

    nowhere : (top : ℕ) → line_of s₀.bearer top ≡ top ∷ [] → ⊥
    unfolding down open_state
    nowhere top e = no_line e

    -- what is prepared is so still
    even : Even f L final h₀ s₀ u₀
    even = go (is_cases (awaits (h₀.fate 0)))
      where
        unmoved : Unmoved f.medium u₀.store d
        unmoved = subst⁻¹ (λ (o : OutcomeOf f). Unmoved f.medium o.state.store d) up_again (unfold concluded raised in L.recover_unmoved d (uncut f.geometry))

        free : awaits (h₀.fate 0) ≡ false → Holder f s₀ h₀ → f.medium.prepared d ≡ none
        free z (vacant e nb) = unfold down in e
        free z (taken w i e only p le) = clash (start_fate 0 ∙ rw (same_refl 0) (unfold down in L.prepared-some d i e)) z

        go : Is (awaits (h₀.fate 0)) → Even f L final h₀ s₀ u₀
        go (no' z) = inl (z, unmoved.same_identity ∙ free z start_holder)
        go (yes' z) = unfold down in inr (z, unmoved.same_identity, unmoved.same_pending)

    played : Replayed f (λ r. now f (play f s₀ ws).state r) u₀ (λ j. j) listed
    unfolding serial
    played = one_by_one_lem f L final ws start_reached (start_holds f L d) start_holder (λ i. refl) (λ i. []) (λ i b. refl) (λ y. refl)
        (λ top e z. absurd (nowhere top e)) (λ w y m z. absurd (m (first_alone w y))) u₀ opened idle kept even (λ j. j)

    abbrev rest : List ℕ
    rest = map (encode f.geometry) (script f u₀ (λ j. j) listed)

    -- the replay from the start
    whole : Replays listed (rows_from f s₀ (encode f.geometry first ∷ rest))
        × ((r : ℕ) → now f (play f s₀ (encode f.geometry first ∷ rest)).state r ≡ now f (play f s₀ ws).state r)
    unfolding rows_from play
    whole =
        let T = scripted f (λ r. now f (play f s₀ ws).state r) u₀ (λ j. j) listed played in
        subst⁻¹ (λ (v : Option Event). ((number_of (step f s₀ v).answer ≡ 0) × AllRight listed (rows_from f (step f s₀ v).state rest))
        × ((r : ℕ) → now f (play f (step f s₀ v).state rest).state r ≡ now f (play f s₀ ws).state r))
        (decode_encode f.geometry first first_fits)
        ((ap (λ (o : OutcomeOf f). number_of o.answer) up_again ∙ (unfold concluded number_of in refl), T.0), T.1)

    rows_again : rows_after f store (encode f.geometry first ∷ rest) ≡ rows_from f s₀ (encode f.geometry first ∷ rest)
    unfolding rows_after
    rows_again = rows_played f s₀ (encode f.geometry first ∷ rest)

    right : Replays (in_order f store (rows_after f store ws)) (rows_after f store (replay f store (rows_after f store ws)))
    right =
        subst⁻¹ (λ (vs : List ℕ). Replays (in_order f store (rows_after f store ws)) (rows_after f store vs)) replay_is
        (subst⁻¹ (λ (xs : List Entry). Replays xs (rows_after f store (encode f.geometry first ∷ rest))) in_order_lem
        (subst⁻¹ (λ (ys : List Row). Replays listed ys) rows_again whole.0))

    same_records : (r : ℕ) → settled_after f store (replay f store (rows_after f store ws)) r ≡ settled_after f store ws r
    unfolding settled_after
    same_records r = ap (λ (vs : List ℕ). now f (play f s₀ vs).state r) replay_is ∙ whole.1 r

  -- the replay is the words of events that fit
  pub replayed_events : (es : List Event) × (replay f store (rows_after f store ws) ≡ map (encode f.geometry) es) × AllFit f.geometry es
  replayed_events = (first ∷ script f u₀ (λ j. j) listed, replay_is, (first_fits, fit (is_cases (f.medium.damaged d))))
    where
      fit : Is (f.medium.damaged d) → AllFit f.geometry (script f u₀ (λ j. j) listed)
      fit (no' good) = scripted_fits f (λ r. now f (play f s₀ ws).state r) u₀ (λ j. j) listed (played good)
      fit (yes' bad) = subst⁻¹ (λ (xs : List Entry). AllFit f.geometry (script f u₀ (λ j. j) xs)) (none_listed bad) (unfold script in tt)

  one : OneAtATime f store ws
  one = record {
    right = right;
    or_nothing = λ bad. in_order_lem ∙ none_listed bad;
    records_same = λ r. same r (is_cases (f.medium.damaged d));
    no_longer = short;
  }
    where
      same : (r : ℕ) → Is (f.medium.damaged d) → settled_after f store (replay f store (rows_after f store ws)) r ≡ settled_after f store ws r
      same r (no' good) = same_records good r
      same r (yes' bad) = unfold settled_after in
          ap (λ (v : StateOf f). now f v r) (still_down f d bad (replay f store (rows_after f store ws)) ∙ sym (still_down f d bad ws))

-- AS IF ONE TRANSACTION AT A TIME
pub one_at_a_time : (f : Form) → MediumLaws f.geometry f.medium → OneAtATimeHolds f
unfolding OneAtATimeHolds
one_at_a_time f L store ws sized = one f L store ws sized
