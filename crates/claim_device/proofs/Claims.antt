-- What holds of every device: by its following the rules' run, all that is proved of runs.
use mathlib.Core.Path.{◌≡◌, refl, sym, ap, ◌∙◌}
use mathlib.Core.Bool.{true}
use mathlib.Core.List.{List, [], ◌∷◌, ◌++◌, append_assoc}
use mathlib.Core.Option.{Option, none, some}
use Prim.Native.Nat.{ℕ}
use lib.ListN.{length}
use Rattle.laws.proofs.Booleans.{and_left, and_right}
use Rattle.rules.specs.Geometry.{Geometry, Proper, records, page_count}
use Rattle.rules.specs.Store.{Pages, pages_of, flat, settled}
use Rattle.rules.specs.Event.{Event, begin, lock, write, read, commit, abort, crash, recover, prepare, decide, query, decode, encode}
use Rattle.rules.specs.State.{live, down}
use Rattle.rules.specs.Form.{atomic_pages, atomic}
use Rattle.rules.specs.Step.{StateOf, visible}
use Rattle.rules.specs.Editions.{geometry1, geometry2}
use Rattle.rules.specs.Sound.{Sound}
use Rattle.rules.proofs.Editions.{proper1, proper2}
use Rattle.rules.proofs.Medium.{MediumLaws}
use Rattle.rules.proofs.AtomicPages.{atomic_laws}
use Rattle.rules.proofs.Soundness.{Reached, reached_start, reached_play}
use Rattle.history.specs.History.{overlaid}
use Rattle.history.specs.Demand3.{SurvivingOverlay, IndependentOfLostWrites, settled_in, start_of}
use Rattle.history.specs.Claims.{seen_by, is_restart, restarts, state_after, rows_after, CommitSurvives}
use Rattle.history.proofs.Demand3.{independent_as, words_independent}
use Rattle.history.proofs.Claims.{rows_played, reads_overlay, commit_survives}
use Rattle.claim_device.specs.Plan.{lesser, count_of, with_count}
use Rattle.claim_device.specs.Device.{Happening, plays, fails, loses, restarted, device_after, cut_word, stands_for, list_of, device_history, is_restarting, restarting, DeviceHolds}
use Rattle.claim_device.proofs.Device.{cut_decodes, crash_decodes, Follows, lives_follows}

restart_counts : (n : ℕ) (e : Event) → is_restart (some (with_count n e)) ≡ is_restart (some e)
unfolding is_restart with_count
restart_counts n (begin p) = refl
restart_counts n (lock t r a) = refl
restart_counts n (write t r o v) = refl
restart_counts n (read t r o) = refl
restart_counts n (commit t k) = refl
restart_counts n (abort t w) = refl
restart_counts n crash = refl
restart_counts n (recover k) = refl
restart_counts n (prepare t k i) = refl
restart_counts n (decide d k i) = refl
restart_counts n (query i) = refl

module _ (g : Geometry) where
  restarts-append : (xs ys : List ℕ) → restarts g xs ≡ true → restarts g ys ≡ true → restarts g (xs ++ ys) ≡ true
  unfolding restarts
  restarts-append [] ys p q = q
  restarts-append (x ∷ xs) ys p q = rw (and_left (is_restart (decode g x)) (restarts g xs) p) (restarts-append xs ys (and_right (is_restart (decode g x)) (restarts g xs) p) q)

  restart_cut : (w k : ℕ) (o : Option Event) → decode g w ≡ o → is_restart o ≡ true → is_restart (decode g (cut_word g w k o)) ≡ true
  unfolding cut_word
  restart_cut w k none q e = rw q e
  restart_cut w k (some v) q e = ap is_restart (cut_decodes g w k v q) ∙ restart_counts (lesser k (count_of v)) v ∙ e

  crash_restarts : is_restart (decode g (encode g crash)) ≡ true
  unfolding is_restart
  crash_restarts = rw (crash_decodes g)

  stands_restarts : (h : Happening) → is_restarting g h ≡ true → restarts g (stands_for g h) ≡ true
  unfolding is_restarting stands_for restarts
  stands_restarts (plays w) e = rw e
  stands_restarts (fails w k) e = rw (restart_cut w k (decode g w) refl e, crash_restarts)
  stands_restarts loses e = rw crash_restarts

  list_restarts : (hs : List Happening) → restarting g hs ≡ true → restarts g (list_of g hs) ≡ true
  unfolding restarting list_of restarts
  list_restarts [] e = refl
  list_restarts (h ∷ hs) e =
      restarts-append (stands_for g h) (list_of g hs) (stands_restarts h (and_left (is_restarting g h) (restarting g hs) e)) (list_restarts hs (and_right (is_restarting g h) (restarting g hs) e))

  list-append : (hs ks : List Happening) → list_of g (hs ++ ks) ≡ list_of g hs ++ list_of g ks
  unfolding list_of
  list-append [] ks = refl
  list-append (h ∷ hs) ks = ap (stands_for g h ++◌) (list-append hs ks) ∙ sym (append_assoc (stands_for g h) (list_of g hs) (list_of g ks))

module _ (g : Geometry) (proper : Proper g) (store : List ℕ) (sized : length store ≡ (atomic_pages g).size) where
  pub laws : MediumLaws g (atomic_pages g)
  laws = atomic_laws g proper

  module _ (hs : List Happening) where
    pub follow : Follows g (device_after g store hs) (state_after (atomic g) store (list_of g hs))
    unfolding device_after state_after restarted down
    follow = lives_follows g (restarted g (pages_of store)) refl hs

    medium_is : (device_after g store hs).medium ≡ (state_after (atomic g) store (list_of g hs)).store
    medium_is = follow.medium ∙ ap (λ (s : StateOf (atomic g)). s.store) follow.memory

    reached : Reached (atomic g) laws (state_after (atomic g) store (list_of g hs))
    unfolding state_after
    reached = reached_play (atomic g) laws (down (pages_of store)) (reached_start (atomic g) laws store sized) (list_of g hs)

    back : pages_of (flat (page_count g) (device_after g store hs).medium) ≡ (device_after g store hs).medium
    back = rw medium_is (laws.from_to (state_after (atomic g) store (list_of g hs)).store reached.shaped)

    pub sound_memory : Sound (atomic g) (device_after g store hs).memory
    sound_memory = rw follow.memory reached.sound

    settled_is : SurvivingOverlay (settled g (pages_of store)) (device_history g store hs) (settled g (device_after g store hs).medium)
    unfolding device_history settled_in
    settled_is r = ap (λ (m : Pages). settled g m r) medium_is ∙ (reads_overlay (atomic g) laws store (list_of g hs) sized).settles r

    reads_is : (t r : ℕ) → live (device_after g store hs).memory t ≡ true → let h = device_history g store hs in
        visible (atomic g) (device_after g store hs).memory t r ≡ overlaid (seen_by h t) r h.writes (settled g (pages_of store) r)
    unfolding device_history settled_in
    reads_is t r e = rw follow.memory ((reads_overlay (atomic g) laws store (list_of g hs) sized).reads t r (rw follow.memory at e))

  pub survives_is : (hs more : List Happening) → restarting g more ≡ true → (r : ℕ) → settled g (device_after g store (hs ++ more)).medium r ≡ settled g (device_after g store hs).medium r
  unfolding device_history settled_in CommitSurvives
  survives_is hs more e r =
      ap (λ (m : Pages). settled g m r) (medium_is (hs ++ more))
      ∙ ap (λ (ws : List ℕ). settled g (state_after (atomic g) store ws).store r) (list-append g hs more)
      ∙ commit_survives (atomic g) laws store (list_of g hs) (list_of g more) sized (list_restarts g more e) r
      ∙ sym (settled_is hs r)

  two_is : (hs hs' : List Happening) → IndependentOfLostWrites g (start_of (atomic g) store)
      (rows_after (atomic g) store (list_of g hs)) (settled g (device_after g store hs).medium)
      (rows_after (atomic g) store (list_of g hs')) (settled g (device_after g store hs').medium)
  unfolding state_after rows_after
  two_is hs hs' = independent_as g (start_of (atomic g) store)
      (rows_played (atomic g) (down (pages_of store)) (list_of g hs)) (λ r. ap (λ (m : Pages). settled g m r) (medium_is hs))
      (rows_played (atomic g) (down (pages_of store)) (list_of g hs')) (λ r. ap (λ (m : Pages). settled g m r) (medium_is hs'))
      (words_independent (atomic g) laws store (list_of g hs) (list_of g hs') (reached_start (atomic g) laws store sized))

  -- THE DEVICE: whatever happens to it
  pub device_holds : (hs : List Happening) → DeviceHolds g store hs
  device_holds hs = record {
    agrees = (follow hs).medium;
    reads_back = back hs;
    follows = (follow hs).memory;
    settles = settled_is hs;
    reads = reads_is hs;
    survives_cuts = survives_is hs;
    two_devices = two_is hs;
  }

-- of edition 1
pub device_holds_edition1 : (store : List ℕ) → length store ≡ 1056 → (hs : List Happening) → DeviceHolds geometry1 store hs
unfolding page_count records
device_holds_edition1 store sized hs = device_holds geometry1 proper1 store (sized ∙ size1) hs
  where
    size1 : 1056 ≡ (atomic_pages geometry1).size
    size1 = refl

-- of edition 2
pub device_holds_edition2 : (store : List ℕ) → length store ≡ 4128 → (hs : List Happening) → DeviceHolds geometry2 store hs
unfolding page_count records
device_holds_edition2 store sized hs = device_holds geometry2 proper2 store (sized ∙ size2) hs
  where
    size2 : 4128 ≡ (atomic_pages geometry2).size
    size2 = refl
