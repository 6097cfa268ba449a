-- What holds of every device whose writes tear: by its following the rules' run, all that is proved of runs.
use mathlib.Core.Path.{◌≡◌, refl, sym, ap, ◌∙◌}
use mathlib.Core.Bool.{Bool, true, ◌&&◌}
use mathlib.Core.List.{List, [], ◌∷◌, ◌++◌, map, append_assoc}
use mathlib.Core.Option.{some}
use Prim.Native.Nat.{ℕ}
use lib.ListN.{length}
use Rattle.laws.proofs.Booleans.{and_left, and_right}
use Rattle.rules.specs.Geometry.{Geometry, Proper, records, page_count, uncut}
use Rattle.rules.specs.Store.{settled}
use Rattle.rules.specs.Event.{Event, begin, lock, write, read, commit, abort, crash, recover, prepare, decide, query, encode, fits}
use Rattle.rules.specs.State.{live, down}
use Rattle.rules.specs.Pairs.{Pairs, shown, OneBadAtMost, pairs_of, flat_pairs, paired_pages, in_pairs}
use Rattle.rules.specs.Step.{visible}
use Rattle.rules.specs.Editions.{geometry_pairs}
use Rattle.rules.proofs.Editions.{proper_pairs}
use Rattle.rules.proofs.Medium.{MediumLaws}
use Rattle.rules.proofs.Event.{decode_encode}
use Rattle.rules.proofs.PairedPages.{paired_laws}
use Rattle.rules.proofs.PairsKept.{one_bad_kept}
use Rattle.rules.proofs.Soundness.{Reached, reached_start, reached_play}
use Rattle.history.specs.History.{overlaid}
use Rattle.history.specs.Demand3.{SurvivingOverlay, IndependentOfLostWrites, settled_in, start_of}
use Rattle.history.specs.Claims.{seen_by, is_restart, restarts, state_after, rows_after, CommitSurvives}
use Rattle.history.proofs.Demand3.{independent_as, words_independent}
use Rattle.history.proofs.Claims.{rows_played, reads_overlay, commit_survives}
use Rattle.claim_device_pairs.specs.Copies.{behind, within}
use Rattle.claim_device_pairs.specs.Device.{TornHappening, plays, fails, tears, loses, cut_to, wholly, restarted_pairs, torn_device_after, events_for, all_events_for, all_fit, words_for, torn_device_history, is_restarting_pairs, restarting_pairs, TornDeviceHolds}
use Rattle.claim_device_pairs.proofs.Device.{words_after, Follows, lives_follows}

restart_cut : (k : ℕ) (e : Event) → is_restart (some (cut_to k e)) ≡ is_restart (some e)
unfolding is_restart cut_to
restart_cut k (begin p) = refl
restart_cut k (lock t r a) = refl
restart_cut k (write t r o v) = refl
restart_cut k (read t r o) = refl
restart_cut k (commit t n) = refl
restart_cut k (abort t w) = refl
restart_cut k crash = refl
restart_cut k (recover n) = refl
restart_cut k (prepare t n i) = refl
restart_cut k (decide d n i) = refl
restart_cut k (query i) = refl

module _ (g : Geometry) where
  -- all events of a list are crashes and recoveries
  all_restart : List Event → Bool
  all_restart [] = true
  all_restart (e ∷ es) = is_restart (some e) && all_restart es

  restart_append : (xs ys : List Event) → all_restart xs ≡ true → all_restart ys ≡ true → all_restart (xs ++ ys) ≡ true
  unfolding all_restart
  restart_append [] ys p q = q
  restart_append (x ∷ xs) ys p q = rw (and_left (is_restart (some x)) (all_restart xs) p) (restart_append xs ys (and_right (is_restart (some x)) (all_restart xs) p) q)

  crash_restarts : is_restart (some crash) ≡ true
  unfolding is_restart
  crash_restarts = refl

  stands_restart : (h : TornHappening) → is_restarting_pairs g h ≡ true → all_restart (events_for g h) ≡ true
  unfolding is_restarting_pairs events_for all_restart wholly
  stands_restart (plays e) q = rw (restart_cut (uncut g) e, q)
  stands_restart (fails e j) q = rw (restart_cut (behind j) e, q, crash_restarts)
  stands_restart (tears e j) q = rw (restart_cut (within j) e, q, crash_restarts)
  stands_restart loses q = rw crash_restarts

  list_restart : (hs : List TornHappening) → restarting_pairs g hs ≡ true → all_restart (all_events_for g hs) ≡ true
  unfolding restarting_pairs all_events_for all_restart
  list_restart [] e = refl
  list_restart (h ∷ hs) e =
      restart_append (events_for g h) (all_events_for g hs) (stands_restart h (and_left (is_restarting_pairs g h) (restarting_pairs g hs) e)) (list_restart hs (and_right (is_restarting_pairs g h) (restarting_pairs g hs) e))

  words_restart : (es : List Event) → all_fit g es ≡ true → all_restart es ≡ true → restarts g (map (encode g) es) ≡ true
  unfolding all_fit all_restart restarts
  words_restart [] f e = refl
  words_restart (x ∷ xs) f e =
      rw (decode_encode g x (and_left (fits g x) (all_fit g xs) f), and_left (is_restart (some x)) (all_restart xs) e)
      (words_restart xs (and_right (fits g x) (all_fit g xs) f) (and_right (is_restart (some x)) (all_restart xs) e))

  pub list-append : (hs ks : List TornHappening) → all_events_for g (hs ++ ks) ≡ all_events_for g hs ++ all_events_for g ks
  unfolding all_events_for
  list-append [] ks = refl
  list-append (h ∷ hs) ks = ap (events_for g h ++◌) (list-append hs ks) ∙ sym (append_assoc (events_for g h) (all_events_for g hs) (all_events_for g ks))

  map-append : (xs ys : List Event) → map (encode g) (xs ++ ys) ≡ map (encode g) xs ++ map (encode g) ys
  map-append [] ys = refl
  map-append (x ∷ xs) ys = ap (λ (l : List ℕ). encode g x ∷ l) (map-append xs ys)

  pub both_fit : (xs ys : List Event) → all_fit g xs ≡ true → all_fit g ys ≡ true → all_fit g (xs ++ ys) ≡ true
  unfolding all_fit
  both_fit [] ys p q = q
  both_fit (x ∷ xs) ys p q = rw (and_left (fits g x) (all_fit g xs) p) (both_fit xs ys (and_right (fits g x) (all_fit g xs) p) q)

module _ (g : Geometry) (proper : Proper g) (torn : g.tears ≡ true) (store : List ℕ) (sized : length store ≡ (paired_pages g).size) where
  pub laws : MediumLaws g (paired_pages g)
  laws = paired_laws g proper torn

  module _ (hs : List TornHappening) (fit : all_fit g (all_events_for g hs) ≡ true) where
    pub follow : Follows g proper torn (torn_device_after g store hs) (state_after (in_pairs g) store (words_for g hs))
    unfolding torn_device_after state_after restarted_pairs down words_for
    follow =
        let F = lives_follows g proper torn (restarted_pairs g (pairs_of store)) refl hs fit in
        record { memory = F.memory ∙ sym (words_after g (down (pairs_of store)) (all_events_for g hs) fit); medium = F.medium }

    medium_is : (torn_device_after g store hs).medium ≡ (state_after (in_pairs g) store (words_for g hs)).store
    medium_is = follow.medium ∙ ap (λ s. s.store) follow.memory

    pub reached : Reached (in_pairs g) laws (state_after (in_pairs g) store (words_for g hs))
    unfolding state_after
    reached = reached_play (in_pairs g) laws (down (pairs_of store)) (reached_start (in_pairs g) laws store sized) (words_for g hs)

    bytes_back : pairs_of (flat_pairs (page_count g) (torn_device_after g store hs).medium) ≡ (torn_device_after g store hs).medium
    bytes_back = rw medium_is (laws.from_to (state_after (in_pairs g) store (words_for g hs)).store reached.shaped)

    settled_is : SurvivingOverlay (settled g (shown (pairs_of store))) (torn_device_history g store hs) (settled g (shown (torn_device_after g store hs).medium))
    unfolding torn_device_history settled_in
    settled_is r = ap (λ (m : Pairs). settled g (shown m) r) medium_is ∙ (reads_overlay (in_pairs g) laws store (words_for g hs) sized).settles r

    reads_is : (t r : ℕ) → live (torn_device_after g store hs).memory t ≡ true → let h = torn_device_history g store hs in
        visible (in_pairs g) (torn_device_after g store hs).memory t r ≡ overlaid (seen_by h t) r h.writes (settled g (shown (pairs_of store)) r)
    unfolding torn_device_history settled_in
    reads_is t r e = rw follow.memory ((reads_overlay (in_pairs g) laws store (words_for g hs) sized).reads t r (rw follow.memory at e))

    bad_is : OneBadAtMost g (pairs_of store) → OneBadAtMost g (torn_device_after g store hs).medium
    unfolding state_after
    bad_is h = rw medium_is (one_bad_kept g proper torn store sized h (words_for g hs))

  two_is : (hs : List TornHappening) → all_fit g (all_events_for g hs) ≡ true → (hs' : List TornHappening) → all_fit g (all_events_for g hs') ≡ true → IndependentOfLostWrites g (start_of (in_pairs g) store)
      (rows_after (in_pairs g) store (words_for g hs)) (settled g (shown (torn_device_after g store hs).medium))
      (rows_after (in_pairs g) store (words_for g hs')) (settled g (shown (torn_device_after g store hs').medium))
  unfolding state_after rows_after
  two_is hs fit hs' fit' = independent_as g (start_of (in_pairs g) store)
      (rows_played (in_pairs g) (down (pairs_of store)) (words_for g hs)) (λ r. ap (λ (m : Pairs). settled g (shown m) r) (medium_is hs fit))
      (rows_played (in_pairs g) (down (pairs_of store)) (words_for g hs')) (λ r. ap (λ (m : Pairs). settled g (shown m) r) (medium_is hs' fit'))
      (words_independent (in_pairs g) laws store (words_for g hs) (words_for g hs') (reached_start (in_pairs g) laws store sized))

  -- THE DEVICE whose writes tear: whatever happens to it
  pub torn_device_holds : (hs : List TornHappening) → all_fit g (all_events_for g hs) ≡ true → TornDeviceHolds g store hs
  torn_device_holds hs fit = record {
    agrees = (follow hs fit).medium;
    reads_back = bytes_back hs fit;
    follows = (follow hs fit).memory;
    settles = settled_is hs fit;
    reads = reads_is hs fit;
    survives_tears = survives_is;
    two_devices = two_is hs fit;
    one_bad = bad_is hs fit;
  }
    where
      survives_is : (more : List TornHappening) → all_fit g (all_events_for g more) ≡ true → restarting_pairs g more ≡ true → (r : ℕ)
          → settled g (shown (torn_device_after g store (hs ++ more)).medium) r ≡ settled g (shown (torn_device_after g store hs).medium) r
      survives_is more f e r =
          let both : all_fit g (all_events_for g (hs ++ more)) ≡ true = rw (list-append g hs more) (both_fit g (all_events_for g hs) (all_events_for g more) fit f) in
          let words : words_for g (hs ++ more) ≡ words_for g hs ++ words_for g more = unfold words_for in ap (map (encode g)) (list-append g hs more) ∙ map-append g (all_events_for g hs) (all_events_for g more) in
          let back : restarts g (words_for g more) ≡ true = unfold words_for in words_restart g (all_events_for g more) f (list_restart g more e) in
          ap (λ (m : Pairs). settled g (shown m) r) (medium_is (hs ++ more) both)
          ∙ ap (λ (ws : List ℕ). settled g (shown (state_after (in_pairs g) store ws).store) r) words
          ∙ survives_words more back r
          ∙ sym (settled_is hs fit r)
        where
          survives_words : (more : List TornHappening) → restarts g (words_for g more) ≡ true
              → SurvivingOverlay (settled g (shown (pairs_of store))) (torn_device_history g store hs)
              (settled g (shown (state_after (in_pairs g) store (words_for g hs ++ words_for g more)).store))
          survives_words more back = unfold torn_device_history settled_in CommitSurvives in commit_survives (in_pairs g) laws store (words_for g hs) (words_for g more) sized back

-- of the form of document 02, L5
pub torn_device_pairs : (store : List ℕ) → length store ≡ 2178 → (hs : List TornHappening) → all_fit geometry_pairs (all_events_for geometry_pairs hs) ≡ true → TornDeviceHolds geometry_pairs store hs
unfolding page_count records
torn_device_pairs store sized hs fit = torn_device_holds geometry_pairs proper_pairs refl store (sized ∙ size) hs fit
  where
    size : 2178 ≡ (paired_pages geometry_pairs).size
    size = refl
