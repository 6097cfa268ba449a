-- A commit on a device whose writes tear: all or none wherever the power goes, and all once it is acknowledged.
use mathlib.Core.Path.{◌≡◌, refl, sym, ap, ◌∙◌}
use mathlib.Core.Bool.{true}
use mathlib.Core.List.{List, [], ◌∷◌, ◌++◌, append_assoc}
use mathlib.Core.Logic.{◌⊎◌, inl, inr}
use mathlib.Core.Option.{some}
use Prim.Native.Nat.{ℕ}
use lib.ListN.{length}
use Rattle.rules.specs.Geometry.{Geometry, Proper, records, page_count, uncut}
use Rattle.rules.specs.Store.{settled}
use Rattle.rules.specs.Event.{commit}
use Rattle.rules.specs.State.{down}
use Rattle.rules.specs.Versions.{else}
use Rattle.rules.specs.Pairs.{Pairs, shown, paired_pages, in_pairs}
use Rattle.rules.specs.Step.{step}
use Rattle.rules.specs.Editions.{geometry_pairs}
use Rattle.rules.specs.Sound.{Sound}
use Rattle.rules.proofs.Editions.{proper_pairs}
use Rattle.claim_device.proofs.CommitStep.{All, None, commit_either, commit_done}
use Rattle.claim_device_pairs.specs.Copies.{behind, within}
use Rattle.claim_device_pairs.specs.Device.{TornHappening, plays, fails, tears, cut_to, wholly, TornDevice, happens_pairs, lives_pairs, torn_device_after, events_for, all_events_for, all_fit, restarting_pairs, SettlesAll, SettlesNone, TornCommitHolds}
use Rattle.claim_device_pairs.proofs.Device.{after, fit_append, crash_falls, happens_follows}
use Rattle.claim_device_pairs.proofs.Claims.{both_fit, list-append, laws, follow, reached, torn_device_holds}

module _ (g : Geometry) where
  lives-append : (d : TornDevice g) (hs ks : List TornHappening) → lives_pairs g d (hs ++ ks) ≡ lives_pairs g (lives_pairs g d hs) ks
  unfolding lives_pairs
  lives-append d [] ks = refl
  lives-append d (h ∷ hs) ks = lives-append (happens_pairs g d h) hs ks

  after_one : (store : List ℕ) (hs : List TornHappening) (h : TornHappening) → torn_device_after g store (hs ++ (h ∷ [])) ≡ happens_pairs g (torn_device_after g store hs) h
  unfolding torn_device_after lives_pairs
  after_one store hs h = lives-append _ hs (h ∷ [])

module _ (g : Geometry) (proper : Proper g) (torn : g.tears ≡ true) (store : List ℕ) (sized : length store ≡ (paired_pages g).size) (hs : List TornHappening) (fit : all_fit g (all_events_for g hs) ≡ true) where
  abbrev d : TornDevice g
  d = torn_device_after g store hs

  agrees : d.medium ≡ d.memory.store
  agrees = (follow g proper torn store sized hs fit).medium

  sound : Sound (in_pairs g) d.memory
  sound = rw (follow g proper torn store sized hs fit).memory (reached g proper torn store sized hs fit).sound

  fits_one : (h : TornHappening) (more : List TornHappening) → all_fit g (all_events_for g (h ∷ more)) ≡ true → (all_fit g (events_for g h) ≡ true) × (all_fit g (all_events_for g more) ≡ true)
  unfolding all_events_for
  fits_one h more e = fit_append g (events_for g h) (all_events_for g more) e

  fits_with : (h : TornHappening) → all_fit g (events_for g h) ≡ true → all_fit g (all_events_for g (hs ++ (h ∷ []))) ≡ true
  unfolding all_events_for all_fit
  fits_with h e = rw (list-append g hs (h ∷ [])) (both_fit g (all_events_for g hs) (events_for g h ++ []) fit (both_fit g (events_for g h) [] e refl))

  -- what happens, then restarts: settled as after the first
  then_restarts : (h : TornHappening) (more : List TornHappening) → all_fit g (all_events_for g (h ∷ more)) ≡ true → restarting_pairs g more ≡ true → (r : ℕ)
      → settled g (shown (torn_device_after g store (hs ++ (h ∷ more))).medium) r ≡ settled g (shown (happens_pairs g d h).medium) r
  then_restarts h more f e r =
      let b = fits_one h more f in
      ap (λ (ks : List TornHappening). settled g (shown (torn_device_after g store ks).medium) r) (sym (append_assoc hs (h ∷ []) more))
      ∙ (torn_device_holds g proper torn store sized (hs ++ (h ∷ [])) (fits_with h b.0)).survives_tears more b.1 e r
      ∙ ap (λ (x : TornDevice g). settled g (shown x.medium) r) (after_one g store hs h)

  -- cut by a crash, the medium is what the commit leaves with the count that says so
  failed_medium : (t n j : ℕ) → all_fit g (events_for g (fails (commit t n) j)) ≡ true → (happens_pairs g d (fails (commit t n) j)).medium ≡ (step (in_pairs g) d.memory (some (commit t (behind j)))).state.store
  unfolding events_for after cut_to down
  failed_medium t n j f =
      let F = happens_follows g proper torn d agrees (fails (commit t n) j) f in
      F.medium ∙ ap (λ s. s.store) (F.memory ∙ crash_falls g proper torn (step (in_pairs g) d.memory (some (commit t (behind j)))).state)

  torn_medium : (t n j : ℕ) → all_fit g (events_for g (tears (commit t n) j)) ≡ true → (happens_pairs g d (tears (commit t n) j)).medium ≡ (step (in_pairs g) d.memory (some (commit t (within j)))).state.store
  unfolding events_for after cut_to down
  torn_medium t n j f =
      let F = happens_follows g proper torn d agrees (tears (commit t n) j) f in
      F.medium ∙ ap (λ s. s.store) (F.memory ∙ crash_falls g proper torn (step (in_pairs g) d.memory (some (commit t (within j)))).state)

  played_medium : (t n : ℕ) → all_fit g (events_for g (plays (commit t n))) ≡ true → (happens_pairs g d (plays (commit t n))).medium ≡ (step (in_pairs g) d.memory (some (wholly g (commit t n)))).state.store
  unfolding events_for after
  played_medium t n f =
      let F = happens_follows g proper torn d agrees (plays (commit t n)) f in
      F.medium ∙ ap (λ s. s.store) F.memory

  -- on the medium as in the store of a step
  all_on : (t : ℕ) (h : TornHappening) (more : List TornHappening) → all_fit g (all_events_for g (h ∷ more)) ≡ true → restarting_pairs g more ≡ true → (x : Pairs) → (happens_pairs g d h).medium ≡ x
      → All (in_pairs g) (laws g proper torn store sized) d.memory sound t x → SettlesAll g store hs t h more
  all_on t h more f e x q a r = then_restarts h more f e r ∙ ap (λ (m : Pairs). settled g (shown m) r) q ∙ a r ∙ ap (λ (m : Pairs). else (d.memory.version t r) (settled g (shown m) r)) (sym agrees)

  either_on : (t : ℕ) (h : TornHappening) (more : List TornHappening) → all_fit g (all_events_for g (h ∷ more)) ≡ true → restarting_pairs g more ≡ true → (x : Pairs) → (happens_pairs g d h).medium ≡ x
      → All (in_pairs g) (laws g proper torn store sized) d.memory sound t x ⊎ None (in_pairs g) (laws g proper torn store sized) d.memory sound x
      → SettlesAll g store hs t h more ⊎ SettlesNone g store hs h more
  either_on t h more f e x q (inl a) = inl (all_on t h more f e x q a)
  either_on t h more f e x q (inr a) = inr (λ r. then_restarts h more f e r ∙ ap (λ (m : Pairs). settled g (shown m) r) q ∙ a r ∙ ap (λ (m : Pairs). settled g (shown m) r) (sym agrees))

  -- OF EVERY COMMIT on a device whose writes tear
  pub torn_commit_holds : (t n : ℕ) → TornCommitHolds g store hs t n
  unfolding wholly cut_to
  torn_commit_holds t n = record {
    cut_between = λ j more f e. either_on t (fails (commit t n) j) more f e _ (failed_medium t n j (fits_one _ more f).0) (commit_either (in_pairs g) (laws g proper torn store sized) d.memory sound t (behind j));
    cut_within = λ j more f e. either_on t (tears (commit t n) j) more f e _ (torn_medium t n j (fits_one _ more f).0) (commit_either (in_pairs g) (laws g proper torn store sized) d.memory sound t (within j));
    acknowledged = λ v a l more f e. all_on t (plays (commit t n)) more f e _ (played_medium t n (fits_one _ more f).0) (commit_done (in_pairs g) (laws g proper torn store sized) d.memory sound t (uncut g) v a l);
  }

-- of the form of document 02, L5
pub torn_commit_pairs : (store : List ℕ) → length store ≡ 2178 → (hs : List TornHappening) → all_fit geometry_pairs (all_events_for geometry_pairs hs) ≡ true → (t n : ℕ) → TornCommitHolds geometry_pairs store hs t n
unfolding page_count records
torn_commit_pairs store sized hs fit t n = torn_commit_holds geometry_pairs proper_pairs refl store (sized ∙ size) hs fit t n
  where
    size : 2178 ≡ (paired_pages geometry_pairs).size
    size = refl
