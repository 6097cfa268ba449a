-- A commit on a device: all or none wherever the power goes, and all once it is acknowledged.
use mathlib.Core.Path.{◌≡◌, refl, sym, ap, ◌∙◌}
use mathlib.Core.Bool.{true}
use mathlib.Core.List.{List, [], ◌∷◌, ◌++◌, append_assoc}
use mathlib.Core.Logic.{◌⊎◌, inl, inr}
use mathlib.Core.Option.{Option, some}
use Prim.Native.Nat.{ℕ}
use lib.ListN.{length}
use Rattle.rules.specs.Geometry.{Geometry, Proper}
use Rattle.rules.specs.Store.{Pages, settled}
use Rattle.rules.specs.Event.{Event, commit, decode}
use Rattle.rules.specs.Versions.{else}
use Rattle.rules.specs.Form.{atomic_pages, atomic}
use Rattle.rules.specs.Step.{step}
use Rattle.rules.specs.Sound.{Sound}
use Rattle.rules.proofs.AtomicPages.{atomic_laws}
use Rattle.claim_device.specs.Plan.{lesser, count_of, with_count}
use Rattle.claim_device.specs.Device.{Happening, plays, fails, Device, restarted, happens, lives, device_after, cut_word, restarting, CommitHolds}
use Rattle.claim_device.proofs.Device.{cut_decodes, played_store, failed_store}
use Rattle.claim_device.proofs.CommitStep.{All, None, commit_either, commit_done}
use Rattle.claim_device.proofs.Claims.{follow, survives_is, sound_memory}

module _ (g : Geometry) where
  lives-append : (d : Device g) (hs ks : List Happening) → lives g d (hs ++ ks) ≡ lives g (lives g d hs) ks
  unfolding lives
  lives-append d [] ks = refl
  lives-append d (h ∷ hs) ks = lives-append (happens g d h) hs ks

  after_one : (store : List ℕ) (hs : List Happening) (h : Happening) → device_after g store (hs ++ (h ∷ [])) ≡ happens g (device_after g store hs) h
  unfolding device_after lives
  after_one store hs h = lives-append _ hs (h ∷ [])

module _ (g : Geometry) (proper : Proper g) (store : List ℕ) (sized : length store ≡ (atomic_pages g).size) (hs : List Happening) where
  abbrev d : Device g
  d = device_after g store hs

  -- what happens, then restarts: settled as after the first
  then_restarts : (h : Happening) (more : List Happening) → restarting g more ≡ true → (r : ℕ) → settled g (device_after g store (hs ++ (h ∷ more))).medium r ≡ settled g (happens g d h).medium r
  then_restarts h more e r =
      ap (λ (ks : List Happening). settled g (device_after g store ks).medium r) (sym (append_assoc hs (h ∷ []) more))
      ∙ survives_is g proper store sized (hs ++ (h ∷ [])) more e r
      ∙ ap (λ (x : Device g). settled g x.medium r) (after_one g store hs h)

  agrees : d.medium ≡ d.memory.store
  agrees = (follow g proper store sized hs).medium

  sound : Sound (atomic g) d.memory
  sound = sound_memory g proper store sized hs

  -- the page writes that reached the medium are those of the commit with a lesser count
  failed_medium : (w t n k : ℕ) → decode g w ≡ some (commit t n) → (happens g d (fails w k)).medium ≡ (step (atomic g) d.memory (some (commit t (lesser k n)))).state.store
  unfolding happens restarted with_count count_of
  failed_medium w t n k q =
      let cut : (step (atomic g) d.memory (decode g (cut_word g w k (some (commit t n))))).state.store ≡ (step (atomic g) d.memory (some (commit t (lesser k n)))).state.store
      = ap (λ (o : Option Event). (step (atomic g) d.memory o).state.store) (cut_decodes g w k (commit t n) q) in
      rw (q, agrees) (failed_store g d.memory w k (some (commit t n)) q ∙ cut)

  played_medium : (w t n : ℕ) → decode g w ≡ some (commit t n) → (happens g d (plays w)).medium ≡ (step (atomic g) d.memory (some (commit t n))).state.store
  unfolding happens
  played_medium w t n q = rw (q, agrees) (played_store g d.memory (some (commit t n)))

  -- OF EVERY COMMIT on a device
  pub commit_holds : (w t n : ℕ) → decode g w ≡ some (commit t n) → CommitHolds g store hs w t
  commit_holds w t n q = record {
    all_or_none = λ k more e. either k more e (commit_either (atomic g) (atomic_laws g proper) d.memory sound t (lesser k n));
    acknowledged = λ v a l more e r.
        then_restarts (plays w) more e r
        ∙ ap (λ (x : Pages). settled g x r) (played_medium w t n q)
        ∙ commit_done (atomic g) (atomic_laws g proper) d.memory sound t n v (rw q at a) l r
        ∙ ap (λ (x : Pages). else (d.memory.version t r) (settled g x r)) (sym agrees);
  }
    where
      lead : (k : ℕ) (more : List Happening) → restarting g more ≡ true → (r : ℕ)
          → settled g (device_after g store (hs ++ (fails w k ∷ more))).medium r ≡ settled g (step (atomic g) d.memory (some (commit t (lesser k n)))).state.store r
      lead k more e r = then_restarts (fails w k) more e r ∙ ap (λ (x : Pages). settled g x r) (failed_medium w t n k q)

      either : (k : ℕ) (more : List Happening) → restarting g more ≡ true
          → let x = (step (atomic g) d.memory (some (commit t (lesser k n)))).state.store in
          All (atomic g) (atomic_laws g proper) d.memory sound t x ⊎ None (atomic g) (atomic_laws g proper) d.memory sound x
          → ((r : ℕ) → settled g (device_after g store (hs ++ (fails w k ∷ more))).medium r ≡ else (d.memory.version t r) (settled g d.medium r))
          ⊎ ((r : ℕ) → settled g (device_after g store (hs ++ (fails w k ∷ more))).medium r ≡ settled g d.medium r)
      either k more e (inl a) = inl (λ r. lead k more e r ∙ a r ∙ ap (λ (x : Pages). else (d.memory.version t r) (settled g x r)) (sym agrees))
      either k more e (inr a) = inr (λ r. lead k more e r ∙ a r ∙ ap (λ (x : Pages). settled g x r) (sym agrees))
