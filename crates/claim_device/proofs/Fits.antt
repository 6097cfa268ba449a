-- Every write of a plan is a page of the store: its number is one of the store's, its bytes are a page.
use mathlib.Core.Bool.{Bool, true, false}
use mathlib.Core.List.{List, [], ◌∷◌}
use mathlib.Core.Option.{Option, none, some}
use Prim.Native.Nat.{ℕ}
use Rattle.rules.specs.Geometry.{Geometry, page_count}
use Rattle.rules.specs.Store.{Page, intention}
use Rattle.rules.specs.Event.{Event, begin, lock, write, read, commit, abort, crash, recover, prepare, decide, query}
use Rattle.rules.specs.State.{line_of}
use Rattle.rules.specs.Commit.{page_in, commit_plan, recover_plan, prepare_plan}
use Rattle.rules.specs.Form.{atomic}
use Rattle.rules.specs.Step.{StateOf, refusal}
use Rattle.rules.specs.Sound.{Sound}
use Rattle.rules.proofs.Medium.{Paged}
use Rattle.rules.proofs.Pages.{Sized}
use Rattle.rules.proofs.Writable.{Fit, fit_commit, fit_recover, fit_prepare, fit_decide}
use Rattle.rules.proofs.AtomicCommits.{changed, changes, sound_versions, in_force, planned, sound_planned}
use Rattle.rules.proofs.AtomicDecides.{reserved_planned}
use Rattle.claim_device.specs.Plan.{line_plan, decision_plan, accepted_plan, plan_by, plan_of}

module _ (g : Geometry) (s : StateOf (atomic g)) (S : Sound (atomic g) s) (Z : Sized (page_count g) s.store) where
  commit_fits : (v : ℕ → Option Page) → Paged v → Fit (page_count g) (commit_plan g v)
  unfolding changes changed
  commit_fits v paged = fit_commit g (page_in v) _ (changes g v) (sound_versions g v paged)

  recover_fits : Fit (page_count g) (recover_plan g s.store)
  unfolding in_force planned
  recover_fits = fit_recover g (planned g s.store) (in_force g s.store) (sound_planned g s.store Z)

  prepare_fits : (v : ℕ → Option Page) (i : ℕ) → Paged v → Fit (page_count g) (prepare_plan g v i)
  unfolding changes changed
  prepare_fits v i paged = fit_prepare g (page_in v) _ (changes g v) (sound_versions g v paged)

  decision_fits : (d b : Bool) → Fit (page_count g) (decision_plan g s.store d b)
  unfolding decision_plan Fit
  decision_fits d true = fit_decide g d (λ r. s.store (intention r)) _ _ (reserved_planned g s.store Z)
  decision_fits d false = tt

  line_fits : (v : ℕ → Option Page) → Paged v → (l : List ℕ) → Fit (page_count g) (line_plan g v l)
  unfolding line_plan Fit
  line_fits v paged [] = commit_fits v paged
  line_fits v paged (a ∷ []) = commit_fits v paged
  line_fits v paged (a ∷ y ∷ l) = tt

  by_fits : (e : Event) (p : Option ℕ) → Fit (page_count g) (plan_by false g s e p)
  unfolding plan_by accepted_plan Fit
  by_fits e (some n) = tt
  by_fits (begin p) none = tt
  by_fits (lock t r a) none = tt
  by_fits (write t r o v) none = tt
  by_fits (read t r o) none = tt
  by_fits (commit t k) none = line_fits (s.version t) (S.paged t) (line_of s.bearer t)
  by_fits (abort t w) none = tt
  by_fits crash none = tt
  by_fits (recover k) none = recover_fits
  by_fits (prepare t k i) none = prepare_fits (s.version t) i (S.paged t)
  by_fits (decide d k i) none = decision_fits d _
  by_fits (query i) none = tt

  pub plan_fits : (e : Event) → Fit (page_count g) (plan_of false g s e)
  unfolding plan_of
  plan_fits e = by_fits e (refusal (atomic g) s e)
