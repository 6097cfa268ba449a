-- Edition 2, and the form whose pages tear, cite the proofs that are over the form; nothing about the number of records or the medium is proved again.
use mathlib.Core.Path.{◌≡◌, refl}
use mathlib.Core.Bool.{Bool}
use mathlib.Core.List.{List}
use Prim.Native.Nat.{ℕ}
use lib.ListN.{length}
use Rattle.rules.specs.Step.{StateOf}
use Rattle.rules.specs.Editions.{geometry2, edition2, geometry_pairs, edition_pairs}
use Rattle.rules.proofs.Medium.{MediumLaws}
use Rattle.rules.proofs.Editions.{proper2, proper_pairs}
use Rattle.rules.proofs.AtomicPages.{atomic_laws}
use Rattle.rules.proofs.PairedPages.{paired_laws}
use Rattle.history.specs.Demand3.{Demand3Holds}
use Rattle.history.specs.Claims.{ReadsOverlay, CommitSurvives}
use Rattle.history.specs.Joined.{Demand3JoinedHolds}
use Rattle.history.specs.Survival.{SurvivesInK}
use Rattle.history.proofs.Demand3.{demand_3}
use Rattle.history.proofs.Claims.{reads_overlay, commit_survives}
use Rattle.history.proofs.Joined.{demand_3_joined}
use Rattle.history.proofs.Survival.{survives_in_k, survives_torn}

laws2 : MediumLaws edition2.geometry edition2.medium
laws2 = atomic_laws geometry2 proper2

-- DEMAND 3, of a whole run and of the joined list of portions
pub demand_3_edition2 : Demand3Holds edition2
demand_3_edition2 = demand_3 edition2 laws2

pub demand_3_joined_edition2 : (sound : StateOf edition2 → Bool) → Demand3JoinedHolds edition2 sound
demand_3_joined_edition2 = demand_3_joined edition2 laws2

-- THE CENTRAL LAW, and what crashes and recoveries leave
pub reads_overlay_edition2 : (store ws : List ℕ) → length store ≡ edition2.medium.size → ReadsOverlay edition2 store ws
reads_overlay_edition2 = reads_overlay edition2 laws2

pub commit_survives_edition2 : (store ws more : List ℕ) → length store ≡ edition2.medium.size → CommitSurvives edition2 store ws more
commit_survives_edition2 = commit_survives edition2 laws2

-- a top transaction survives exactly if n = 0 or its count is at least n + 1
pub survives_in_k_edition2 : (store ws more : List ℕ) (w t k : ℕ) → length store ≡ edition2.medium.size → SurvivesInK edition2 store ws more w t k
survives_in_k_edition2 = survives_in_k geometry2 proper2 refl

-- PAGES THAT CAN TEAR (document 02, L5). "Demand 3 reads the records through the pairs, on the premise of at most one bad copy in each": it holds of every start
-- store, so of those too; that every store of the run has at most one bad copy in each pair then is rules' `one_bad_kept`.
laws_pairs : MediumLaws edition_pairs.geometry edition_pairs.medium
laws_pairs = paired_laws geometry_pairs proper_pairs refl

pub demand_3_pairs : Demand3Holds edition_pairs
demand_3_pairs = demand_3 edition_pairs laws_pairs

pub demand_3_joined_pairs : (sound : StateOf edition_pairs → Bool) → Demand3JoinedHolds edition_pairs sound
demand_3_joined_pairs = demand_3_joined edition_pairs laws_pairs

-- a top transaction survives exactly if n = 0 or its count is at least n + 1, a torn write counting whose first copy is new
pub survives_in_k_pairs : (store ws more : List ℕ) (w t k : ℕ) → length store ≡ edition_pairs.medium.size → SurvivesInK edition_pairs store ws more w t k
survives_in_k_pairs = survives_torn geometry_pairs proper_pairs refl
