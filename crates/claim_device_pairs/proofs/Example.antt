-- A refresh of record 3 on the device whose writes tear: its copy writes; the power goes between two of them and within one; and again while it recovers. And two
-- devices that differ in what is lost.
use mathlib.Core.Path.{◌≡◌, refl}
use mathlib.Core.Bool.{true}
use mathlib.Core.List.{List, [], ◌∷◌, ◌++◌}
use Prim.Native.Nat.{ℕ}
use lib.ListN.{replicate}
use Rattle.laws.specs.Tests.{open_tests}
use Rattle.laws.specs.Counting.{open_counting}
use Rattle.laws.specs.Functions.{open_functions}
use Rattle.laws.specs.Bytes.{open_bytes}
use Rattle.rules.specs.Geometry.{nobody, open_geometry}
use Rattle.rules.specs.Store.{Page, settled, open_store}
use Rattle.rules.specs.Event.{begin, lock, write, commit, crash, recover, to_write, open_event}
use Rattle.rules.specs.State.{open_state}
use Rattle.rules.specs.Locks.{open_locks}
use Rattle.rules.specs.Versions.{open_versions}
use Rattle.rules.specs.Commit.{open_commit}
use Rattle.rules.specs.Pairs.{Pair, Pairs, shown, open_pairs}
use Rattle.rules.specs.Step.{open_step}
use Rattle.rules.specs.Run.{open_run}
use Rattle.rules.specs.Editions.{geometry_pairs, edition_pairs}
use Rattle.history.specs.History.{survives, open_history}
use Rattle.history.specs.Demand3.{Along, SameEvent, same_word, other_value, start_of, open_demand}
use Rattle.history.specs.Claims.{rows_after, open_claims}
use Rattle.claim_device.specs.Plan.{plan_of, open_plan}
use Rattle.claim_device.specs.CopyWrites.{first, second, copies_of, open_copy_writes}
use Rattle.claim_device_pairs.specs.Copies.{open_copies}
use Rattle.claim_device_pairs.specs.Device.{TornHappening, plays, fails, tears, loses, torn_device_after, events_for, words_for, torn_device_history, open_torn_device}

abbrev wrote : ℕ → List TornHappening
wrote v = plays (recover 0) ∷ plays (begin nobody) ∷ plays (lock 0 3 to_write) ∷ plays (write 0 3 0 v) ∷ []

abbrev pub setup : List TornHappening
setup = wrote 9

abbrev pub store : List ℕ
store = edition_pairs.medium.to_bytes edition_pairs.medium.fresh

abbrev medium : List TornHappening → Pairs
medium hs = (torn_device_after geometry_pairs store hs).medium

abbrev pub nine : Page
nine = 9 ∷ replicate 31 0

abbrev zeros : Page
zeros = replicate 32 0

abbrev pub empty : Page
empty = 0x10 ∷ replicate 31 0

abbrev pub committed : Page
committed = 0x15 ∷ 0x10 ∷ 0x00 ∷ 0x08 ∷ replicate 28 0

-- a pair by its copies: status and page, of the first and of the second
abbrev pair : ℕ → Page → ℕ → Page → Pair
pair a p b q = record { first = record { status = a; page = p }; second = record { status = b; page = q } }

-- two copy writes a page, the first copy first; a child's commit, and an event that is refused, has none
pub copies : copies_of (plan_of true geometry_pairs (torn_device_after geometry_pairs store setup).memory (commit 0 0))
    ≡ first 4 nine ∷ second 4 nine ∷ first 0 committed ∷ second 0 committed ∷ first 20 nine ∷ second 20 nine ∷ first 0 empty ∷ second 0 empty ∷ []
unfolding open_tests open_counting open_functions open_bytes open_geometry open_store open_event open_state open_locks open_versions open_commit open_pairs open_step open_plan open_copy_writes open_copies open_torn_device
copies = refl

pub none_refused : copies_of (plan_of true geometry_pairs (torn_device_after geometry_pairs store setup).memory (recover 0)) ≡ []
unfolding open_tests open_counting open_functions open_bytes open_geometry open_store open_event open_state open_locks open_versions open_commit open_pairs open_step open_plan open_copy_writes open_copies open_torn_device
none_refused = refl

pub none_of_a_child : copies_of (plan_of true geometry_pairs (torn_device_after geometry_pairs store (setup ++ (plays (begin 0) ∷ plays (lock 1 5 to_write) ∷ plays (write 1 5 0 9) ∷ []))).memory (commit 1 0)) ≡ []
unfolding open_tests open_counting open_functions open_bytes open_geometry open_store open_event open_state open_locks open_versions open_commit open_pairs open_step open_plan open_copy_writes open_copies open_torn_device
none_of_a_child = refl

-- what stands for a power cut: between page writes, within a first copy, within a second, between the copies of a page
pub stands : (events_for geometry_pairs (fails (commit 0 0) 2) ≡ commit 0 4 ∷ crash ∷ []) × (events_for geometry_pairs (tears (commit 0 0) 2) ≡ commit 0 5 ∷ crash ∷ [])
    × (events_for geometry_pairs (tears (commit 0 0) 3) ≡ commit 0 6 ∷ crash ∷ []) × (events_for geometry_pairs (fails (commit 0 0) 3) ≡ commit 0 7 ∷ crash ∷ [])
unfolding open_copies open_torn_device
stands = (refl, refl, refl, refl)

-- and what it leaves of the commit page
pub within_first : medium (setup ++ (tears (commit 0 0) 2 ∷ [])) 0 ≡ pair 0 empty 1 empty
unfolding open_tests open_counting open_functions open_bytes open_geometry open_store open_event open_state open_locks open_versions open_commit open_pairs open_step open_plan open_copy_writes open_copies open_torn_device
within_first = refl

pub within_second : medium (setup ++ (tears (commit 0 0) 3 ∷ [])) 0 ≡ pair 1 committed 0 empty
unfolding open_tests open_counting open_functions open_bytes open_geometry open_store open_event open_state open_locks open_versions open_commit open_pairs open_step open_plan open_copy_writes open_copies open_torn_device
within_second = refl

pub between_copies : medium (setup ++ (fails (commit 0 0) 3 ∷ [])) 0 ≡ pair 1 committed 1 empty
unfolding open_tests open_counting open_functions open_bytes open_geometry open_store open_event open_state open_locks open_versions open_commit open_pairs open_step open_plan open_copy_writes open_copies open_torn_device
between_copies = refl

-- Lost within the first copy of the commit page; there within its second, also where the recovery is torn twice before it is whole.
pub lost : settled geometry_pairs (shown (medium (setup ++ (tears (commit 0 0) 2 ∷ plays (recover 0) ∷ [])))) 3 ≡ zeros
unfolding open_tests open_counting open_functions open_bytes open_geometry open_store open_event open_state open_locks open_versions open_commit open_pairs open_step open_plan open_copy_writes open_copies open_torn_device
lost = refl

pub kept : medium (setup ++ (tears (commit 0 0) 3 ∷ tears (recover 0) 0 ∷ tears (recover 0) 3 ∷ loses ∷ plays (recover 0) ∷ [])) 20 ≡ pair 1 nine 1 nine
unfolding open_tests open_counting open_functions open_bytes open_geometry open_store open_event open_state open_locks open_versions open_commit open_pairs open_step open_plan open_copy_writes open_copies open_torn_device
kept = refl

-- Two devices that the same happens to but for the byte that they write, lost behind the intention page: the premise of `two_devices` is met, and the intention pages
-- differ.
abbrev early : ℕ → List TornHappening
early v = wrote v ++ (fails (commit 0 0) 2 ∷ [])

pub two_alike : Along geometry_pairs (SameEvent geometry_pairs (survives (torn_device_history geometry_pairs store (early 9)))) (start_of edition_pairs store)
    (rows_after edition_pairs store (words_for geometry_pairs (early 9))) (rows_after edition_pairs store (words_for geometry_pairs (early 8)))
unfolding open_tests open_counting open_functions open_bytes open_geometry open_store open_event open_state open_locks open_versions open_commit open_pairs open_step open_run open_history open_demand open_claims open_copies open_torn_device
two_alike = (same_word refl, (same_word refl, (same_word refl, (other_value 0 3 0 9 8 refl refl refl refl, (same_word refl, (same_word refl, tt))))))

pub other_intention : (shown (medium (early 9)) 4 ≡ nine) × (shown (medium (early 8)) 4 ≡ 8 ∷ replicate 31 0)
unfolding open_tests open_counting open_functions open_bytes open_geometry open_store open_event open_state open_locks open_versions open_commit open_pairs open_step open_plan open_copy_writes open_copies open_torn_device
other_intention = (refl, refl)
