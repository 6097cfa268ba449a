-- A refresh of two records on edition 1's device: its plan; the power goes among its writes; and the same pages sent in page order, which is the accident.
use mathlib.Core.Path.{◌≡◌, refl}
use mathlib.Core.Bool.{true, false}
use mathlib.Core.List.{List, [], ◌∷◌, ◌++◌}
use Prim.Native.Nat.{ℕ}
use lib.ListN.{replicate}
use Rattle.laws.specs.Tests.{open_tests}
use Rattle.laws.specs.Counting.{open_counting}
use Rattle.laws.specs.Functions.{open_functions}
use Rattle.laws.specs.Bytes.{open_bytes}
use Rattle.rules.specs.Geometry.{nobody, open_geometry}
use Rattle.rules.specs.Store.{Page, Prepared, flat, commit_page, prepared_page, settled, damaged, fresh, open_store}
use Rattle.rules.specs.Event.{Event, begin, lock, write, commit, recover, prepare, decide, to_write, encode, open_event}
use Rattle.rules.specs.State.{open_state}
use Rattle.rules.specs.Locks.{open_locks}
use Rattle.rules.specs.Versions.{open_versions}
use Rattle.rules.specs.Commit.{PageWrite, sets, open_commit}
use Rattle.rules.specs.Form.{atomic}
use Rattle.rules.specs.Step.{StateOf, open_step}
use Rattle.rules.specs.Run.{open_run}
use Rattle.rules.specs.Editions.{geometry1}
use Rattle.claim_device.specs.Plan.{carried, plan_of, open_plan}
use Rattle.claim_device.specs.Device.{Happening, plays, fails, device_after, open_device}

abbrev played : Event → Happening
played e = plays (encode geometry1 e)

abbrev setup : List Happening
setup =
    played (recover 63) ∷ played (begin nobody) ∷ played (lock 0 0 to_write) ∷ played (lock 0 1 to_write) ∷ played (write 0 0 0 7) ∷ played (write 0 1 0 8) ∷ []

abbrev store : List ℕ
store = flat 33 (fresh geometry1)

abbrev a : Page
a = 7 ∷ replicate 31 0

abbrev b : Page
b = 8 ∷ replicate 31 0

abbrev zeros : Page
zeros = replicate 32 0

-- intention pages, commit page, home pages, empty commit page
pub plan : plan_of false geometry1 (device_after geometry1 store setup).memory (commit 0 63)
    ≡ sets 1 a ∷ sets 2 b ∷ sets 0 (commit_page geometry1 0xC000) ∷ sets 17 a ∷ sets 18 b ∷ sets 0 (commit_page geometry1 0) ∷ []
unfolding open_tests open_counting open_functions open_bytes open_geometry open_store open_event open_state open_locks open_versions open_commit open_step open_run open_plan open_device
plan = refl

-- a prepare stops at the commit page as prepared; a decision goes on from there, and on another identity it writes nothing
abbrev waiting : Prepared
waiting = record { map = 0xC000; identity = 9 }

abbrev prepared : StateOf (atomic geometry1)
prepared = (device_after geometry1 store (setup ++ (played (prepare 0 63 9) ∷ []))).memory

pub prepare_plan : plan_of false geometry1 (device_after geometry1 store setup).memory (prepare 0 63 9) ≡ sets 1 a ∷ sets 2 b ∷ sets 0 (prepared_page geometry1 waiting) ∷ []
unfolding open_tests open_counting open_functions open_bytes open_geometry open_store open_event open_state open_locks open_versions open_commit open_step open_run open_plan open_device
prepare_plan = refl

pub decide_plans : (plan_of false geometry1 prepared (decide true 63 9) ≡ sets 0 (commit_page geometry1 0xC000) ∷ sets 17 a ∷ sets 18 b ∷ sets 0 (commit_page geometry1 0) ∷ [])
    × (plan_of false geometry1 prepared (decide false 63 9) ≡ sets 0 (commit_page geometry1 0) ∷ []) × (plan_of false geometry1 prepared (decide true 63 8) ≡ [])
unfolding open_tests open_counting open_functions open_bytes open_geometry open_store open_event open_state open_locks open_versions open_commit open_step open_run open_plan open_device
decide_plans = (refl, refl, refl)

-- the settled bytes of the two records once the power has gone after k of the commit's writes
abbrev both : ℕ → List Happening → List Page
both k more = let m = (device_after geometry1 store (setup ++ (fails (encode geometry1 (commit 0 63)) k ∷ more))).medium in settled geometry1 m 0 ∷ settled geometry1 m 1 ∷ []

pub cut_early : both 2 [] ≡ zeros ∷ zeros ∷ []
unfolding open_tests open_counting open_functions open_bytes open_geometry open_store open_event open_state open_locks open_versions open_commit open_step open_run open_plan open_device
cut_early = refl

pub cut_late : both 3 (fails (encode geometry1 (recover 63)) 1 ∷ played (recover 63) ∷ []) ≡ a ∷ b ∷ []
unfolding open_tests open_counting open_functions open_bytes open_geometry open_store open_event open_state open_locks open_versions open_commit open_step open_run open_plan open_device
cut_late = refl

-- The pages that differ after the commit, in page order: cut after three, record 0 is new and record 1 old, and nothing tells.
abbrev differing : List PageWrite
differing = sets 1 a ∷ sets 2 b ∷ sets 17 a ∷ sets 18 b ∷ []

pub accident : (settled geometry1 (carried 3 differing (fresh geometry1)) 0 ≡ a) × (settled geometry1 (carried 3 differing (fresh geometry1)) 1 ≡ zeros)
    × (damaged geometry1 (carried 3 differing (fresh geometry1)) ≡ false)
unfolding open_tests open_counting open_functions open_bytes open_geometry open_store open_commit open_plan
accident = (refl, refl, refl)
