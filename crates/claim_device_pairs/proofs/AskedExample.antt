-- The copy writes of a refresh of record 3, asked one by one, and what is refused.
use mathlib.Core.Path.{◌≡◌, refl}
use mathlib.Core.Bool.{Bool, true, false}
use mathlib.Core.List.{List, [], ◌∷◌, ◌++◌}
use Prim.Native.Nat.{ℕ}
use lib.ListN.{replicate}
use Rattle.laws.specs.Tests.{open_tests}
use Rattle.laws.specs.Counting.{open_counting}
use Rattle.laws.specs.Functions.{open_functions}
use Rattle.laws.specs.Bytes.{bytes, open_bytes}
use Rattle.rules.specs.Geometry.{open_geometry}
use Rattle.rules.specs.Store.{open_store}
use Rattle.rules.specs.Event.{Event, begin, commit, recover, encode, open_event}
use Rattle.rules.specs.State.{open_state}
use Rattle.rules.specs.Locks.{open_locks}
use Rattle.rules.specs.Versions.{open_versions}
use Rattle.rules.specs.Commit.{open_commit}
use Rattle.rules.specs.Pairs.{open_pairs}
use Rattle.rules.specs.Step.{open_step}
use Rattle.rules.specs.Editions.{geometry_pairs}
use Rattle.claim_device.specs.Plan.{open_plan}
use Rattle.claim_device.specs.CopyWrites.{open_copy_writes}
use Rattle.claim_device.specs.Asked.{Asked, asked, open_asked}
use Rattle.claim_device_pairs.specs.Copies.{open_copies}
use Rattle.claim_device_pairs.specs.Device.{TornHappening, tears, torn_device_after, open_torn_device}
use Rattle.claim_device_pairs.proofs.Example.{setup, store, nine, empty, committed}

abbrev word : Event → List ℕ
word e = bytes 4 (encode geometry_pairs e)

abbrev work : List ℕ
work = replicate 8192 0

abbrev room : List ℕ
room = replicate 34 7

-- the state after what happened, found sound
abbrev asks : List TornHappening → Event → ℕ → Asked
asks hs e index = asked true geometry_pairs true (torn_device_after geometry_pairs store hs).memory store (word e) work index room

-- two for each page write, the first copy first; and no more
pub told_copies : ((asks setup (commit 0 0) 0).write ≡ 4 ∷ 0 ∷ nine) × ((asks setup (commit 0 0) 1).write ≡ 4 ∷ 1 ∷ nine) × ((asks setup (commit 0 0) 2).write ≡ 0 ∷ 0 ∷ committed)
    × ((asks setup (commit 0 0) 3).write ≡ 0 ∷ 1 ∷ committed) × ((asks setup (commit 0 0) 4).write ≡ 20 ∷ 0 ∷ nine) × ((asks setup (commit 0 0) 5).write ≡ 20 ∷ 1 ∷ nine)
    × ((asks setup (commit 0 0) 6).write ≡ 0 ∷ 0 ∷ empty) × ((asks setup (commit 0 0) 7).write ≡ 0 ∷ 1 ∷ empty) × ((asks setup (commit 0 0) 7).answer ≡ 0)
    × ((asks setup (commit 0 0) 8).answer ≡ 12) × ((asks setup (commit 0 0) 8).write ≡ room)
unfolding open_tests open_counting open_functions open_bytes open_geometry open_store open_event open_state open_locks open_versions open_commit open_pairs open_step open_plan open_copy_writes open_asked open_copies open_torn_device
told_copies = (refl, refl, refl, refl, refl, refl, refl, refl, refl, refl, refl)

-- Of a recovery once the second copy of the commit page was torn: the home page and the empty commit page. That each pair is mended before is none of them; an event
-- that is refused, and one that writes no page, has none.
abbrev torn : List TornHappening
torn = tears (commit 0 0) 3 ∷ []

pub told_recovery : ((asks (setup ++ torn) (recover 0) 0).write ≡ 20 ∷ 0 ∷ nine) × ((asks (setup ++ torn) (recover 0) 1).write ≡ 20 ∷ 1 ∷ nine)
    × ((asks (setup ++ torn) (recover 0) 3).write ≡ 0 ∷ 1 ∷ empty) × ((asks (setup ++ torn) (recover 0) 4).answer ≡ 12)
    × ((asks (setup ++ torn) (commit 0 0) 0).answer ≡ 12) × ((asks setup (begin 0) 0).answer ≡ 12)
unfolding open_tests open_counting open_functions open_bytes open_geometry open_store open_event open_state open_locks open_versions open_commit open_pairs open_step open_plan open_copy_writes open_asked open_copies open_torn_device
told_recovery = (refl, refl, refl, refl, refl, refl)

-- the refusals in their order: store, working buffer, event, the buffer for a copy write, and what is lent as a state; then nothing is left in the buffer
abbrev answers : Bool → List ℕ → List ℕ → List ℕ → List ℕ → Asked
answers sound bytes event buffer write = asked true geometry_pairs sound (torn_device_after geometry_pairs store setup).memory bytes event buffer 0 write

pub refused_copies : ((answers false (replicate 1056 0) [] [] []).answer ≡ 22) × ((answers false store [] [] []).answer ≡ 24)
    × ((answers false store (replicate 8 0) work []).answer ≡ 20) × ((answers false store (word (commit 0 0)) work (replicate 33 7)).answer ≡ 21)
    × ((answers false store (word (commit 0 0)) work room).answer ≡ 25) × ((answers false store (word (commit 0 0)) work room).write ≡ room)
    × ((answers true store (word (commit 0 0)) work room).answer ≡ 0)
unfolding open_tests open_counting open_functions open_bytes open_geometry open_store open_event open_state open_locks open_versions open_commit open_pairs open_step open_plan open_copy_writes open_asked open_copies open_torn_device
refused_copies = (refl, refl, refl, refl, refl, refl, refl)
