-- Edition 2: the page writes of a commit of two records after a list, one by one; what is left beside them; and what is refused.
use mathlib.Core.Path.{◌≡◌, refl}
use mathlib.Core.List.{List, [], ◌∷◌, ◌++◌}
use Prim.Native.Nat.{ℕ}
use lib.ListN.{replicate}
use Rattle.laws.specs.Tests.{open_tests}
use Rattle.laws.specs.Counting.{open_counting}
use Rattle.laws.specs.Functions.{open_functions}
use Rattle.laws.specs.Bytes.{bytes, open_bytes}
use Rattle.rules.specs.Geometry.{nobody, open_geometry}
use Rattle.rules.specs.Store.{Page, flat, commit_page, fresh, open_store}
use Rattle.rules.specs.Event.{Event, begin, lock, write, commit, recover, to_write, encode, open_event}
use Rattle.rules.specs.State.{open_state}
use Rattle.rules.specs.Locks.{open_locks}
use Rattle.rules.specs.Versions.{open_versions}
use Rattle.rules.specs.Commit.{open_commit}
use Rattle.rules.specs.Step.{open_step}
use Rattle.rules.specs.Run.{open_run}
use Rattle.rules.specs.Editions.{geometry2}
use Rattle.claim_device.specs.Plan.{open_plan}
use Rattle.claim_device.specs.Asked.{open_asked}
use Rattle.claim_device.specs.After.{AskedAfter, asked_after, open_after}

abbrev word : Event → List ℕ
word e = bytes 8 (encode geometry2 e)

abbrev store : List ℕ
store = flat 129 (fresh geometry2)

abbrev work : List ℕ
work = replicate 32768 0

-- transaction 0 writes 7 to record 63 and 8 to record 5
abbrev list : List ℕ
list = word (recover 255) ++ (word (begin nobody) ++ (word (lock 0 63 to_write) ++ (word (write 0 63 0 7) ++ (word (lock 0 5 to_write) ++ word (write 0 5 0 8)))))

-- an answer buffer with room for one answer more
abbrev answers : List ℕ
answers = replicate 14 9

abbrev room : List ℕ
room = replicate 33 4

abbrev a : Page
a = 7 ∷ replicate 31 0

abbrev b : Page
b = 8 ∷ replicate 31 0

abbrev asks : ℕ → AskedAfter
asks index = asked_after geometry2 store list work answers (word (commit 0 0)) index room

-- the intention pages of 5 and 63, the commit page, their home pages, the commit page as empty; and no more
pub told_after : ((asks 0).write ≡ 6 ∷ b) × ((asks 1).write ≡ 64 ∷ a) × ((asks 2).write ≡ 0 ∷ commit_page geometry2 0x0400000000000001) × ((asks 3).write ≡ 70 ∷ b)
    × ((asks 4).write ≡ 128 ∷ a) × ((asks 5).write ≡ 0 ∷ commit_page geometry2 0) × ((asks 5).answer ≡ 0) × ((asks 6).answer ≡ 12) × ((asks 6).write ≡ room)
unfolding open_tests open_counting open_functions open_bytes open_geometry open_store open_event open_state open_locks open_versions open_commit open_step open_run open_plan open_asked open_after
told_after = (refl, refl, refl, refl, refl, refl, refl, refl, refl)

-- the answers are the list's, and the event isn't played: the store is as it was
pub left_after : ((asks 0).answers ≡ replicate 12 0 ++ (9 ∷ 9 ∷ [])) × ((asks 0).store ≡ store)
unfolding open_tests open_counting open_functions open_bytes open_geometry open_store open_event open_state open_locks open_versions open_commit open_step open_run open_plan open_asked open_after
left_after = (refl, refl)

-- by the run's lengths first, then by those of the event and of the page write
pub refused_after : ((asked_after geometry2 (replicate 1056 0) list work answers [] 0 []).answer ≡ 22)
    × ((asked_after geometry2 store list [] answers [] 0 []).answer ≡ 24)
    × ((asked_after geometry2 store (replicate 4 0) work answers [] 0 room).answer ≡ 20)
    × ((asked_after geometry2 store list work (replicate 11 0) [] 0 room).answer ≡ 21)
    × ((asked_after geometry2 store list work answers (replicate 4 0) 0 []).answer ≡ 20)
    × ((asked_after geometry2 store list work answers (word (commit 0 0)) 0 (replicate 32 4)).answer ≡ 21)
unfolding open_tests open_counting open_functions open_bytes open_geometry open_store open_event open_state open_locks open_versions open_commit open_step open_run open_plan open_asked open_after
refused_after = (refl, refl, refl, refl, refl, refl)
