-- Lists of sheets, played: the answers are computed. What is due of them can be met, in each way in which a top transaction ends.
use mathlib.Core.Path.{◌≡◌, refl}
use mathlib.Core.Bool.{true, false}
use mathlib.Core.List.{List, [], ◌∷◌, ◌++◌}
use lib.ListN.{drop, length}
use Prim.Native.Nat.{ℕ}
use Rattle.laws.specs.Tests.{open_tests}
use Rattle.laws.specs.Counting.{open_counting}
use Rattle.laws.specs.Functions.{open_functions}
use Rattle.laws.specs.Bytes.{open_bytes}
use Rattle.rules.specs.Geometry.{open_geometry}
use Rattle.rules.specs.Store.{open_store}
use Rattle.rules.specs.Event.{open_event}
use Rattle.rules.specs.State.{down, open_state}
use Rattle.rules.specs.Locks.{open_locks}
use Rattle.rules.specs.Versions.{open_versions}
use Rattle.rules.specs.Commit.{open_commit}
use Rattle.rules.specs.Step.{Answer, done, refused, StateOf, open_step}
use Rattle.rules.specs.Run.{play, open_run}
use Rattle.rules.specs.Portion.{words_in, open_portion}
use Rattle.rules.specs.Editions.{edition1}
use Rattle.sheet_text.specs.Sheet.{Sheet, none, locking, writing, reading, inner, sheet_list, open_sheet}

-- a fresh store whose commit page begins so, recovered
abbrev recovered : List ℕ → StateOf edition1
recovered head =
    let fresh = edition1.medium.to_bytes edition1.medium.fresh in
    (play edition1 (down (edition1.medium.from_bytes (head ++ drop (length head) fresh))) (0x80003F00 ∷ [])).state

abbrev answers_to : List ℕ → Sheet → List Answer
answers_to head h = (play edition1 (recovered head) (words_in edition1 (sheet_list h))).answers

-- {{L3W302A5}{L3!L3R302}: the first inner transaction gets 1 and leaves what it wrote; the second gets 1 again
nested_answers :
    answers_to [] (record { steps = reading (locking (inner (inner none (writing (locking none 3) 3 2 0xA5) true) (locking none 3) false) 3) 3 2; commits = true })
    ≡ done 0 ∷ done 1 ∷ done 0 ∷ done 0 ∷ done 0 ∷ done 1 ∷ done 0 ∷ done 0 ∷ done 0 ∷ done 0xA5 ∷ done 4 ∷ []
unfolding open_tests open_counting open_functions open_bytes open_geometry open_store open_event open_state open_locks open_versions open_commit open_step open_run open_portion open_sheet
nested_answers = refl

-- {L3W30001L4W40001}, beside a transaction that is prepared with record 3: record 3 stays locked, and the commit meets 13
beside_prepared :
    answers_to (0x13 ∷ 0x10 ∷ 0x00 ∷ 0x08 ∷ 0x07 ∷ []) (record { steps = writing (locking (writing (locking none 3) 3 0 1) 4) 4 0 1; commits = true })
    ≡ done 0 ∷ refused 8 ∷ refused 9 ∷ done 0 ∷ done 0 ∷ refused 13 ∷ []
unfolding open_tests open_counting open_functions open_bytes open_geometry open_store open_event open_state open_locks open_versions open_commit open_step open_run open_portion open_sheet
beside_prepared = refl

-- {L4}, beside the same: it changes nothing, and commits
unchanged_beside :
    answers_to (0x13 ∷ 0x10 ∷ 0x00 ∷ 0x08 ∷ 0x07 ∷ []) (record { steps = locking none 4; commits = true }) ≡ done 0 ∷ done 0 ∷ done 0 ∷ []
unfolding open_tests open_counting open_functions open_bytes open_geometry open_store open_event open_state open_locks open_versions open_commit open_step open_run open_portion open_sheet
unchanged_beside = refl
