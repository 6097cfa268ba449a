-- The premises of the second half of demand 3 are met: by document 01's list beside the same list with another byte written by the aborted child.
use mathlib.Core.Path.{refl}
use mathlib.Core.Bool.{true}
use mathlib.Core.List.{List, [], ◌∷◌, ◌++◌}
use lib.ListN.{replicate}
use Prim.Native.Nat.{ℕ}
use Rattle.laws.specs.Tests.{open_tests}
use Rattle.laws.specs.Counting.{open_counting}
use Rattle.laws.specs.Functions.{open_functions}
use Rattle.laws.specs.Bytes.{bytes, open_bytes}
use Rattle.rules.specs.Geometry.{open_geometry}
use Rattle.rules.specs.Store.{open_store}
use Rattle.rules.specs.Event.{open_event}
use Rattle.rules.specs.State.{open_state}
use Rattle.rules.specs.Locks.{open_locks}
use Rattle.rules.specs.Versions.{open_versions}
use Rattle.rules.specs.Commit.{open_commit}
use Rattle.rules.specs.Step.{open_step}
use Rattle.rules.specs.Run.{open_run}
use Rattle.rules.specs.Portion.{Lent, open_portion}
use Rattle.rules.specs.Editions.{geometry1, edition1, work_bytes}
use Rattle.history.specs.History.{survives, open_history}
use Rattle.history.specs.Demand3.{Along, SameEvent, same_word, other_value, start_of, Plays, rows_of, history_of, open_demand}
use Rattle.history.specs.Joined.{rows_joined, history_joined, open_joined}

abbrev spelled : List ℕ → List ℕ
spelled [] = []
spelled (w ∷ ws) = bytes 4 w ++ spelled ws

-- document 01's list, with what the aborted child writes
abbrev events : ℕ → List ℕ
events v = spelled (
    0x80003F00 ∷ 0x1F800000 ∷ 0x10000000 ∷ 0x20980000 ∷ 0x309880A5 ∷ 0x50803F00 ∷ 0x10000000 ∷ 0x20980000 ∷ v ∷ 0x60800000 ∷
    0x50000200 ∷ 0x40188000 ∷ 0x80003F00 ∷ 0x1F800000 ∷ 0x20180000 ∷ 0x40188000 ∷ [])

abbrev store : List ℕ
store = edition1.medium.to_bytes edition1.medium.fresh

pub example : Along geometry1 (SameEvent geometry1 (survives (history_of edition1 store (events 0x30988011) (replicate work_bytes 0) (replicate 32 0)))) (start_of edition1 store)
    (rows_of edition1 store (events 0x30988011) (replicate work_bytes 0) (replicate 32 0)) (rows_of edition1 store (events 0x309880EE) (replicate work_bytes 0) (replicate 32 0))
unfolding open_tests open_counting open_functions open_bytes open_geometry open_store open_event open_state open_locks open_versions open_commit open_step open_run open_history open_demand
example = (
  same_word refl,
  (
    same_word refl,
    (
      same_word refl,
      (
        same_word refl,
        (
          same_word refl,
          (
            same_word refl,
            (
              same_word refl,
              (
                same_word refl,
                (
                  other_value 1 3 2 17 238 refl refl refl refl,
                  (same_word refl, (same_word refl, (same_word refl, (same_word refl, (same_word refl, (same_word refl, (same_word refl, tt))))))),
                ),
              ),
            ),
          ),
        ),
      ),
    ),
  ),
)

-- both runs are played
pub example_plays : Plays edition1 store (events 0x30988011) (replicate work_bytes 0) (replicate 32 0) × Plays edition1 store (events 0x309880EE) (replicate work_bytes 0) (replicate 32 0)
unfolding open_tests open_counting open_functions open_bytes open_geometry open_store open_event open_state open_locks open_versions open_commit open_step open_run open_demand
example_plays = (refl, refl)

-- the same of portions: a list in two portions beside another byte written, in one; the transaction is live at the end, so lost
abbrev lent : List ℕ → Lent
lent ws = record { events = spelled ws; work = replicate work_bytes 0; answers = replicate 8 0 }

abbrev in_two : List Lent
in_two = lent (0x80003F00 ∷ 0x1F800000 ∷ []) ∷ lent (0x20180000 ∷ 0x30188011 ∷ []) ∷ []

abbrev in_one : List Lent
in_one = lent (0x80003F00 ∷ 0x1F800000 ∷ 0x20180000 ∷ 0x301880EE ∷ []) ∷ []

pub joined_example : Along geometry1 (SameEvent geometry1 (survives (history_joined edition1 (λ s. true) store in_two))) (start_of edition1 store)
    (rows_joined edition1 (λ s. true) store in_two) (rows_joined edition1 (λ s. true) store in_one)
unfolding open_tests open_counting open_functions open_bytes open_geometry open_store open_event open_state open_locks open_versions open_commit open_step open_run open_history open_demand open_portion open_joined
joined_example = (same_word refl, (same_word refl, (same_word refl, (other_value 0 3 2 17 238 refl refl refl refl, tt))))
