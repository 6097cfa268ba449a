-- Both halves of the premise on identities are needed: with either alone the two ends can hold opposite decisions. With both, they do come to decide.
-- Each is a run of edition 1 from a fresh store, by computing.
use mathlib.Core.Path.{refl, ap}
use mathlib.Core.Bool.{true, false, true≢false, false≢true}
use mathlib.Core.List.{List}
use mathlib.Core.Logic.{◌≢◌, inl, inr}
use mathlib.Core.Option.{Option, none, some}
use Prim.Native.Nat.{ℕ}
use Rattle.laws.specs.Tests.{open_tests}
use Rattle.laws.specs.Counting.{open_counting}
use Rattle.laws.specs.Functions.{open_functions}
use Rattle.laws.specs.Bytes.{open_bytes}
use Rattle.rules.specs.Geometry.{open_geometry}
use Rattle.rules.specs.Store.{open_store}
use Rattle.rules.specs.Event.{open_event}
use Rattle.rules.specs.State.{open_state}
use Rattle.rules.specs.Locks.{open_locks}
use Rattle.rules.specs.Versions.{open_versions}
use Rattle.rules.specs.Commit.{open_commit}
use Rattle.rules.specs.Step.{open_step}
use Rattle.rules.specs.Editions.{edition1}
use Rattle.depot_agreement.specs.Depot.{asked, committed, aborted, to_prepare, to_commit, to_abort, open_depot}
use Rattle.depot_agreement.specs.Messages.{open_messages}
use Rattle.depot_agreement.specs.Agreement.{World, depot_turns, gate_turns, loses, Quiet, Unused, Fresh, starts, gives_up, votes, orders, plays, lost, Reaches, here, then, first_world, Agreement, open_agreement}

abbrev W : Type 1
W = World edition1

abbrev fresh : List ℕ
fresh = edition1.medium.to_bytes edition1.medium.fresh

-- the gateway comes up, and a transaction changes a record: recover, begin, lock, write
abbrev busy : W → W
busy w = gate_turns edition1 (gate_turns edition1 (gate_turns edition1 (gate_turns edition1 w 0x80003F00) 0x1F800000) 0x20180000) 0x301880A5

no_identity : {i : ℕ} → ◌≢◌ {A = Option ℕ} none (some i)
no_identity e = true≢false (ap (λ o. elim o [ none ↦ true | some a ↦ false ]) e)

module _ (Ok : W → ℕ → Type 0) where
  prepares : {v w : W} → Reaches edition1 Ok v w → Reaches edition1 Ok v (busy w)
  unfolding open_event open_geometry open_tests open_messages
  prepares r = then (then (then (then r (plays 0x80003F00 refl)) (plays 0x1F800000 refl)) (plays 0x20180000 refl)) (plays 0x301880A5 refl)

-- no transaction prepared, but messages under way: the late abort of round 1 ends the transaction that is prepared in round 2, whose yes lets the
-- depot commit
pub not_unused_alone : Agreement edition1 (Unused edition1) → ⊥
unfolding open_tests open_counting open_functions open_bytes open_geometry open_store open_event open_state open_locks open_versions open_commit open_step open_depot open_messages open_agreement
not_unused_alone claim = true≢false (claim fresh refl w6 run 0 2 true false (inr (refl, refl, refl)) (inr (refl, refl, refl)))
  where
    w1 : W
    w1 = depot_turns edition1 (first_world edition1 fresh) 0 1 asked to_prepare

    w2 : W
    w2 = depot_turns edition1 w1 0 1 aborted to_abort

    w3 : W
    w3 = depot_turns edition1 w2 0 2 asked to_prepare

    w4 : W
    w4 = gate_turns edition1 (busy w3) 0x90003F00

    w5 : W
    w5 = gate_turns edition1 w4 0xA0003F00

    w6 : W
    w6 = depot_turns edition1 w5 0 2 committed to_commit

    run : Reaches edition1 (Unused edition1) (first_world edition1 fresh) w6
    run = then (then (then (prepares (Unused edition1) (then (then (then here
        (starts 0 asked to_prepare refl no_identity))
        (gives_up 0 aborted to_abort refl))
        (starts 0 asked to_prepare refl no_identity)))
        (orders 0 to_prepare 0 63 0x90003F00 (inl refl) refl))
        (orders 0 to_abort 0 63 0xA0003F00 (inr (inr (inl refl))) refl))
        (votes 0 true committed to_commit (inl refl) refl)

-- no message under way, but a transaction prepared: the one that was prepared in round 1, which the depot aborted, obeys the commit of round 2
pub not_quiet_alone : Agreement edition1 (Quiet edition1) → ⊥
unfolding open_tests open_counting open_functions open_bytes open_geometry open_store open_event open_state open_locks open_versions open_commit open_step open_depot open_messages open_agreement
not_quiet_alone claim = false≢true (claim fresh refl w8 run 0 1 false true (inl (inl (inr (refl, refl, refl)))) (inr (refl, refl, refl)))
  where
    w1 : W
    w1 = depot_turns edition1 (first_world edition1 fresh) 0 1 asked to_prepare

    w2 : W
    w2 = gate_turns edition1 (busy w1) 0x90003F00

    w3 : W
    w3 = depot_turns edition1 w2 0 1 aborted to_abort

    w4 : W
    w4 = loses edition1 w3 (λ m. ⊥)

    w5 : W
    w5 = depot_turns edition1 w4 0 2 asked to_prepare

    w6 : W
    w6 = gate_turns edition1 w5 0xB0000000

    w7 : W
    w7 = depot_turns edition1 w6 0 2 committed to_commit

    w8 : W
    w8 = gate_turns edition1 w7 0xA0007F00

    run : Reaches edition1 (Quiet edition1) (first_world edition1 fresh) w8
    run = then (then (then (then (then (then (then (prepares (Quiet edition1) (then here
        (starts 0 asked to_prepare refl (λ m e k. k))))
        (orders 0 to_prepare 0 63 0x90003F00 (inl refl) refl))
        (gives_up 0 aborted to_abort refl))
        (lost (λ m. ⊥) (λ m k. absurd k)))
        (starts 0 asked to_prepare refl (λ m e k. k)))
        (plays 0xB0000000 refl))
        (votes 0 true committed to_commit (inl refl) refl))
        (orders 0 to_commit 0 63 0xA0007F00 (inl refl) refl)

-- with both, the two ends do come to a commit that both hold
pub both_commit : (w : W) × Reaches edition1 (Fresh edition1) (first_world edition1 fresh) w × w.ruled 0 1 true × w.obeyed 0 1 true
unfolding open_tests open_counting open_functions open_bytes open_geometry open_store open_event open_state open_locks open_versions open_commit open_step open_depot open_messages open_agreement
both_commit = (w4, run, inr (refl, refl, refl), inr (refl, refl, refl))
  where
    w1 : W
    w1 = depot_turns edition1 (first_world edition1 fresh) 0 1 asked to_prepare

    w2 : W
    w2 = gate_turns edition1 (busy w1) 0x90003F00

    w3 : W
    w3 = depot_turns edition1 w2 0 1 committed to_commit

    w4 : W
    w4 = gate_turns edition1 w3 0xA0007F00

    run : Reaches edition1 (Fresh edition1) (first_world edition1 fresh) w4
    run = then (then (then (prepares (Fresh edition1) (then here
        (starts 0 asked to_prepare refl (λ m e k. k, no_identity))))
        (orders 0 to_prepare 0 63 0x90003F00 (inl refl) refl))
        (votes 0 true committed to_commit (inl refl) refl))
        (orders 0 to_commit 0 63 0xA0007F00 (inl refl) refl)
