-- The list is played on arrays that are all zeros: the start.
use mathlib.Core.Path.{◌≡◌, refl}
use mathlib.Core.List.{List}
use mathlib.Core.Logic.{inr}
use Prim.Native.Nat.{ℕ}
use lib.ListN.{length}
use borrow.Author.Rules.{rules}
use Rattle.rules.specs.Geometry.{records, page_count}
use Rattle.rules.specs.Editions.{edition2, second}
use Rattle.leaf_commit_page.proofs.Places.{layout2}
use Rattle.leaf_event.proofs.Words.{bytes2}
use Rattle.state_whole.specs.Whole.{Intact}
use Rattle.event_crash.proofs.Editions.{served_of}
use Rattle.event_crash.proofs.Falls.{zeros, zeros_intact, zeros_down}
use Rattle.engine_edition2.proofs.from_start.Goals as goal

-- all zeros stand for the start
begins : (work store : List ℕ) → length work ≡ 32768 → length store ≡ 4128 → Intact edition2 (zeros 64 work store)
unfolding records page_count
begins work store w s = zeros_intact edition2 64 work store layout2.many w s (served_of second)

pub play-requires : goal.play-requires
play-requires c =
    let a = c.args in
    let p = c.requires in
    (search rules, ((record { many = layout2.many; two_phase = refl; torn = refl }, refl), (begins a.work.now a.store.now p.1 p.0, (bytes2, inr refl, search rules, search rules))))

pub returns : goal.returns
returns c =
    let a = c.args in
    record { before = zeros 64 a.work.now a.store.now; begun = zeros_down edition2 64 a.work.now a.store.now; line = _; held = _; retained = _; leads = c.play.ensures }
