-- `write_version` is the page write of one record, where the map names it.
use mathlib.Core.Path.{sym, ◌∙◌}
use Prim.Native.Nat.{◌+◌}
use native.Mathlib.Omega.{arith}
use Rattle.rules.specs.Store.{named}
use Rattle.store_write.proofs.Phases.{phase_page}
use Rattle.store_commit.specs.Phase.{top_slot}
use Rattle.store_commit.proofs.Room.{room}
use Rattle.store_commit.proofs.Sweeps.{row_made, row-not}
use Rattle.store_commit.proofs.write_version.Goals as goal

pub write_counted-requires : goal.write_counted-requires
write_counted-requires c =
    let a = c.args in
    (omega arith, room a.n a.store.now a.tears (a.first + a.r) (omega arith) c.requires.3)

pub returns-then-names : goal.returns-then-names
unfolding top_slot
returns-then-names c =
    let names = c.names in
    let if1 = c.if-names in
    let get_page = c.get_page-version in
    let a = c.args in (
      λ g m.
          row_made (named g a.map) a.first (top_slot a.work.now) a.r a.left (sym (names.ensures g m) ∙ if1.true)
          (phase_page get_page.ensures c.write_counted.ensures.0),
      c.write_counted.ensures.1,
    )

pub returns : goal.returns
returns c =
    let a = c.args in
    (λ g m. row-not (named g a.map) a.first (top_slot a.work.now) a.r a.left (sym (c.names.ensures g m) ∙ c.if-names.false), omega arith)
