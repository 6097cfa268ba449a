-- `bring_home` is the page write of one record's home page, where the map names the record.
use mathlib.Core.Path.{sym, ◌∙◌}
use Prim.Native.Nat.{◌+◌}
use native.Mathlib.Omega.{arith}
use Rattle.rules.specs.Store.{named}
use Rattle.store_write.specs.Phase.{store_of, shown_in}
use Rattle.store_write.proofs.Phases.{phase_page}
use Rattle.store_commit.proofs.Room.{room}
use Rattle.store_commit.proofs.Sweeps.{row_made, row-not}
use Rattle.store_commit.proofs.bring_home.Goals as goal

pub get_page-planned-requires : goal.get_page-planned-requires
get_page-planned-requires c =
    let a = c.args in
    (omega arith, room a.n a.store.now a.tears (1 + a.r) (omega arith) c.requires.2)

pub write_counted-requires : goal.write_counted-requires
write_counted-requires c =
    let a = c.args in
    (omega arith, room a.n a.store.now a.tears (1 + a.n + a.r) (omega arith) c.requires.2)

pub returns-then-names : goal.returns-then-names
returns-then-names c =
    let names = c.names in
    let if1 = c.if-names in
    let get_page = c.get_page-planned in
    let a = c.args in (
      λ g m.
          row_made (named g a.map) (1 + a.n) (λ j. shown_in a.tears (store_of a.tears a.store.now) (1 + j)) a.r a.left
          (sym (names.ensures g m) ∙ if1.true) (phase_page get_page.ensures c.write_counted.ensures.0),
      c.write_counted.ensures.1,
    )

pub returns : goal.returns
returns c =
    let a = c.args in (
      λ g m.
          row-not (named g a.map) (1 + a.n) (λ j. shown_in a.tears (store_of a.tears a.store.now) (1 + j)) a.r a.left
          (sym (c.names.ensures g m) ∙ c.if-names.false),
      omega arith,
    )
