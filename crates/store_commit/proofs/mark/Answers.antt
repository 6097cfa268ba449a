-- `mark` is one page write.
use native.Mathlib.Omega.{arith}
use Rattle.store_write.proofs.Phases.{phase_page}
use Rattle.store_commit.proofs.Room.{room}
use Rattle.store_commit.proofs.mark.Goals as goal

pub write_counted-requires : goal.write_counted-requires
write_counted-requires c =
    let a = c.args in
    (omega arith, room a.n a.store.now a.tears 0 (omega arith) c.requires.2)

pub returns : goal.returns
returns c = (λ g L. phase_page (c.commit_page.ensures g L) c.write_counted.ensures.0, c.write_counted.ensures.1)
