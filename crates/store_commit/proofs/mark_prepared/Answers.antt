-- `mark_prepared` is one page write.
use Rattle.store_write.proofs.Phases.{phase_page}
use Rattle.store_commit.proofs.mark_prepared.Goals as goal

pub returns : goal.returns
returns c = (λ g L. phase_page (c.prepared_page.ensures g L) c.write_counted.ensures.0, c.write_counted.ensures.1)
