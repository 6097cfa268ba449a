-- From the store, or from the working buffer.
use Rattle.engine_page_write.proofs.Numbered.{source_stored, source_version}
use Rattle.engine_page_write.proofs.page_for.Goals as goal

pub returns-then-p : goal.returns-then-p
returns-then-p c =
    source_stored c.args.tears c.args.p _ _ _ _ c.get_page.ensures c.if-p.true

pub returns : goal.returns
returns c =
    source_version c.args.tears c.args.p _ _ _ _ c.get_page-2.ensures c.if-p.false
