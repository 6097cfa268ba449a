-- A page write has one number, or one for each copy.
use Rattle.engine_page_write.proofs.page_number.Goals as goal

pub returns-then-tears : goal.returns-then-tears
returns-then-tears c = rw c.if-tears.true

pub returns : goal.returns
returns c = rw c.if-tears.false
