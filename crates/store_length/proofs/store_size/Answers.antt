-- A page as it is, or as a pair.
use Rattle.store_length.proofs.store_size.Goals as goal

pub returns-then-tears : goal.returns-then-tears
returns-then-tears c = rw c.if-tears.true

pub returns : goal.returns
returns c = rw c.if-tears.false
