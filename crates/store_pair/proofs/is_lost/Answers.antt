-- Neither status byte says good.
use Rattle.store_pair.proofs.Shown.{lost_is}
use Rattle.store_pair.proofs.is_lost.Goals as goal

pub returns : goal.returns
returns c = let a = c.args in lost_is a.bytes.now a.n c.is_good.ensures c.is_good-2.ensures
