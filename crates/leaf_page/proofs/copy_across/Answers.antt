-- A page is the 32 bytes from its place.
use Rattle.rules.specs.Store.{pages_of}
use Rattle.leaf_page.proofs.copy_across.Goals as goal

pub returns : goal.returns
unfolding pages_of
returns c = c.bring.ensures
