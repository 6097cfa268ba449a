-- A page is the 32 bytes from its place.
use Rattle.rules.specs.Store.{pages_of}
use Rattle.leaf_page.proofs.get_byte.Goals as goal

pub returns : goal.returns
unfolding pages_of
returns c = c.byte_at.ensures
