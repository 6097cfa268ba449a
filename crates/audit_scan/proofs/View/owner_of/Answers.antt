-- An entry of the array, which is small.
use Rattle.audit_link.proofs.Ways.{some_small}
use Rattle.audit_scan.proofs.View.owner_of.Goals as goal

pub returns : goal.returns
returns c = let e = c.one.ensures in (e.0, some_small _ (rw e.0 (c.requires.1 c.args.k)) e.1)
