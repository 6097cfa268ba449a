-- An entry of the array; past its end nobody bears a number.
use mathlib.Core.Path.{sym}
use native.Mathlib.Omega.{arith}
use lib.ListN.{get_or-eq_default}
use Rattle.audit_link.specs.Links.{one_of, entry_at}
use Rattle.audit_link.proofs.Ways.{some_small}
use Rattle.audit_bearer.proofs.Tables.bearer_of.Goals as goal

pub returns-then-k-lt24 : goal.returns-then-k-lt24
unfolding entry_at
returns-then-k-lt24 c = let e = c.one.ensures in (e.0, some_small _ (rw e.0 (c.requires.1 c.args.t)) e.1)

pub returns : goal.returns
unfolding entry_at one_of
returns c = (sym (get_or-eq_default c.args.self.now.bearer 0 (omega (arith, c.requires.0))), tt)
