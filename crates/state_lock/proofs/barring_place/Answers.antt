-- To read the second place of the record is looked at, to write the first.
use mathlib.Core.Path.{sym, ap}
use mathlib.Core.Bool.{Bool}
use native.Mathlib.Omega.{arith}
use Rattle.state_array.specs.Changes.{access_when, barring}
use Rattle.state_lock.proofs.barring_place.Goals as goal

pub returns-then-reading : goal.returns-then-reading
unfolding barring access_when
returns-then-reading c = (sym (ap (λ (b : Bool). barring (access_when b) c.args.r) c.if-reading.true), omega arith)

pub returns : goal.returns
unfolding barring access_when
returns c = (sym (ap (λ (b : Bool). barring (access_when b) c.args.r) c.if-reading.false), omega arith)
