-- By whether the map names a record.
use mathlib.Core.Path.{refl}
use Rattle.engine_page_write.proofs.Planned.{zero_recovery, some_recovery}
use Rattle.engine_page_write.proofs.of_recovery.Goals as goal

pub returns-then-map-eq0 : goal.returns-then-map-eq0
returns-then-map-eq0 c = zero_recovery c.args.map _ refl c.if-map-eq0.true

pub returns : goal.returns
returns c = some_recovery c.args.map c.if-map-eq0.false
