-- By whether the map names a record.
use mathlib.Core.Path.{refl}
use Rattle.engine_page_write.proofs.Planned.{zero-top, some-top}
use Rattle.engine_page_write.proofs.of_top.Goals as goal

pub returns-then-map-eq0 : goal.returns-then-map-eq0
returns-then-map-eq0 c = zero-top c.args.map c.args.prepares c.args.identity _ refl c.if-map-eq0.true

pub returns : goal.returns
returns c = some-top c.args.map c.args.prepares c.args.identity c.if-map-eq0.false
