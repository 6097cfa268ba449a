-- Every geometry with atomic pages has the claim, so both editions have it. So has every geometry with pairs of copies, though document 02's L14 asks for
-- atomic pages only.
use mathlib.Core.Path.{◌≡◌, refl}
use mathlib.Core.Bool.{true}
use Rattle.rules.specs.Geometry.{Geometry, Proper}
use Rattle.rules.specs.Form.{atomic}
use Rattle.rules.specs.Pairs.{in_pairs}
use Rattle.rules.specs.Editions.{geometry1, edition1, geometry2, edition2, geometry_pairs, edition_pairs}
use Rattle.rules.proofs.Editions.{proper1, proper2, proper_pairs}
use Rattle.rules.proofs.AtomicPages.{atomic_laws}
use Rattle.rules.proofs.PairedPages.{paired_laws}
use Rattle.claim_serial.specs.OneAtATime.{OneAtATimeHolds}
use Rattle.claim_serial.proofs.OneAtATime.{one_at_a_time}

-- any geometry with atomic pages
pub one_at_a_time_atomic : (g : Geometry) → Proper g → OneAtATimeHolds (atomic g)
one_at_a_time_atomic g proper = one_at_a_time (atomic g) (atomic_laws g proper)

pub one_at_a_time_edition1 : OneAtATimeHolds edition1
one_at_a_time_edition1 = one_at_a_time_atomic geometry1 proper1

pub one_at_a_time_edition2 : OneAtATimeHolds edition2
one_at_a_time_edition2 = one_at_a_time_atomic geometry2 proper2

-- any geometry with pairs of copies
pub one_at_a_time_torn : (g : Geometry) → Proper g → g.tears ≡ true → OneAtATimeHolds (in_pairs g)
one_at_a_time_torn g proper tears = one_at_a_time (in_pairs g) (paired_laws g proper tears)

pub one_at_a_time_pairs : OneAtATimeHolds edition_pairs
one_at_a_time_pairs = one_at_a_time_torn geometry_pairs proper_pairs refl
