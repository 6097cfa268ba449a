-- The numbers are those of the form whose pages can tear.
use Rattle.open_lent.proofs.Portions.{paired_in}
use Rattle.nekahuiro_pairs.proofs.portion_of.Goals as goal

pub portion_of-requires : goal.portion_of-requires
portion_of-requires c = paired_in
