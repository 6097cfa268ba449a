-- The numbers are edition 1's.
use Rattle.open_lent.proofs.Portions.{first_in}
use Rattle.nekahuiro.proofs.portion_of.Goals as goal

pub portion_of-requires : goal.portion_of-requires
portion_of-requires c = first_in
