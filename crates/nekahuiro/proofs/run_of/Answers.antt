-- The numbers are edition 1's.
use Rattle.open_lent.proofs.Portions.{first_in}
use Rattle.nekahuiro.proofs.run_of.Goals as goal

pub run_of-requires : goal.run_of-requires
run_of-requires c = first_in
