-- The numbers are those of the form whose pages can tear.
use Rattle.open_lent.proofs.Portions.{paired_in}
use Rattle.nekahuiro_pairs.proofs.run_of.Goals as goal

pub run_of-requires : goal.run_of-requires
run_of-requires c = paired_in
