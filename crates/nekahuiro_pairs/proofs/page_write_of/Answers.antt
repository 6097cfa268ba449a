-- The numbers are those of the form whose pages can tear.
use Rattle.open_lent.proofs.Portions.{paired_in}
use Rattle.nekahuiro_pairs.proofs.page_write_of.Goals as goal

pub page_write_of-requires : goal.page_write_of-requires
page_write_of-requires c = paired_in
