-- The numbers are edition 1's.
use Rattle.open_lent.proofs.Portions.{first_in}
use Rattle.nekahuiro.proofs.page_write_of.Goals as goal

pub page_write_of-requires : goal.page_write_of-requires
page_write_of-requires c = first_in
