-- What is made of the sheet is what the call made of it.
use Rattle.nekahuiro.proofs.nekahuiro_sheet.Goals as goal

pub returns : goal.returns
returns c = c.list_of.ensures
