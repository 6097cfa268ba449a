-- One law: a byte of the list is a byte of its page.
use native.Mathlib.Omega.{arith}
use Rattle.leaf_page.proofs.Pages.{pages_set}
use Rattle.leaf_page.proofs.put_byte.Goals as goal

pub returns : goal.returns
returns c = pages_set _ _ _ _ (omega arith) (omega arith)
