-- Four bytes, most significant first.
use mathlib.Core.Path.{sym, ◌∙◌}
use native.Mathlib.Omega.{arith}
use Prim.Native.Nat.{◌*◌}
use Rattle.leaf_event.proofs.Words.{four_at}
use Rattle.leaf_event.proofs.Event.word_at.Goals as goal

pub returns : goal.returns
returns c = let a = c.args in c.from_be_bytes.ensures ∙ sym (four_at (4 * a.k) a.events.now (omega arith))
