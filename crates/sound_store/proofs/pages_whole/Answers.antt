-- Pairs are asked, atomic pages not.
use mathlib.Core.Path.{refl, subst}
use mathlib.Core.Bool.{Bool}
use Prim.Native.Nat.{◌*◌, ◌≤◌}
use lib.ListN.{length}
use Rattle.store_write.specs.Phase.{stride_of}
use Rattle.sound_store.proofs.pages_whole.Goals as goal

pub all_whole-requires : goal.all_whole-requires
all_whole-requires c = (c.requires.0, subst (λ (b : Bool). stride_of b * c.args.pages ≤ length c.args.store.now) c.if-tears.true c.requires.1)

pub returns-then-tears : goal.returns-then-tears
returns-then-tears c = rw c.if-tears.true c.all_whole.ensures

pub returns : goal.returns
returns c = rw c.if-tears.false refl
