-- The status of the second copy.
use mathlib.Core.Path.{ap, sym}
use Prim.Native.Nat.{ℕ}
use Rattle.laws.specs.Tests.{same}
use Rattle.rules.specs.Pairs.{is_good}
use Rattle.sound_store.proofs.Copies.{second_status}
use Rattle.sound_store.proofs.second_good.Goals as goal

pub returns : goal.returns
unfolding is_good same
returns c = let a = c.args in ap (λ (x : ℕ). same x 1) (sym (second_status a.bytes.now a.n c.requires.1))
