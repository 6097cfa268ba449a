-- A set has transaction numbers only if nothing stands above its low 24 bits.
use Rattle.laws.specs.Tests.{same}
use Rattle.sound_clause.proofs.Words.{decides_numbered}
use Rattle.sound_lock.proofs.is_set.Goals as goal

pub returns : goal.returns
unfolding same
returns c = decides_numbered 24 c.args.s
