-- So far each one is.
use mathlib.Core.Path.{◌≡◌}
use Prim.Native.Nat.{◌≤◌}
use Rattle.laws.specs.Counting.{all}
use Rattle.rules.specs.Pairs.{pairs_of, is_whole}
use Rattle.sound_store.proofs.all_whole.Given as goal

abbrev pub invariant-loop-n : goal.invariant-loop-n
invariant-loop-n l = (l.n ≤ l.pages) × (l.whole ≡ all l.n (λ k. is_whole (pairs_of l.bytes k)))
