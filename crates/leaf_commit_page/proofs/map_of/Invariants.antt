-- The loop's invariant: the map of the records before this word.
use Rattle.std.specs.Prelude.{◌≡◌}
use Prim.Native.Nat.{ℕ, ◌≤◌}
use lib.ListN.{length}
use Rattle.leaf_set.specs.Sets.{sets}
use Rattle.rules.specs.Store.{bits_from}
use Rattle.leaf_commit_page.proofs.map_of.Given as goal

abbrev pub invariant-loop-word : goal.invariant-loop-word
invariant-loop-word l =
    (length l.words ≤ 64) × (l.map ≡ bits_from l.word-index (λ (r : ℕ). sets l.words r l.t))
