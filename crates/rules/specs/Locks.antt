-- The rules of locks: when one is granted, who has it then, who retains it after a child's commit or its abort with a report, who keeps it when
-- others end.
use Rattle.std.specs.Prelude.{ℕ, Bool, true, false, not, cond, ◌&&◌, ◌||◌, List, [], ◌∷◌}
use Rattle.laws.specs.Tests.{same}
use Rattle.laws.specs.Counting.{all}
use Rattle.rules.specs.Geometry.{transactions}
use Rattle.rules.specs.Event.{Access, to_write, to_read}
use Rattle.rules.specs.State.{Mode, nothing, reading, writing, is_lock, is_writing, stronger, Modes, mem}

-- the mode that is asked for
unfoldable pub mode_for : Access → Mode
mode_for to_write = writing
mode_for to_read = reading

-- what a transaction has of the lock bars another: from writing, in any mode; from reading, in write mode
unfoldable pub bars : Access → Mode → Bool
bars to_write m = is_lock m
bars to_read m = is_writing m

-- no other than t holds the lock of r in a mode that bars
unfoldable pub holders_allow : Access → Modes → ℕ → ℕ → Bool
holders_allow a held t r = all transactions (λ u. not (bars a (held r u)) || same u t)

-- everyone that retains the lock of r in a mode that bars is the asker or its ancestor (on the asker's line)
unfoldable pub retainers_allow : Access → Modes → List ℕ → ℕ → Bool
retainers_allow a retained line r = all transactions (λ u. not (bars a (retained r u)) || mem u line)

unfoldable pub grantable : Access → Modes → Modes → List ℕ → ℕ → ℕ → Bool
grantable a held retained line t r = holders_allow a held t r && retainers_allow a retained line r

-- t holds r in the mode that is asked for; what it held already stays if that is stronger
unfoldable pub granted : Access → ℕ → ℕ → Modes → Modes
granted a t r held q j = cond (same q r && same j t) (stronger (held q j) (mode_for a)) (held q j)

-- the parent y retains what its child x held or retained, or what it retained itself, in the strongest of these modes
unfoldable pub inherited : ℕ → ℕ → Modes → Modes → Modes
inherited x y held retained r j = cond (same j y) (stronger (retained r y) (stronger (held r x) (retained r x))) (retained r j)

-- What is retained when x, with this line, aborts: with a report its parent y retains what x held or retained, as after a commit; without one,
-- or where x is a top transaction and has no parent, all is as it was.
unfoldable pub reported : ℕ → Bool → List ℕ → Modes → Modes → Modes
reported x false line held retained = retained
reported x true [] held retained = retained
reported x true (a ∷ []) held retained = retained
reported x true (a ∷ y ∷ l) held retained = inherited x y held retained

-- those that `dead` picks have nothing
unfoldable pub discarded : (ℕ → Bool) → Modes → Modes
discarded dead m r j = cond (dead j) nothing (m r j)

-- opens the definitions of this module: for what is proved by computing
unfoldable pub open_locks : Unit {0}
unfolding mode_for bars holders_allow retainers_allow grantable granted inherited reported discarded
open_locks = tt
