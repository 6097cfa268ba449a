-- What the engine's arrays stand for in the rules.
use Rattle.std.specs.Prelude.{◌≡◌, Bool, true, cond, List, ℕ, zero, suc, ◌+◌, ◌*◌, ◌-◌, get_or}
use Rattle.std.proofs.Math.Option.{none, some}
use Rattle.rules.specs.Store.{Page, pages_of}
use Rattle.rules.specs.State.{Bearer, Bearers, free, active, line_of, Mode, nothing, reading, writing, Modes, Versions}
use Rattle.rules.specs.Versions.{nearest}
use Rattle.rules.specs.Editions.{depths}
use Rattle.leaf_set.specs.Sets.{sets}

-- by place and transaction: who is in the set at the place. The writers have a place for each record, the locks have two.
abbrev pub Owners : Type 0
Owners = ℕ → ℕ → Bool

-- depth 0 marks a free number
unfoldable pub bearer_at : ℕ → ℕ → Bearer
bearer_at p zero = free
bearer_at p (suc d) = active p (suc d)

unfoldable pub bearers_of : List ℕ → List ℕ → Bearers
bearers_of parent depth t = bearer_at (get_or parent t 0) (get_or depth t 0)

-- of the locks: who has that of record r in any mode, and who has it in write mode
unfoldable pub any_mode : Owners → Owners
any_mode o r = o (2 * r)

unfoldable pub write_mode : Owners → Owners
write_mode o r = o (2 * r + 1)

-- who is in the set of write mode has the lock so; else who is in the set of any mode has it to read
unfoldable pub mode_of : Bool → Bool → Mode
mode_of any write = cond write writing (cond any reading nothing)

unfoldable pub modes_of : Owners → Modes
modes_of o r t = mode_of (any_mode o r t) (write_mode o r t)

-- who has a lock in write mode has it: the second set is within the first
abbrev pub Nested : Owners → Type 0
Nested o = (r t : ℕ) → write_mode o r t ≡ true → any_mode o r t ≡ true

-- the slot of a record at a depth
unfoldable pub slot : ℕ → ℕ → ℕ
slot r d = r * depths + (d - 1)

-- the version of a writer is in the slot at its depth
unfoldable pub versions_of : List ℕ → List ℕ → List ℕ → Versions
versions_of depth writers work t r = cond (sets writers r t) (some (pages_of work (slot r (get_or depth t 0)))) none

-- what t reads of r, whose home page is given
unfoldable pub seen : List ℕ → List ℕ → List ℕ → List ℕ → Page → ℕ → ℕ → Page
seen parent depth writers work base t r =
    nearest (versions_of depth writers work) base r (line_of (bearers_of parent depth) t)
