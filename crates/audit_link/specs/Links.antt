-- The parent and the fate of each transaction in two arrays, and what a ledger says that they tell.
use Rattle.std.specs.Prelude.{ℕ, ◌-◌, ◌<◌, ◌≤◌, ◌≡◌, Bool, true, false, cond, ◌&&◌, ◌||◌, List, get_or, Option, Some, None}
use Rattle.laws.specs.Tests.{same, under}
use Rattle.history.specs.History.{Fate, bearing, committed, stored, ended, is_committed, is_within, stands_with, survives}
use Rattle.audit_rules.specs.Plain.{Ledger}
use Rattle.audit_link.specs.declared.Left.{Left}
use Rattle.audit_link.specs.declared.Left.TheVariants.{Locks, Data}

-- a transaction, or none, as it is counted: 0 is none
unfoldable pub one_of : Option ℕ → ℕ
one_of None = 0
one_of (Some i) = i

-- the locks, not the data
unfoldable pub is_locks : Left → Bool
is_locks Locks = true
is_locks Data = false

-- 32 + t bears the number t; 2 is a child that committed, 3 a top transaction that survives; 0 and 1 are any other end
unfoldable pub fate_of : ℕ → Fate
fate_of n = cond (under n 32) (cond (same n 2) committed (cond (same n 3) stored ended)) (bearing (n - 32))

-- from 1 to 3 the locks went up
unfoldable pub passed_of : ℕ → Bool
passed_of n = under 0 n && under n 32

-- of transaction i
unfoldable pub entry_at : List ℕ → ℕ → ℕ
entry_at a i = get_or a i 0

unfoldable pub fate_in : List ℕ → ℕ → Fate
fate_in a i = fate_of (get_or a i 0)

unfoldable pub passed_in : List ℕ → ℕ → Bool
passed_in a i = passed_of (get_or a i 0)

-- what i left went up to its parent: its locks, or its data
unfoldable pub up_in : List ℕ → Bool → ℕ → Bool
up_in fate locks i = cond locks (passed_in fate i) (is_committed (fate_in fate i))

-- a parent is begun before its child (none is above none)
abbrev pub Earlier : List ℕ → Type 0
Earlier parent = (i : ℕ) → get_or parent i 0 ≤ i - 1

-- every entry is a transaction that the tables have a place for, or none (0)
abbrev pub Bounded : List ℕ → Type 0
Bounded a = (i : ℕ) → get_or a i 0 < 4097

-- the arrays tell what the ledger says of parents and fates
pub record Linked (l : Ledger) (parent fate : List ℕ) : Type 0 where
  pub parents : l.story.parent ≡ entry_at parent
  pub fates : l.story.fate ≡ fate_in fate
  pub passes : l.passed ≡ passed_in fate

-- a write of i shows to a transaction: it survives, or it stands with that one or an ancestor
unfoldable pub shows_to : Ledger → ℕ → ℕ → Bool
shows_to l reader i = survives l.story i || is_within l.story (stands_with l.story i) reader

-- opens the definitions of this module: for what is proved by computing
unfoldable pub open_links : Unit {0}
unfolding one_of is_locks fate_of passed_of entry_at fate_in passed_in up_in shows_to
open_links = tt
