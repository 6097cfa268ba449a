-- How a text is read, byte by byte: what may come next after each part of it.
use Rattle.std.specs.Prelude.{◌≡◌, Bool, true, false, cond, ◌&&◌, ◌||◌, List, ℕ, zero, suc, ◌≤◌, ◌<◌, length, get_or}
use Rattle.laws.specs.Tests.{same, under}

-- Where the reading stands. Two budgets fall: how many transactions may yet be opened within each other, and how many events are yet free, beside
-- the ends of those that are open.
pub data Scan : Type 0 where
  start : Scan
  -- between two steps of an open transaction
  between : ℕ → ℕ → Scan
  -- within a step: k digits more after the next one, of which the one with low to come is an offset's first
  within : ℕ → ℕ → ℕ → ℕ → Scan
  -- the top transaction has ended, with so many events free
  ended : ℕ → Scan
  -- no taken sheet begins so
  dead : Scan

pub data Letter : Type 0 where
  opening closing unknown : Letter
  -- a step with n digits after its first, and the place of an offset's first digit
  plain : ℕ → ℕ → Letter

unfoldable pub pick : Bool → Letter → Letter → Letter
pick true a b = a
pick false a b = b

unfoldable pub letter_of : ℕ → Letter
letter_of b =
    pick (same b 123) opening
    (pick (same b 125) closing
    (pick (same b 33) closing
    (pick (same b 76) (plain 0 9)
    (pick (same b 87) (plain 4 3)
    (pick (same b 82) (plain 2 1) unknown)))))

-- 0 to 9, A to F; of an offset's first digit only 0 and 1
unfoldable pub is_digit : Bool → ℕ → Bool
is_digit true b = under 47 b && under b 50
is_digit false b = (under 47 b && under b 58) || (under 64 b && under b 71)

-- k digits are to come
unfoldable pub to_come : ℕ → ℕ → ℕ → ℕ → Scan
to_come zero low l r = between l r
to_come (suc k) low l r = within k low l r

-- an inner transaction needs a level, and two events: its begin and its end
unfoldable pub opened : ℕ → ℕ → Scan
opened zero r = dead
opened (suc l) zero = dead
opened (suc l) (suc zero) = dead
opened (suc l) (suc (suc r)) = between l r

-- at level 15 stands the top transaction
unfoldable pub level_closed : ℕ → ℕ → Scan
level_closed l r = cond (same l 15) (ended r) (between (suc l) r)

unfoldable pub stepped : Letter → ℕ → ℕ → Scan
stepped opening l r = opened l r
stepped closing l r = level_closed l r
stepped unknown l r = dead
stepped (plain n low) l zero = dead
stepped (plain n low) l (suc r) = within n low l r

unfoldable pub scan_opened : Letter → Scan
scan_opened opening = between 15 4094
scan_opened closing = dead
scan_opened unknown = dead
scan_opened (plain n low) = dead

unfoldable pub scan_next : Scan → ℕ → Scan
scan_next start b = scan_opened (letter_of b)
scan_next (between l r) b = stepped (letter_of b) l r
scan_next (within k low l r) b = cond (is_digit (same k low) b) (to_come k low l r) dead
scan_next (ended r) b = dead
scan_next dead b = dead

-- after the first i bytes of s
unfoldable pub scan_after : List ℕ → ℕ → Scan
scan_after s zero = start
scan_after s (suc i) = scan_next (scan_after s i) (get_or s i 0)

-- the reading of s stands at q after i bytes
pub record Stands (s : List ℕ) (i : ℕ) (q : Scan) : Type 0 where
  pub is : scan_after s i ≡ q

unfoldable pub is_dead : Scan → Bool
is_dead start = false
is_dead (between l r) = false
is_dead (within k low l r) = false
is_dead (ended r) = false
is_dead dead = true

unfoldable pub is_ended : Scan → Bool
is_ended start = false
is_ended (between l r) = false
is_ended (within k low l r) = false
is_ended (ended r) = true
is_ended dead = false

-- the reading of s stops at p: all before is fine, and byte p is not, or the text ends there too soon
pub record Stuck (s : List ℕ) (p : ℕ) : Type 0 where
  pub within : p ≤ length s
  pub alive : is_dead (scan_after s p) ≡ false
  pub stops : p < length s → scan_after s (suc p) ≡ dead
  pub short : p ≡ length s → is_ended (scan_after s p) ≡ false

-- opens the definitions of this module: for what is proved by computing
unfoldable pub open_scan : Unit {0}
unfolding pick letter_of is_digit to_come opened level_closed stepped scan_opened scan_next scan_after is_dead is_ended
open_scan = tt
