-- Changes of an array, as functions promise them. The length of a lent array isn't known of its type: each promise says that it stays.
use Rattle.std.specs.Prelude.{◌≡◌, Bool, true, false, not, cond, ◌&&◌, ◌||◌, List, ℕ, ◌+◌, ◌*◌, get_or, length, set}
use Rattle.laws.specs.Tests.{same}
use Rattle.laws.specs.Counting.{all}
use Rattle.laws.specs.Bits.{bits}
use Rattle.rules.specs.Geometry.{transactions}
use Rattle.rules.specs.Event.{Access, to_write, to_read}
use Rattle.leaf_set.specs.Sets.{sets}
use Rattle.state_array.specs.View.{Owners}

-- what a lock is asked for, by the flag of an event that asks to read
unfoldable pub access_when : Bool → Access
access_when true = to_read
access_when false = to_write

-- the place of those that bar: from writing, all that have the lock; from reading, those that have it in write mode
unfoldable pub barring : Access → ℕ → ℕ
barring to_write r = 2 * r
barring to_read r = 2 * r + 1

-- at place k no other transaction is among the holders, and every retainer is on the line
unfoldable pub open_to : Owners → Owners → (ℕ → Bool) → ℕ → ℕ → Bool
open_to held retained line t k =
    all transactions (λ u. not (held k u) || same u t) && all transactions (λ u. not (retained k u) || line u)

-- t is in the set at place k
unfoldable pub joined : ℕ → ℕ → Owners → Owners
joined t k o q j = o q j || (same q k && same j t)

-- t has the lock of r as it asked: in any mode, and to write in write mode too
unfoldable pub joined_for : Access → ℕ → ℕ → Owners → Owners
joined_for to_write t r o = joined t (2 * r + 1) (joined t (2 * r) o)
joined_for to_read t r o = joined t (2 * r) o

-- the set s without what gone has; every set without it
unfoldable pub less : (ℕ → Bool) → (ℕ → Bool) → ℕ → Bool
less gone s k = not (gone k) && s k

unfoldable pub leaving : (ℕ → Bool) → Owners → Owners
leaving gone o r = less gone (o r)

-- the set s with p in the place of t if t had the lock, else s without t
unfoldable pub replacing : Bool → (ℕ → Bool) → ℕ → ℕ → ℕ → Bool
replacing had s t p k = (not (same k t) && s k) || (same k p && had)

-- p takes, in each place, what t held or retained there, and t leaves
unfoldable pub inheriting : ℕ → ℕ → Owners → Owners → Owners
inheriting t p held retained k = replacing (held k t || retained k t) (retained k) t p

-- p inherits from t if it is told
unfoldable pub reporting : Bool → ℕ → ℕ → Owners → Owners → Owners
reporting told t p held retained = cond told (inheriting t p held retained) retained

-- p is in each set in the place of t
unfoldable pub handed : ℕ → ℕ → Owners → Owners
handed t p o k = replacing (o k t) (o k) t p

-- one set of an array becomes s
pub record SetChanged (r : ℕ) (s : ℕ → Bool) (l l' : List ℕ) : Type 0 where
  pub word : ℕ
  pub is : l' ≡ set l r word
  pub holds : bits word ≡ s

-- the sets of an array of n
pub record Rows (n : ℕ) (f : Owners) (l : List ℕ) : Type 0 where
  pub are : sets l ≡ f
  pub long : length l ≡ n

-- an array as its places; those that `gone` picks become 0
unfoldable pub places : List ℕ → ℕ → ℕ
places l k = get_or l k 0

unfoldable pub cleared : (ℕ → Bool) → (ℕ → ℕ) → ℕ → ℕ
cleared gone f k = cond (gone k) 0 (f k)

pub record Cleared (gone : ℕ → Bool) (l l' : List ℕ) : Type 0 where
  pub are : places l' ≡ cleared gone (places l)
  pub long : length l' ≡ 24
