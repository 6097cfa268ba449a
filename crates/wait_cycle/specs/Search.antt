-- The search for a cycle, as its functions promise it.
use Rattle.std.specs.Prelude.{◌≡◌, Bool, true, ◌&&◌, List, [], ◌∷◌, Option, Some, None, ℕ, ◌<◌, ◌≤◌, length, take}
use Rattle.laws.specs.Counting.{any}
use Rattle.rules.specs.Geometry.{transactions}
use Rattle.rules.specs.State.{mem}
use Rattle.rules.specs.Waiting.{Pointings, leads, distinct, is_cycle}

-- t is among m and points to one of m
unfoldable pub goes_on : Pointings → (ℕ → Bool) → ℕ → Bool
goes_on p m t = m t && any transactions (λ u. p t u && m u)

-- m has every cycle whole
abbrev pub Holds : Pointings → (ℕ → Bool) → Type 0
Holds p m = (l : List ℕ) → is_cycle p l ≡ true → (y : ℕ) → mem y l ≡ true → m y ≡ true

-- a set that has every cycle, and whose members all point into it
pub record Core (p : Pointings) (m : ℕ → Bool) : Type 0 where
  pub holds : Holds p m
  pub closed : (t : ℕ) → t < transactions → m t ≡ true → goes_on p m t ≡ true

-- from the first of l on to t
unfoldable pub trail : Pointings → List ℕ → ℕ → Bool
trail p [] t = true
trail p (x ∷ l) t = leads p x l t

-- a path, none twice, that leads on to t
pub record Path (p : Pointings) (l : List ℕ) (t : ℕ) : Type 0 where
  pub once : distinct l ≡ true
  pub on : trail p l t ≡ true
  pub small : (y : ℕ) → mem y l ≡ true → y < transactions

-- a path of n transactions that comes back to one of its own, t
pub record PathReturns (p : Pointings) (path : List ℕ) (n t : ℕ) : Type 0 where
  pub short : n ≤ transactions
  pub long : length path ≡ 24
  pub path_to : Path p (take n path) t
  pub again : mem t (take n path) ≡ true

-- the length of the cycle that was found; 0 where there is none
unfoldable pub length_of : Option ℕ → ℕ
length_of None = 0
length_of (Some n) = n
