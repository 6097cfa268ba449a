-- What the functions over versions promise, each over the arrays that it is lent.
use Rattle.std.specs.Prelude.{◌≡◌, true, false, cond, ◌&&◌, List, Option, Some, None, ◌⊎◌, ℕ, suc, ◌+◌, ◌*◌, ◌-◌, ◌/◌, ◌%◌, ◌≤◌, get_or, length}
use Rattle.laws.specs.Tests.{same}
use Rattle.laws.specs.Functions.{updated}
use Rattle.laws.specs.Bits.{bits}
use Rattle.rules.specs.Geometry.{transactions, nobody}
use Rattle.rules.specs.Store.{Page, pages_of}
use Rattle.rules.specs.State.{line_from, line_of, Versions}
use Rattle.rules.specs.Versions.{is_some, nearest}
use Rattle.rules.specs.Editions.{depths}
use Rattle.rules.proofs.Bearers.{Rooted}
use Rattle.leaf_set.specs.Sets.{sets}
use Rattle.state_array.specs.View.{Owners, bearers_of}
use Rattle.state_array.specs.Changes.{joined}
use Rattle.state_version.specs.declared.Climb.{Climb}

-- what a walk up the parents rests on
pub record Sources (parent depth : List ℕ) : Type 0 where
  pub tree : Rooted transactions nobody (bearers_of parent depth)
  pub long : length depth ≡ 24
  pub shallow : (t : ℕ) → get_or depth t 0 ≤ depths

-- the walk stands still where nobody is left or a member of w stands, else it goes one up
pub data Climbing (parent : List ℕ) (w : ℕ) (c d : Climb) : Type 0 where
  ended : c.left ≡ 0 → d ≡ c → Climbing parent w c d
  found : bits w c.at ≡ true → d ≡ c → Climbing parent w c d
  passed : bits w c.at ≡ false → c.left ≡ suc d.left → d.at ≡ get_or parent c.at 0 → Climbing parent w c d

-- where the walk ends, all reads are as they were where it began
pub record Climbed (parent depth : List ℕ) (w t : ℕ) (c : Climb) : Type 0 where
  pub stops : (c.left ≡ 0) ⊎ (bits w c.at ≡ true)
  pub level : get_or depth c.at 0 ≡ c.left
  pub reads : (version : Versions) (home : Page) (r : ℕ) → ((j : ℕ) → is_some (version j r) ≡ bits w j)
      → nearest version home r (line_of (bearers_of parent depth) t) ≡ nearest version home r (line_from (bearers_of parent depth) c.left c.at)

-- a walk that met nobody stands at nobody, with nobody left
abbrev pub climb_told : Option Climb → Climb
climb_told None = record { at = nobody; left = 0 }
climb_told (Some c) = c

-- t is a writer of r, and page n of the working buffer becomes p; nothing else changes
pub record Written (n t r : ℕ) (p : Page) (writers work writers' work' : List ℕ) : Type 0 where
  pub has : sets writers' ≡ joined t r (sets writers)
  pub page : pages_of work' ≡ updated n p (pages_of work)
  pub long : length writers' ≡ length writers

-- the versions of t at depth d, in the slots one up
unfoldable pub lifted : Owners → ℕ → ℕ → (ℕ → Page) → ℕ → Page
lifted writers t d slots n = cond (same (n % depths) (d - 2) && writers (n / depths) t) (slots (n / depths * depths + (d - 1))) (slots n)
