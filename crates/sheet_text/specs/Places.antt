-- The places between the steps of a text that is read to its end, and the event that each step gives.
use Rattle.std.specs.Prelude.{◌≡◌, cond, List, [], ◌∷◌, ◌++◌, ℕ, ◌≤◌, ◌<◌, length}
use Rattle.laws.specs.Tests.{same}
use Rattle.rules.specs.Event.{Event, encode}
use Rattle.rules.specs.Editions.{geometry1}
use Rattle.sheet_text.specs.Scan.{Scan, between, ended, scan_after}
use Rattle.sheet_text.specs.Emit.{emits}

-- the reading of s comes to an end
pub record Ends (s : List ℕ) : Type 0 where
  pub room : ℕ
  pub is_so : scan_after s (length s) ≡ ended room

-- between two steps; level 16 is behind the end
unfoldable pub level_reached : ℕ → ℕ → Scan
level_reached l r = cond (same l 16) (ended r) (between l r)

-- after i bytes of s stands no part of a step
pub record Place (s : List ℕ) (i l : ℕ) : Type 0 where
  pub room : ℕ
  pub low : l < 17
  pub scan : (emits s i).scan ≡ level_reached l room
  pub part : (emits s i).part ≡ []

-- the step at i gives one event, whose word is w; behind it, at i', stands level l'
pub record Turns (s : List ℕ) (i w i' l' : ℕ) : Type 0 where
  pub further : i < i'
  pub within : i' ≤ length s
  pub place : Place s i' l'
  pub event : Event
  pub coded : w ≡ encode geometry1 event
  pub gives : (emits s i').events ≡ (emits s i).events ++ (event ∷ [])
