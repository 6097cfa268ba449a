-- The auditor's tables: for each event the transaction that owns it, for each transaction its parent and its fate, for each number who bears it.
use Rattle.std.specs.Prelude.{ℕ, ◌+◌, ◌<◌, ◌≤◌, ◌≡◌, Bool, not, cond, ◌&&◌, ◌||◌, List, ◌≢◌, length, get_or, Option, Some, None}
use Rattle.laws.specs.Tests.{same, under}
use Rattle.history.specs.History.{climbs}
use Rattle.audit_rules.specs.Plain.{Ledger}
use Rattle.audit_link.specs.Links.{entry_at, fate_in, passed_in}
use Rattle.audit_scan.specs.Scans.{grants_to, writes_up_to}
use Rattle.audit_bearer.specs.declared.Tables as held

-- the place that was found among n, or n where there is none
unfoldable pub place_among : ℕ → Option ℕ → ℕ
place_among n None = n
place_among n (Some t) = t

pub record Tables : Type 0 where
  pub owner : List ℕ
  pub parent : List ℕ
  pub fate : List ℕ
  pub bearer : List ℕ
  pub begun : ℕ
  pub up : Bool

unfoldable pub tables : List ℕ → List ℕ → List ℕ → List ℕ → ℕ → Bool → Tables
tables owner parent fate bearer begun up = record { owner = owner; parent = parent; fate = fate; bearer = bearer; begun = begun; up = up }

-- as the auditor holds them
abbrev pub tables_of : held.Tables → Tables
tables_of s = tables s.owner s.links.parent s.links.fate s.bearer s.begun s.up

-- fates and bearers may change, and all else stays
abbrev pub OthersStay : held.Tables → held.Tables → Type 0
OthersStay old new = (new.owner ≡ old.owner) × (new.links.parent ≡ old.links.parent) × (new.begun ≡ old.begun) × (new.up ≡ old.up)

-- what they tell after the first n events
unfoldable pub ledger_of : Tables → List ℕ → ℕ → Ledger
ledger_of b events n = record {
  story = record { begun = b.begun; bearer = entry_at b.bearer; parent = entry_at b.parent; fate = fate_in b.fate; writes = writes_up_to b.owner events n };
  passed = passed_in b.fate;
  grants = grants_to b.owner events n;
  up = b.up;
}

-- who bears a number, and what fate says so
pub record Matched (fate bearer : List ℕ) (begun : ℕ) : Type 0 where
  pub long : length bearer ≡ 24
  pub wide : length fate ≡ 4097
  pub known : (t : ℕ) → get_or bearer t 0 ≤ begun
  pub bears : (t : ℕ) → get_or bearer t 0 ≢ 0 → get_or fate (get_or bearer t 0) 0 ≡ 32 + t
  pub who : (i t : ℕ) → get_or fate i 0 ≡ 32 + t → get_or bearer t 0 ≡ i
  pub none_ended : get_or fate 0 0 ≡ 0
  pub unborn : (i : ℕ) → begun < i → get_or fate i 0 ≡ 0

-- a is an ancestor of i or i itself; where a is 0 everyone is taken
unfoldable pub takes : List ℕ → ℕ → ℕ → Bool
takes parent a i = same a 0 || (not (same a 0) && climbs (entry_at parent) i a i)

-- the live transactions end that `hit` takes, of the numbers below t: their fate is 0, and their numbers are free
pub record Ending (hit : ℕ → Bool) (t : ℕ) (fate bearer fate' bearer' : List ℕ) : Type 0 where
  pub fates : (i : ℕ) → get_or fate' i 0 ≡ cond (under 31 (get_or fate i 0) && (under (get_or fate i 0) (32 + t) && hit i)) 0 (get_or fate i 0)
  pub bearers : (u : ℕ) → get_or bearer' u 0 ≡ cond (under u t && hit (get_or bearer u 0)) 0 (get_or bearer u 0)
