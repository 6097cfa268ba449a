-- The map of the changed records and their pages are those that the plain engine commits, and there are as many.
use mathlib.Core.Path.{◌≡◌, refl, sym, ap, ◌∙◌}
use mathlib.Core.Bool.{Bool, true, cond}
use mathlib.Core.List.{List}
use mathlib.Core.Option.{none, some}
use Prim.Native.Nat.{ℕ, zero, suc, ◌<◌, ◌^◌}
use native.Mathlib.Omega.{arith}
use lib.ListN.{get_or}
use Rattle.laws.specs.Tests.{same}
use Rattle.laws.specs.Counting.{count}
use Rattle.rules.specs.Geometry.{records, open_geometry}
use Rattle.rules.specs.Store.{map_of, named}
use Rattle.rules.specs.Editions.{geometry1, edition1}
use Rattle.rules.proofs.Map.{named-map_of}
use Rattle.history.specs.History.{stands_with, writes_to, overlaid, changed_by}
use Rattle.history.specs.Claims.{seen_by}
use Rattle.audit_rules.specs.Plain.{Ledger, has_changed, read_by, changes_by}
use Rattle.history.specs.Demand3.{settled_in}
use Rattle.audit_page.specs.Changed.{changed_page}
use Rattle.audit_link.specs.Links.{entry_at, shows_to}
use Rattle.audit_scan.specs.Scans.{writes_up_to}
use Rattle.audit_bearer.specs.Tables.{tables, ledger_of}

count_same : (n : ℕ) (p q : ℕ → Bool) → ((r : ℕ) → r < n → p r ≡ q r) → count n p ≡ count n q
unfolding count
count_same zero p q h = refl
count_same (suc n) p q h = rw (h n (omega arith), count_same n p q (λ r k. h r (omega (arith, k))))

module _ (start owner parent fate bearer events : List ℕ) (begun n t me map : ℕ) (bears : get_or bearer t 0 ≡ me) where
  abbrev l : Ledger
  l = ledger_of (tables owner parent fate bearer begun true) events n

  abbrev p : ℕ → Bool
  p q = writes_to (λ i. same (stands_with l.story i) me) q (writes_up_to owner events n)

  module _ (mapped : map ≡ map_of geometry1 p) where
    named_is : (r : ℕ) → r < 16 → named geometry1 map r ≡ p r
    unfolding open_geometry
    named_is r h = rw mapped (named-map_of geometry1 p r h)

    pub ones_are : count (records geometry1) (named geometry1 map) ≡ changed_by (records geometry1) l.story me
    unfolding changed_by ledger_of tables open_geometry
    ones_are = count_same 16 (named geometry1 map) p named_is

    pub versions_are : (r : ℕ) → r < 16 → changes_by edition1 (settled_in edition1 start) l.story t r ≡ cond (named geometry1 map r) (some (changed_page l start owner events n me r)) none
    unfolding changes_by has_changed read_by seen_by shows_to changed_page ledger_of tables entry_at
    versions_are r h =
        ap (λ (i : ℕ). cond (writes_to (λ k. same (stands_with l.story k) i) r (writes_up_to owner events n)) (some (overlaid (shows_to l i) r (writes_up_to owner events n) (settled_in edition1 start r))) none) bears
        ∙ ap (λ (b : Bool). cond b (some (changed_page l start owner events n me r)) none) (sym (named_is r h))

-- a map of sixteen records
pub small_map : (m : ℕ) → m < 65536 → m < 2 ^ records geometry1
unfolding open_geometry
small_map m h = h
