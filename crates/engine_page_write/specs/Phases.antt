-- The page writes that a plan of phases stands for, and the plans of each kind of event, on atomic pages and on pages that can tear.
use Rattle.std.specs.Prelude.{◌≡◌, Bool, true, false, not, cond, List, [], ◌∷◌, ◌++◌, ℕ, ◌+◌, ◌/◌, ◌%◌, Some, None}
use Rattle.std.specs.declared.option.Option.{Option as Answered}
use Rattle.std.proofs.Math.Option.{Option, none, some}
use Rattle.laws.specs.Tests.{same}
use Rattle.rules.specs.Geometry.{Geometry}
use Rattle.rules.specs.Store.{Page, named, commit_page, prepared_page}
use Rattle.rules.specs.Event.{Event}
use Rattle.rules.specs.Commit.{PageWrite, sets}
use Rattle.rules.specs.Editions.{form_in}
use Rattle.claim_device.specs.Asked.{plan_for}
use Rattle.leaf_commit_page.specs.Heard.{prepared}
use Rattle.store_write.specs.Phase.{store_of, shown_in}
use Rattle.store_commit.specs.Phase.{sweep, copies, top_slot}
use Rattle.state_whole.specs.Whole.{Arrays, view}
use Rattle.engine_page_write.specs.declared.Plan.{Plan}

abbrev pub plan : ℕ → ℕ → Bool → Bool → Bool → Bool → Bool → Bool → Plan
plan map identity intentions committed prepared homes emptied stored =
    record { map = map; identity = identity; intentions = intentions; committed = committed; prepared = prepared; homes = homes; emptied = emptied; stored = stored }

abbrev pub nothing : Plan
nothing = plan 0 0 false false false false false false

-- the code's plan, which there is none of where nothing is written
abbrev pub plan_told : Answered Plan → Plan
plan_told None = nothing
plan_told (Some p) = p

unfoldable pub of_top : ℕ → Bool → ℕ → Plan
of_top map prepares identity = cond (same map 0) nothing (plan map identity true (not prepares) prepares (not prepares) (not prepares) false)

unfoldable pub of_recovery : ℕ → Plan
of_recovery map = cond (same map 0) nothing (plan map 0 false false false true true true)

abbrev pub of_decision : ℕ → Bool → Plan
of_decision map commits = plan map 0 false commits false commits true true

-- the code's record, which there is none of past the last; and its page write, by the page's number and the page
abbrev pub record_or : ℕ → Answered ℕ → ℕ
record_or d None = d
record_or d (Some r) = r

abbrev pub page_write_told : Answered (ℕ × Page) → Option PageWrite
page_write_told None = none
page_write_told (Some w) = some (sets w.0 w.1)

-- the page write that the write with a number is, or is a copy of, and the bytes of that write
abbrev pub page_number : Bool → ℕ → ℕ
page_number false index = index
page_number true index = index / 2

abbrev pub spelled_write : Bool → ℕ → ℕ → Page → List ℕ
spelled_write false index number page = number ∷ page
spelled_write true index number page = number ∷ index % 2 ∷ page

-- the page that is written for a record
unfoldable pub source_of : Bool → Plan → List ℕ → List ℕ → ℕ → Page
source_of tears p work store r = cond p.stored (shown_in tears (store_of tears store) (1 + r)) (top_slot work r)

-- a phase that there is
unfoldable pub when : Bool → List PageWrite → List PageWrite
when there ws = cond there ws []

-- the page writes, phase by phase, where there are n records
unfoldable pub writes_of : Bool → Geometry → ℕ → Plan → List ℕ → List ℕ → List PageWrite
writes_of tears g n p work store =
    when p.intentions (sweep (named g p.map) (copies 1 (source_of tears p work store)) n)
    ++ (when p.committed (sets 0 (commit_page g p.map) ∷ [])
    ++ (when p.prepared (sets 0 (prepared_page g (prepared p.map p.identity)) ∷ [])
    ++ (when p.homes (sweep (named g p.map) (copies (1 + n) (source_of tears p work store)) n)
    ++ when p.emptied (sets 0 (commit_page g 0) ∷ []))))

-- a plan's page writes are those that the rules plan for an event, or for a bad one
pub record Plans (tears : Bool) (g : Geometry) (n : ℕ) (x : Arrays) (e : Option Event) (p : Plan) : Type 0 where
  pub writes : writes_of tears g n p x.work x.store ≡ plan_for tears g (view (form_in tears g) x) e
