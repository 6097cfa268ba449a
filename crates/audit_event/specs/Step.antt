-- One event of an audit: the answer that is due by the tables, and the tables after it.
use Rattle.std.specs.Prelude.{ℕ, suc, ◌≤◌, ◌≡◌, true, false, List, ◌≢◌, length, get_or, Result, Ok, Err}
use Rattle.std.proofs.Math.Option.{Option}
use Rattle.rules.specs.Geometry.{records}
use Rattle.rules.specs.Store.{Page, pages_of}
use Rattle.rules.specs.Event.{Event}
use Rattle.rules.specs.Step.{Answer, done, refused, cut, number_of, value_of}
use Rattle.rules.specs.Editions.{geometry1, edition1}
use Rattle.audit_rules.specs.Plain.{is_parent, learned, due}
use Rattle.audit_link.specs.Links.{Earlier, Bounded}
use Rattle.audit_scan.specs.Scans.{event_in_bytes}
use Rattle.audit_bearer.specs.declared.Tables as held
use Rattle.audit_bearer.specs.Tables.{Tables, Matched, ledger_of}
use Rattle.audit_page.specs.declared.Done.{Done}
use Rattle.audit_page.specs.declared.Done.TheVariants.{Whole, Cut}
use Rattle.audit_event.specs.declared.Refusal.{Refusal}
use Rattle.audit_event.specs.declared.Refusal.TheVariants.{BadEvent, Down, Up, Damaged, NotLive, TooDeep, NoneFree, Barred, NotHeld, CommitBesideChild, BesideChild}

-- a refusal by its number
abbrev pub event_refusal : Refusal → ℕ
event_refusal BadEvent = 1
event_refusal Down = 2
event_refusal Up = 3
event_refusal Damaged = 4
event_refusal NotLive = 5
event_refusal TooDeep = 6
event_refusal NoneFree = 7
event_refusal Barred = 8
event_refusal NotHeld = 9
event_refusal CommitBesideChild = 10
event_refusal BesideChild = 14

-- what is answered, as the rules say it
unfoldable pub answered_as : Result Done Refusal → Answer
answered_as (Ok (Whole v)) = done v
answered_as (Ok (Cut v)) = cut v
answered_as (Err r) = refused (event_refusal r)

-- opens the answers: for what is proved by computing
unfoldable pub open_answers : Unit {0}
unfolding answered_as number_of value_of
open_answers = tt

-- the tables are in order before event n
pub record Consistent (b : Tables) (n : ℕ) : Type 0 where
  pub matched : Matched b.fate b.bearer b.begun
  pub earlier : Earlier b.parent
  pub tall : length b.parent ≡ 4097
  pub full : length b.owner ≡ 4096
  pub owners : (j : ℕ) → get_or b.owner j 0 ≤ b.begun
  pub later : (j : ℕ) → n ≤ j → get_or b.owner j 0 ≡ 0
  pub few : b.begun ≤ n

-- event n gets the answer that is due, and leaves the store and the tables that it should
pub record Audited (start : ℕ → Page) (events : List ℕ) (n : ℕ) (b : Tables) (store : List ℕ) (e : Option Event) (number value : ℕ) (b' : Tables) (store' : List ℕ) : Type 0 where
  pub numbered : number ≡ number_of (due edition1 start (ledger_of b events n) (pages_of store) e).answer
  pub valued : value ≡ value_of (due edition1 start (ledger_of b events n) (pages_of store) e).answer
  pub stored : pages_of store' ≡ (due edition1 start (ledger_of b events n) (pages_of store) e).store
  pub learns : ledger_of b' events (suc n) ≡ learned (records geometry1) (ledger_of b events n) e (due edition1 start (ledger_of b events n) (pages_of store) e).answer
  pub consistent : Consistent b' (suc n)

-- the transaction `me` bears the number t, and the store is up
pub record BearerReady (b : Tables) (t me : ℕ) : Type 0 where
  pub up : b.up ≡ true
  pub bears : get_or b.bearer t 0 ≡ me
  pub some : me ≢ 0

-- no live transaction's parent is `me`
abbrev pub Childless : Tables → List ℕ → ℕ → ℕ → Type 0
Childless b events n me = is_parent (ledger_of b events n).story me ≡ false

-- event n is e, and the tables are in order
pub record Before (events : List ℕ) (n : ℕ) (e : Option Event) (b : Tables) : Type 0 where
  pub comes : event_in_bytes events n ≡ e
  pub consistent : Consistent b n

-- the same as `Audited`, of an answer
abbrev pub AuditedAs : (ℕ → Page) → List ℕ → ℕ → Tables → List ℕ → Option Event → Result Done Refusal → Tables → List ℕ → Type 0
AuditedAs start events n b store e answer b' store' = Audited start events n b store e (number_of (answered_as answer)) (value_of (answered_as answer)) b' store'

-- the arrays of the tables are in order
pub record InOrder (s : held.Tables) : Type 0 where
  pub owners : Bounded s.owner
  pub full : length s.owner ≡ 4096
  pub earlier : Earlier s.links.parent
  pub tall : length s.links.parent ≡ 4097
  pub wide : length s.links.fate ≡ 4097
  pub bearers : Bounded s.bearer
  pub long : length s.bearer ≡ 24
