-- The auditor's walk: from event to event, what is due against what was answered; then page by page.
use Rattle.std.specs.Prelude.{ℕ, suc, ◌*◌, Bool, not, cond, ◌&&◌, List, [], ◌∷◌, get_or}
use Rattle.std.proofs.Math.Option.{Option, none, some}
use Rattle.laws.specs.Tests.{same}
use Rattle.laws.specs.Counting.{lowest}
use Rattle.rules.specs.Geometry.{records, page_count}
use Rattle.rules.specs.Store.{Page}
use Rattle.rules.specs.Event.{decode}
use Rattle.rules.specs.Form.{Form}
use Rattle.rules.specs.Step.{Answer, number_of, value_of, first_of}
use Rattle.rules.specs.Run.{words, events_in}
use Rattle.history.specs.Demand3.{settled_in}
use Rattle.audit_rules.specs.Plain.{Ledger, blank_ledger, learned, due}
use Rattle.audit_rules.specs.Audit.{Verdict, wrong_event, refuses, audit_refusals, same_page, verdict}

-- where a walk ends: at the first wrong event, or past the last with the store that is due
pub data Walked (S : Type 0) : Type 0 where
  wrong : ℕ → Walked S
  right : S → Walked S

-- the two bytes at event i are those of an answer
unfoldable pub answered : List ℕ → ℕ → Answer → Bool
answered answers i a = same (get_or answers (2 * i) 0) (number_of a) && same (get_or answers (suc (2 * i)) 0) (value_of a)

module _ (f : Form) (start : ℕ → Page) (answers : List ℕ) where
  -- from event i on, with these words left
  unfoldable pub walk : Ledger → f.medium.Store → ℕ → List ℕ → Walked f.medium.Store
  walk l store i [] = right store
  walk l store i (w ∷ ws) =
      let d = due f start l store (decode f.geometry w) in
      let rest = walk (learned (records f.geometry) l (decode f.geometry w) d.answer) d.store (suc i) ws in
      cond (answered answers i d.answer) rest (wrong i)

module _ (f : Form) where
  -- the verdict of a walk: where every event is right, by the pages of the end store
  unfoldable pub verdict_by : List ℕ → Walked f.medium.Store → Verdict
  verdict_by end (wrong i) = wrong_event i
  verdict_by end (right store) =
      verdict f 0 0 (page_count f.geometry) (lowest (page_count f.geometry) (λ p. not (same_page f end (f.medium.to_bytes store) p)))

  unfoldable pub plain_by : List ℕ → List ℕ → List ℕ → List ℕ → Option ℕ → Verdict
  plain_by start events answers end none =
      verdict_by end (walk f (settled_in f start) answers blank_ledger (f.medium.from_bytes start) 0 (words f.geometry (events_in f events) events))
  plain_by start events answers end (some n) = refuses n

  -- the auditor, by its own engine
  unfoldable pub plain_audit : List ℕ → List ℕ → List ℕ → List ℕ → Verdict
  plain_audit start events answers end = plain_by start events answers end (first_of (audit_refusals f start events answers end))
