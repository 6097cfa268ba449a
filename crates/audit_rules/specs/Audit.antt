-- What the auditor answers (document 02, L13): whether a start store, a list, its answers and an end store belong together, as a run of the
-- rules over that store and that list says. This is the auditor's promise; nothing here is about how it finds out.
use Rattle.std.specs.Prelude.{ℕ, suc, ◌*◌, ◌%◌, Bool, false, not, cond, ◌&&◌, ◌||◌, List, [], ◌∷◌, length, get_or, replicate}
use Rattle.std.proofs.Math.Option.{Option, none, some}
use Rattle.laws.specs.Tests.{same, under}
use Rattle.laws.specs.Counting.{lowest}
use Rattle.laws.specs.Bytes.{same_list}
use Rattle.rules.specs.Geometry.{Geometry, page_count, work_size, word_size, longest}
use Rattle.rules.specs.Store.{pages_of}
use Rattle.rules.specs.Event.{fields}
use Rattle.rules.specs.Form.{Form}
use Rattle.rules.specs.Step.{first_of, is_busy}
use Rattle.rules.specs.Run.{words, events_in, Result, run}
use Rattle.rules.specs.Editions.{edition1}

-- Yes; else the first wrong event, from 0; else, where every event is right, the first wrong page. Or refused with a number.
pub data Verdict : Type 0 where
  belongs : Verdict
  wrong_event : ℕ → Verdict
  wrong_page : ℕ → Verdict
  refuses : ℕ → Verdict

-- the kinds of two-phase commit, which the auditor doesn't know: 9 to 11, whatever the other fields
unfoldable pub is_two_phase : Geometry → ℕ → Bool
is_two_phase g w = under 8 (fields g w).kind && under (fields g w).kind 12

unfoldable pub some_two_phase : Geometry → List ℕ → Bool
some_two_phase g [] = false
some_two_phase g (w ∷ ws) = is_two_phase g w || some_two_phase g ws

module _ (f : Form) where
  -- the refusals in the order in which they are tried: a store's length, the list's, the answers', what isn't covered
  unfoldable pub audit_refusals : List ℕ → List ℕ → List ℕ → List ℕ → List (ℕ × Bool)
  audit_refusals start events answers end =
      (22, not (same (length start) f.medium.size) || not (same (length end) f.medium.size)) ∷
      (20, not (same (length events % word_size f.geometry) 0) || under (longest * word_size f.geometry) (length events)) ∷
      (21, under (length answers) (2 * events_in f events)) ∷
      (30, some_two_phase f.geometry (words f.geometry (events_in f events) events) || is_busy (f.medium.prepared (f.medium.from_bytes start))) ∷
      []

  -- the two bytes of answer i are the same in both
  unfoldable pub same_answer : List ℕ → List ℕ → ℕ → Bool
  same_answer a b i = same (get_or a (2 * i) 0) (get_or b (2 * i) 0) && same (get_or a (suc (2 * i)) 0) (get_or b (suc (2 * i)) 0)

  unfoldable pub same_page : List ℕ → List ℕ → ℕ → Bool
  same_page a b p = same_list (pages_of a p) (pages_of b p)

  -- the first wrong one of so many events, and of so many pages
  unfoldable pub verdict : ℕ → ℕ → ℕ → ℕ → Verdict
  verdict events event pages page = cond (under event events) (wrong_event event) (cond (under page pages) (wrong_page page) belongs)

  -- as the run left its answers and its store
  unfoldable pub verdict_of : List ℕ → List ℕ → List ℕ → Result → Verdict
  verdict_of events answers end ran =
      verdict (events_in f events) (lowest (events_in f events) (λ i. not (same_answer answers ran.answers i)))
      (page_count f.geometry) (lowest (page_count f.geometry) (λ p. not (same_page end ran.store p)))

  unfoldable pub audit_by : List ℕ → List ℕ → List ℕ → List ℕ → Option ℕ → Verdict
  audit_by start events answers end none = verdict_of events answers end (run f start events (replicate (work_size f.geometry) 0) answers)
  audit_by start events answers end (some n) = refuses n

  -- A start store, a list of events, its answers, an end store. (What a run's working buffer held has no effect; here it holds zeros.)
  unfoldable pub audit : List ℕ → List ℕ → List ℕ → List ℕ → Verdict
  audit start events answers end = audit_by start events answers end (first_of (audit_refusals start events answers end))

-- of edition 1
unfoldable pub audit1 : List ℕ → List ℕ → List ℕ → List ℕ → Verdict
audit1 = audit edition1

-- opens the definitions of this module: for what is proved by computing
unfoldable pub open_audit : Unit {0}
unfolding is_two_phase some_two_phase audit_refusals same_answer same_page verdict verdict_of audit_by audit audit1
open_audit = tt
