-- Edition 1 as it is without document 02's L9: kinds 9 to 11 are bad events, and a page in state 3 is damaged. And the claim that this makes no
-- difference to a list without these kinds, over a start store in which nothing is prepared.
use Rattle.std.specs.Prelude.{◌≡◌, false, List, ℕ}
use Rattle.rules.specs.Geometry.{Geometry}
use Rattle.rules.specs.Store.{pages_of}
use Rattle.rules.specs.Form.{Form, atomic_pages}
use Rattle.rules.specs.Step.{is_busy}
use Rattle.rules.specs.Run.{words, events_in, run}
use Rattle.rules.specs.Editions.{geometry1, edition1}
use Rattle.audit_rules.specs.Audit.{some_two_phase}

abbrev pub geometry_without : Geometry
geometry_without = record { edition = 1; record_bits = 4; cut_bits = 6; spare_bits = 0; ones_bits = 5; depth_limit = 16; joint = false; tears = false }

abbrev pub edition1_without : Form
edition1_without = record { geometry = geometry_without; medium = atomic_pages geometry_without }

-- the claim, of every list that the auditor takes
unfoldable pub SameRun : Type 0
SameRun = (store events work answers : List ℕ) → is_busy (edition1.medium.prepared (pages_of store)) ≡ false
    → some_two_phase geometry1 (words geometry1 (events_in edition1 events) events) ≡ false → run edition1_without store events work answers ≡ run edition1 store events work answers
