-- The tables stand for the history so far, and the walk from here says what the whole walk says; an answer that is not due ends it.
use mathlib.Core.Path.{◌≡◌}
use Prim.Native.Nat.{◌≤◌}
use lib.ListN.{length}
use Rattle.rules.specs.Store.{pages_of}
use Rattle.rules.specs.Run.{words}
use Rattle.rules.specs.Editions.{geometry1, edition1}
use Rattle.history.specs.Demand3.{settled_in}
use Rattle.audit_rules.specs.Plain.{blank_ledger}
use Rattle.audit_rules.specs.Walk.{walk}
use Rattle.audit_bearer.specs.Tables.{tables_of}
use Rattle.audit_event.specs.Step.{Consistent}
use Rattle.audit_verdict.proofs.Walks.{onward}
use Rattle.audit_verdict.proofs.walk.Given as goal

abbrev pub invariant-loop-k : goal.invariant-loop-k
invariant-loop-k l =
    (l.k ≤ l.n) × (length l.store ≡ 1056) × Consistent (tables_of l.tables) l.k × (walk edition1 (settled_in edition1 l.start) l.answers blank_ledger (pages_of l.initial.store) 0 (words geometry1 l.n l.events) ≡ onward (settled_in edition1 l.start) l.answers l.events l.n l.k (tables_of l.tables) l.store)
