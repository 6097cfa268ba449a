-- Some event is a write that stands with that transaction.
use Rattle.std.proofs.Common.{ℕ, Bool, not, ◌&&◌, refl, rules, tests}
use mathlib.Core.Path.{◌∙◌}
use native.Mathlib.Omega.{arith}
use lib.ListN.{get_or}
use Rattle.std.proofs.lemmas.Iterator.{YieldsList-from_range}
use Rattle.std.proofs.lemmas.Iterator.Search.{any_from_yields_List}
use Rattle.laws.specs.Tests.{same}
use Rattle.history.specs.History.{stands_with}
use Rattle.audit_scan.specs.Scans.{event_in_bytes, writes_at}
use Rattle.audit_scan.proofs.More.{writes_any}
use Rattle.audit_scan.proofs.Ranges.{any_range}
use Rattle.audit_scan.proofs.View.changes.Goals as goal

pub returns : goal.returns
returns c =
    λ l K.
    let a = c.args in
    let owner = a.self.owner.now in
    let events = a.self.list.events.now in
    let n = a.self.list.n in
    let own : ℕ → Bool = λ i. same (stands_with l.story i) a.self.me in
    let hit : ℕ → Bool = λ k. not (same (get_or owner k 0) 0) && (own (get_or owner k 0) && writes_at (event_in_bytes events k) a.r) in
    any_from_yields_List hit _ _ c.any.result c.any.ensures.ran (YieldsList-from_range 0 n n refl (omega arith)) (λ x b q k. search (rules, tests))
    ∙ any_range n hit ∙ writes_any owner events own a.r n
