-- Some event is a lock of its own.
use Rattle.std.proofs.Common.{ℕ, Bool, ◌&&◌, refl, rules, tests}
use mathlib.Core.Path.{◌∙◌}
use native.Mathlib.Omega.{arith}
use lib.ListN.{get_or}
use Rattle.std.proofs.lemmas.Iterator.{YieldsList-from_range}
use Rattle.std.proofs.lemmas.Iterator.Search.{any_from_yields_List}
use Rattle.laws.specs.Tests.{same}
use Rattle.audit_scan.specs.Scans.{is_any, event_in_bytes, mode_test, locks_at}
use Rattle.audit_scan.proofs.More.{locks_any, own_some}
use Rattle.audit_scan.proofs.Ranges.{any_range, same_any}
use Rattle.audit_scan.proofs.View.holds.Goals as goal

pub returns : goal.returns
returns c =
    let a = c.args in
    let me = a.self.me in
    let owner = a.self.owner.now in
    let events = a.self.list.events.now in
    let n = a.self.list.n in
    let test = mode_test (is_any a.modes) in
    let hit : ℕ → Bool = λ k. same (get_or owner k 0) me && locks_at (event_in_bytes events k) a.r test in
    any_from_yields_List hit _ _ c.any.result c.any.ensures.ran (YieldsList-from_range 0 n n refl (omega arith)) (λ x b q k. search (rules, tests))
    ∙ any_range n hit ∙ same_any n hit _ (λ k. own_some (get_or owner k 0) me _ c.requires.1) ∙ locks_any owner events test (λ i. same i me) a.r n
