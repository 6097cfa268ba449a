-- Some event bars.
use Rattle.std.proofs.Common.{ℕ, Bool, not, ◌&&◌, refl, rules, tests}
use mathlib.Core.Path.{◌∙◌}
use native.Mathlib.Omega.{arith}
use lib.ListN.{get_or}
use Rattle.std.proofs.lemmas.Iterator.{YieldsList-from_range}
use Rattle.std.proofs.lemmas.Iterator.Search.{any_from_yields_List}
use Rattle.laws.specs.Tests.{same}
use Rattle.audit_rules.specs.Plain.{grant_blocks}
use Rattle.audit_scan.specs.Scans.{is_any, event_in_bytes, mode_test, locks_at}
use Rattle.audit_scan.proofs.More.{locks_any}
use Rattle.audit_scan.proofs.Ranges.{any_range}
use Rattle.audit_scan.proofs.View.barred.Goals as goal

pub returns : goal.returns
returns c =
    λ l K.
    let a = c.args in
    let owner = a.self.owner.now in
    let events = a.self.list.events.now in
    let n = a.self.list.n in
    let test = mode_test (is_any a.modes) in
    let hit : ℕ → Bool = λ k. not (same (get_or owner k 0) 0) && (grant_blocks l a.self.me (get_or owner k 0) && locks_at (event_in_bytes events k) a.r test) in
    any_from_yields_List hit _ _ c.any.result c.any.ensures.ran (YieldsList-from_range 0 n n refl (omega arith)) (λ x b q k. search (rules, tests))
    ∙ any_range n hit ∙ locks_any owner events test (grant_blocks l a.self.me) a.r n
