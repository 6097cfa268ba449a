-- So far the page has the writes laid over it that show, of the events before k.
use mathlib.Core.Path.{◌≡◌, refl, ap, ◌∙◌}
use Prim.Native.Nat.{ℕ}
use native.Mathlib.Omega.{arith}
use Rattle.history.specs.History.{overlaid}
use Rattle.audit_link.specs.Links.{shows_to}
use Rattle.audit_scan.specs.Scans.{writes_up_to}
use Rattle.audit_scan.proofs.More.{lay_scan}
use Rattle.audit_scan.proofs.View.page_of.Goals as goal

pub loop-k-init : goal.loop-k-init
unfolding writes_up_to overlaid
loop-k-init c = (omega arith, λ l K. refl)

pub loop-k-preserved : goal.loop-k-preserved
loop-k-preserved c =
    let o = c.loop-k in
    let a = c.args in
    (omega arith, λ l K. lay_scan a.self.owner.now a.self.list.events.now o.k (shows_to l a.self.me) a.r a.settled o.page _ (o.invariant.1 l K) (c.lay.ensures l K))

pub returns : goal.returns
returns c =
    λ l K. let o = c.loop-k in let a = c.args in let q : o.k ≡ a.self.list.n = omega arith in o.invariant.1 l K ∙ ap (λ (m : ℕ). overlaid (shows_to l a.self.me) a.r (writes_up_to a.self.owner.now a.self.list.events.now m) a.settled) q
