-- So far the map has a bit for each record below r, set where it was changed.
use mathlib.Core.Path.{◌≡◌, refl, ap, ap₂, ◌∙◌, subst⁻¹}
use mathlib.Core.Bool.{Bool, true, cond}
use Prim.Native.Nat.{ℕ, ◌+◌, ◌*◌, ◌<◌}
use native.Mathlib.Omega.{arith}
use Rattle.laws.specs.Tests.{same}
use Rattle.audit_bearer.specs.Tables.{tables, ledger_of}
use mathlib.Core.List.{[]}
use Rattle.history.specs.History.{stands_with, writes_to}
use Rattle.rules.specs.Geometry.{open_geometry}
use Rattle.rules.specs.Store.{bits_from, map_of}
use Rattle.audit_scan.specs.Scans.{writes_up_to}
use Rattle.rules.proofs.Map.{bits-lt}
use Rattle.leaf_commit_page.proofs.Maps.{map_room, map_next}
use Rattle.audit_page.proofs.Ledgers.{linked}
use Rattle.audit_page.proofs.changed_map.Goals as goal

pub loop-r-init : goal.loop-r-init
unfolding bits_from
loop-r-init c = (omega arith, λ l K. refl)

pub grown-map-requires : goal.grown-map-requires
grown-map-requires c =
    let o = c.loop-r in
    let a = c.args in
    let l = ledger_of (tables a.view.owner.now a.view.links.now.parent a.view.links.now.fate [] 0 true) a.view.list.events.now a.view.list.n in
    let e = o.invariant.1 l (linked a.view.owner.now a.view.links.now.parent a.view.links.now.fate [] a.view.list.events.now 0 a.view.list.n true) in
    let k = map_room o.r (λ q. writes_to (λ i. same (stands_with l.story i) a.view.me) q (writes_up_to a.view.owner.now a.view.list.events.now a.view.list.n)) (omega arith) in
    omega (arith, e, k)

pub loop-r-preserved : goal.loop-r-preserved
loop-r-preserved c =
    let o = c.loop-r in
    let a = c.args in
    (omega arith, λ l K. c.grown-map.ensures ∙ ap₂ (λ (x : ℕ) (b : Bool). x * 2 + cond b 1 0) (o.invariant.1 l K) (c.changes.ensures l K) ∙ map_next o.r (λ q. writes_to (λ i. same (stands_with l.story i) a.view.me) q (writes_up_to a.view.owner.now a.view.list.events.now a.view.list.n)))

pub returns : goal.returns
unfolding map_of open_geometry
returns c =
    (λ l K. let o = c.loop-r in let a = c.args in let q : o.r ≡ 16 = omega arith in o.invariant.1 l K ∙ ap (λ (m : ℕ). bits_from m (λ q. writes_to (λ i. same (stands_with l.story i) a.view.me) q (writes_up_to a.view.owner.now a.view.list.events.now a.view.list.n))) q, let o = c.loop-r in let a = c.args in let l = ledger_of (tables a.view.owner.now a.view.links.now.parent a.view.links.now.fate [] 0 true) a.view.list.events.now a.view.list.n in let q : o.r ≡ 16 = omega arith in let p : ℕ → Bool = λ q. writes_to (λ i. same (stands_with l.story i) a.view.me) q (writes_up_to a.view.owner.now a.view.list.events.now a.view.list.n) in subst⁻¹ (λ (m : ℕ). m < 65536) (o.invariant.1 l (linked a.view.owner.now a.view.links.now.parent a.view.links.now.fate [] a.view.list.events.now 0 a.view.list.n true) ∙ ap (λ (m : ℕ). bits_from m p) q) (bits-lt 16 p))
