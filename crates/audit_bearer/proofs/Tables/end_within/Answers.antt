-- Of the numbers below t those that are taken have ended; the others, and all from t on, are as they were.
use Rattle.audit_bearer.proofs.Change.{cond_length, cond_small}
use mathlib.Core.Path.{◌≡◌, refl, ◌∙◌}
use mathlib.Core.Bool.{Bool, not, ◌&&◌}
use Prim.Native.Nat.{ℕ}
use native.Mathlib.Omega.{arith}
use lib.ListN.{get_or}
use Rattle.laws.specs.Tests.{same}
use Rattle.audit_link.specs.Links.{one_of}
use Rattle.audit_bearer.specs.Tables.{takes}
use Rattle.audit_bearer.proofs.Endings.{ending-none, ending_more}
use Rattle.audit_bearer.proofs.Tables.end_within.Goals as goal

pub loop-t-init : goal.loop-t-init
loop-t-init c = (omega arith, c.requires.0, c.requires.1, c.requires.2, λ n k S. (ending-none (takes c.args.self.now.links.parent (one_of c.args.a)) c.args.self.now.links.fate c.args.self.now.bearer, S), (refl, refl, refl, refl))

pub end_if-requires : goal.end_if-requires
end_if-requires c =
    let loop = c.loop-t in
    (omega arith, loop.invariant.1, loop.invariant.2, loop.invariant.3, rw loop.invariant.5.1 c.requires.3, c.requires.4)

pub loop-t-preserved : goal.loop-t-preserved
loop-t-preserved c =
    let o = c.loop-t in
    let a = c.args in
    let e = c.end_if.ensures in
    let f = o.invariant.5 in
    let g = e.2 in
    let up : o.self.links.parent ≡ a.self.now.links.parent = f.1 in
    let i : ℕ = get_or o.self.bearer o.t 0 in
    let b : Bool = not (same i 0) && takes a.self.now.links.parent (one_of a.a) i in
    (omega arith, (λ u. rw (e.1, up) (cond_small b o.self.bearer o.t u 4097 (omega arith) (omega (arith, o.invariant.2)) o.invariant.1)), rw (e.1, up) (cond_length b o.self.bearer o.t 0 ∙ o.invariant.2), rw (e.0, up) (cond_length b o.self.links.fate i 0 ∙ o.invariant.3), λ n k S. let I = o.invariant.4 n k S in ending_more (takes a.self.now.links.parent (one_of a.a)) S k o.t (omega arith) I.0 I.1 _ _ (rw up at e.0) (rw up at e.1), (g.0 ∙ f.0, g.1 ∙ f.1, g.2 ∙ f.2, g.3 ∙ f.3))

pub returns : goal.returns
returns c = let o = c.loop-t in let q : o.t ≡ 24 = omega arith in ((λ n k S. rw q at (o.invariant.4 n k S)), o.invariant.3, o.invariant.2, o.invariant.1, o.invariant.5)
