-- The way from here ends where the way from i does.
use mathlib.Core.Path.{sym, ◌∙◌}
use native.Mathlib.Omega.{arith}
use Rattle.audit_link.specs.Links.{one_of, is_locks, entry_at, fate_in, passed_in, up_in}
use Rattle.audit_link.proofs.Ways.{rise_next, rise_end, rise_stop}
use Rattle.audit_link.proofs.Links.stands.Goals as goal

pub loop-left-smaller : goal.loop-left-smaller
unfolding one_of
loop-left-smaller c = let e = c.in-Some.ensures in omega (arith, e.1, e.2)

pub loop-left-preserved : goal.loop-left-preserved
unfolding one_of up_in passed_in fate_in
loop-left-preserved c =
    let s = c.args.self.now in
    let l = c.loop-left in
    let e = c.in-Some.ensures in
    (rise_next s.parent c.requires.1 (up_in s.fate (is_locks c.args.left)) l.at c.in-Some.up (sym c.goes_up.ensures ∙ c.loop-left-test.true) e.0 ∙ l.invariant.0, omega (arith, e.1, l.invariant.1))

pub returns-in-None : goal.returns-in-None
unfolding one_of up_in passed_in fate_in
returns-in-None c =
    let s = c.args.self.now in
    let l = c.loop-left in
    (rise_end s.parent c.requires.1 (up_in s.fate (is_locks c.args.left)) l.at (sym c.goes_up.ensures ∙ c.loop-left-test.true) c.in-None.ensures.0 ∙ l.invariant.0, omega arith)

pub returns : goal.returns
unfolding up_in passed_in fate_in
returns c =
    let s = c.args.self.now in
    let l = c.loop-left in
    (rise_stop (entry_at s.parent) (up_in s.fate (is_locks c.args.left)) l.at l.at (sym c.goes_up.ensures ∙ c.loop-left-test.false) ∙ l.invariant.0, l.invariant.1)
