-- By the parent: a child ends as one that committed; a top one ends by its page writes, and a cut ends all.
use mathlib.Core.Path.{◌≡◌, refl, sym, ap, ◌∙◌}
use mathlib.Core.Bool.{Bool, true, false}
use native.Mathlib.Omega.{arith}
use lib.ListN.{get_or, length-set}
use Rattle.laws.specs.Tests.{under}
use Rattle.audit_link.specs.Links.{one_of}
use Rattle.audit_link.proofs.Ways.{some_is, none_is}
use Rattle.audit_bearer.specs.Tables.{tables, ledger_of}
use Rattle.audit_page.specs.Changed.{made_in, is_cut}
use Rattle.history.specs.Demand3.{settled_in}
use Rattle.rules.specs.Editions.{edition1}
use Rattle.audit_event.specs.Step.{open_answers}
use Rattle.audit_event.proofs.Commits.{commit_child, commit_top, commit_cut, matched_one, cut_fate, cut_over, cut_went, cut_low, cut_fated}
use Rattle.audit_event.proofs.Dones.{whole_cut, whole_is}
use Rattle.audit_bearer.proofs.Change.{cond_small}
use Rattle.audit_event.proofs.commit_event.Goals as goal

pub returns-then-is_some : goal.returns-then-is_some
unfolding tables ledger_of open_answers
returns-then-is_some c =
    λ room B R alone.
    let a = c.args in
    let s = a.tables.now in
    let list = a.list in
    let up = c.requires.6 in
    let q : get_or s.bearer a.t 0 ≡ a.me = R.bears in
    let e = c.end.ensures in
    let stay = e.2 in
    let child = some_is _ c.above.ensures.2 (sym c.is_some.ensures ∙ c.if-is_some.true) in
    rw (stay.0, stay.1, stay.2, stay.3, e.0, e.1, q, up) (commit_child (settled_in edition1 a.start.now) s.owner s.links.parent s.links.fate s.bearer list.events.now a.store.now s.begun list.n a.t a.me a.k (rw up at R) (rw up at B) room alone (λ z. child (c.above.ensures.0 ∙ z)))

pub end_within-requires : goal.end_within-requires
end_within-requires c =
    let s = c.args.tables.now in
    let e = c.end-2.ensures in
    let o = c.requires.1 in
    ((λ u. rw e.1 (cond_small true s.bearer c.args.t u 4097 (omega arith) (omega (arith, o.long, c.requires.5)) o.bearers)), rw e.1 (length-set s.bearer c.args.t 0 ∙ o.long), rw e.0 (length-set s.links.fate _ _ ∙ o.wide), rw e.2.1 o.earlier, tt)

pub returns-in-Cut : goal.returns-in-Cut
unfolding tables ledger_of open_answers one_of made_in is_cut
returns-in-Cut c =
    λ room B R alone.
    let a = c.args in
    let s = a.tables.now in
    let list = a.list in
    let start = settled_in edition1 a.start.now in
    let up = c.requires.6 in
    let top = sym c.above.ensures.0 ∙ none_is _ (sym c.is_some.ensures ∙ c.if-is_some.false) in
    let q : get_or s.bearer a.t 0 ≡ a.me = R.bears in
    let W = c.commit_writes-w.ensures s.bearer s.begun a.t q in
    let L = W.0 in
    let w = c.commit_writes-w.result in
    let cut : is_cut w.made ≡ true = ap is_cut c.in-Cut.is in
    let made : made_in w.made ≡ c.in-Cut.made = ap made_in c.in-Cut.is in
    let b : Bool = under w.ones (made_in w.made) in
    let new : c.fate_after.result ≡ cut_fate b = c.fate_after.ensures ∙ rw cut in
    let e = c.end-2.ensures in
    let stay = e.2 in
    let d = c.end_within.ensures in
    let rest = d.4 in
    let I = d.0 s.begun room (rw (e.0, e.1, q, new) (matched_one start s.owner s.links.parent s.links.fate s.bearer list.events.now a.store.now s.begun list.n a.t a.me a.k (rw up at R) (rw up at B) room alone (cut_fate b) (cut_low b))) in
    rw (rest.0, rest.1, rest.2, stay.0, stay.1, stay.2, up, ← made) (commit_cut start s.owner s.links.parent s.links.fate s.bearer list.events.now a.store.now s.begun list.n a.t a.me a.k (rw up at R) (rw up at B) room alone top (made_in w.made) (is_cut w.made) _ _ refl L.store L.made L.crashed cut (cut_fate b) (cut_over b) (cut_went b) (cut_low b) (cut_fated b ∙ rw W.1) (rw (e.0, e.1, stay.1, q, new) at I.0) I.1)

pub returns : goal.returns
unfolding tables ledger_of open_answers
returns c =
    λ room B R alone.
    let a = c.args in
    let s = a.tables.now in
    let list = a.list in
    let up = c.requires.6 in
    let top = sym c.above.ensures.0 ∙ none_is _ (sym c.is_some.ensures ∙ c.if-is_some.false) in
    let q : get_or s.bearer a.t 0 ≡ a.me = R.bears in
    let W = c.commit_writes-w.ensures s.bearer s.begun a.t q in
    let L = W.0 in
    let w = c.commit_writes-w.result in
    let whole : is_cut w.made ≡ false = whole_cut w.made c.in_default.not-Cut in
    let new : c.fate_after.result ≡ 3 = c.fate_after.ensures ∙ rw whole in
    let e = c.end-2.ensures in
    let stay = e.2 in
    rw (whole_is w.made c.in_default.not-Cut, stay.0, stay.1, stay.2, stay.3, e.0, e.1, q, new, up) (commit_top (settled_in edition1 a.start.now) s.owner s.links.parent s.links.fate s.bearer list.events.now a.store.now s.begun list.n a.t a.me a.k (rw up at R) (rw up at B) room alone top (made_in w.made) (is_cut w.made) _ _ refl L.store L.made L.crashed whole)
