-- Refused over a damaged commit page; else by its page writes, and a cut ends all.
use Rattle.audit_page.proofs.Settled.{map-said}
use mathlib.Core.Path.{◌≡◌, refl, sym, ap, ◌∙◌}
use mathlib.Core.Bool.{true, false}
use Rattle.leaf_commit_page.specs.Heard.{map_told}
use Rattle.audit_link.specs.Links.{one_of}
use Rattle.audit_bearer.specs.Tables.{tables}
use Rattle.audit_page.specs.Changed.{made_in, is_cut}
use Rattle.rules.specs.Store.{pages_of}
use Rattle.audit_event.specs.Step.{open_answers}
use Rattle.audit_event.proofs.Recovers.{good_said, recover_4, recover_0, recover_cut}
use Rattle.audit_event.proofs.Dones.{whole_cut, whole_is}
use Rattle.audit_event.proofs.recover_event.Goals as goal

pub returns-in_default : goal.returns-in_default
unfolding tables open_answers map_told
returns-in_default c =
    λ start events n room B.
    let a = c.args in
    let s = a.tables.now in
    let up = c.requires.2 in
    let said = ap map_told (sym c.in_default.is) ∙ c.read_map.ensures in
    let g = good_said (pages_of a.store.now) said in
    rw up (recover_4 start s.owner s.links.parent s.links.fate s.bearer events a.store.now s.begun n a.k (rw up at B) false g refl)

pub recover_writes-m-requires : goal.recover_writes-m-requires
unfolding map_told
recover_writes-m-requires c =
    let said = ap map_told (sym c.in-Some.is) ∙ c.read_map.ensures in
    (c.requires.0, sym (map-said (pages_of c.args.store.now 0) said))

pub end_within-requires : goal.end_within-requires
end_within-requires c = let t = c.requires.1 in (t.bearers, t.long, t.wide, t.earlier, tt)

pub returns-in-Cut : goal.returns-in-Cut
unfolding tables open_answers one_of made_in is_cut map_told
returns-in-Cut c =
    λ start events n room B.
    let a = c.args in
    let s = a.tables.now in
    let up = c.requires.2 in
    let said = ap map_told (sym c.in-Some.is) ∙ c.read_map.ensures in
    let g = good_said (pages_of a.store.now) said in
    let m = c.recover_writes-m.result in
    let cut : is_cut m ≡ true = ap is_cut c.in-Cut.is in
    let made : made_in m ≡ c.in-Cut.made = ap made_in c.in-Cut.is in
    let L = c.recover_writes-m.ensures in
    let d = c.end_within.ensures in
    let rest = d.4 in
    let I = d.0 s.begun room B.consistent.matched in
    rw (rest.0, rest.1, rest.2, rest.3, up, ← made) (recover_cut start s.owner s.links.parent s.links.fate s.bearer events a.store.now s.begun n a.k (rw up at B) true g refl (made_in m) (is_cut m) _ L.store L.made L.crashed cut I.0 I.1)

pub returns : goal.returns
unfolding tables open_answers map_told
returns c =
    λ start events n room B.
    let a = c.args in
    let s = a.tables.now in
    let up = c.requires.2 in
    let said = ap map_told (sym c.in-Some.is) ∙ c.read_map.ensures in
    let g = good_said (pages_of a.store.now) said in
    let m = c.recover_writes-m.result in
    let L = c.recover_writes-m.ensures in
    rw (whole_is m c.in_default-m.not-Cut, up) (recover_0 start s.owner s.links.parent s.links.fate s.bearer events a.store.now s.begun n a.k (rw up at B) true g refl (made_in m) (is_cut m) _ L.store L.made L.crashed (whole_cut m c.in_default-m.not-Cut))
