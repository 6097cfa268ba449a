-- `settled_page` takes the intention page where the map in force names the record, else the home page.
use Rattle.leaf_commit_page.proofs.Places.{layout1, told_map}
use Rattle.rules.specs.Editions.{geometry1}
use mathlib.Core.Path.{sym, ◌∙◌}
use mathlib.Core.Bool.{true, false}
use Rattle.rules.specs.Store.{pages_of}
use Rattle.audit_page.proofs.Settled.{map-said, settled_is}
use Rattle.audit_page.proofs.settled_page.Goals as goal

pub returns-then-names : goal.returns-then-names
returns-then-names c =
    let a = c.args in
    let m = c.unwrap_or-map.ensures ∙ told_map c.read_map.result ∙ map-said (pages_of a.store.now 0) c.read_map.ensures in
    c.get_page.ensures ∙ sym (settled_is a.store.now a.r c.unwrap_or-map.result true c.requires.1 m (sym (c.names.ensures geometry1 layout1.many) ∙ c.if-names.true))

pub returns : goal.returns
returns c =
    let a = c.args in
    let m = c.unwrap_or-map.ensures ∙ told_map c.read_map.result ∙ map-said (pages_of a.store.now 0) c.read_map.ensures in
    c.get_page-2.ensures ∙ sym (settled_is a.store.now a.r c.unwrap_or-map.result false c.requires.1 m (sym (c.names.ensures geometry1 layout1.many) ∙ c.if-names.false))
