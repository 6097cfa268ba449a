-- `prepare_pages` has the two phases of a prepare; without versions it writes nothing.
use mathlib.Core.Path.{subst}
use Prim.Native.Nat.{ℕ, ◌^◌, ◌<◌}
use Rattle.laws.specs.Tests.{same}
use Rattle.rules.specs.Store.{pages_of}
use Rattle.leaf_commit_page.specs.Layout.{Layout}
use Rattle.store_commit.proofs.Prepares.{prepare_none, prepare_leaves}
use borrow.Author.Rules.{rules}
use Rattle.store_commit.proofs.prepare_pages.Goals as goal

pub returns-then-map-eq0 : goal.returns-then-map-eq0
returns-then-map-eq0 c =
    let a = c.args in
    λ g L. prepare_none g a.n L.many a.map a.work.now a.identity (pages_of a.store.now) a.count c.if-map-eq0.true

pub mark_prepared-b-requires : goal.mark_prepared-b-requires
mark_prepared-b-requires c =
    (subst (λ (k : ℕ). c.args.map < 2 ^ k) c.requires.0 c.requires.1, search rules)

pub returns : goal.returns
unfolding same
returns c =
    let if1 = c.if-map-eq0 in
    let write_versions = c.write_versions-a in
    let a = c.args in
    λ g L.
    prepare_leaves g a.n L.many a.map a.work.now a.identity c.requires.1 if1.false
    (write_versions.ensures.0 g L.many)
    (c.mark_prepared-b.ensures.0 g (subst (Layout g) c.requires.0 L))
