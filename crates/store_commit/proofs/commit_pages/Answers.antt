-- `commit_pages` has the four phases of a commit, each with what the one before it left of the cut; without versions it writes nothing.
use borrow.Author.Rules.{rules}
use Rattle.leaf_commit_page.proofs.Places.{known_small}
use Rattle.store_write.specs.Phase.{store_of}
use Rattle.store_commit.specs.Phase.{top_slot, versions_in}
use Rattle.store_commit.proofs.Plans.{slots_are, commit_none, commit_leaves, by_commit, told}
use Rattle.store_commit.proofs.commit_pages.Goals as goal

pub returns-then-map-eq0 : goal.returns-then-map-eq0
returns-then-map-eq0 c =
    let a = c.args in
    λ g L.
    by_commit a.tears g a.store.now a.store.now (versions_in g a.map a.work.now) a.k 0 _
    (commit_none g a.n L.many a.map (versions_in g a.map a.work.now) (top_slot a.work.now) (slots_are g a.n L.many a.map a.work.now)
    a.tears (store_of a.tears a.store.now) a.k c.if-map-eq0.true)

pub write_versions-a-requires : goal.write_versions-a-requires
write_versions-a-requires c =
    let few = (known_small c.args.n c.requires.0).0 in
    search rules

pub write_versions-c-requires : goal.write_versions-c-requires
write_versions-c-requires c =
    let few = (known_small c.args.n c.requires.0).0 in
    search rules

pub returns : goal.returns
returns c =
    let if1 = c.if-map-eq0 in
    let write_versions = c.write_versions-a in
    let mark = c.mark-b in
    let write_versions2 = c.write_versions-c in
    let mark2 = c.mark-d in
    let a = c.args in
    λ g L.
    by_commit a.tears g a.store.now mark2.new.store (versions_in g a.map a.work.now) a.k _ _
    (told c.made.ensures c.is_cut.ensures
    (commit_leaves g a.n L.many a.map (versions_in g a.map a.work.now) (top_slot a.work.now) (slots_are g a.n L.many a.map a.work.now)
    c.requires.1 if1.false (write_versions.ensures.0 g L.many) (mark.ensures.0 g L) (write_versions2.ensures.0 g L.many) (mark2.ensures.0 g L)))
