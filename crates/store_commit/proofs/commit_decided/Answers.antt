-- `commit_decided` has the three phases of a decision to commit.
use Rattle.laws.specs.Tests.{same}
use Rattle.rules.specs.Store.{pages_of}
use Rattle.leaf_commit_page.proofs.Places.{known_small}
use Rattle.store_commit.proofs.Prepares.{decided_leaves}
use borrow.Author.Rules.{rules}
use Rattle.store_commit.proofs.commit_decided.Goals as goal

pub bring_all_home-b-requires : goal.bring_all_home-b-requires
bring_all_home-b-requires c =
    let few = (known_small c.args.n c.requires.0).0 in
    search rules

pub returns : goal.returns
unfolding same
returns c =
    let mark = c.mark-a in
    let bring_all_home = c.bring_all_home-b in
    let a = c.args in
    λ g L says.
    decided_leaves g a.n L.many a.map a.identity a.k (pages_of a.store.now) says
    (mark.ensures.0 g L)
    (bring_all_home.ensures.0 g L.many)
    (c.mark-c.ensures.0 g L)
