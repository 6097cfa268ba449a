-- By whether it prepares.
use mathlib.Core.Bool.{true, false}
use Rattle.rules.specs.Editions.{medium_of}
use Rattle.event_commit.proofs.Commits.{settled_pages, whole_length, prepared_whole}
use Rattle.event_commit.specs.Settling.{settling_at}
use Rattle.event_commit.proofs.write_pages.Goals as goal

pub prepare_pages-requires : goal.prepare_pages-requires
prepare_pages-requires c =
    (c.requires.1 c.if-prepares.true, c.requires.3, whole_length c.args.tears _ _ (c.requires.2 c.if-prepares.true) c.requires.4, c.requires.5)

pub returns-then-prepares : goal.returns-then-prepares
unfolding settling_at
returns-then-prepares c =
    let if1 = c.if-prepares in
    λ g G. settled_pages (medium_of c.args.tears g) true _ _ _ _ _ _ _ _ if1.true (prepared_whole c.args.tears g _ _ _ _ _ _ _ (c.requires.2 if1.true) (c.prepare_pages.ensures g G))

pub commit_pages-requires : goal.commit_pages-requires
commit_pages-requires c =
    (c.requires.0, c.requires.3, c.requires.4, c.requires.5)

pub returns : goal.returns
unfolding settling_at
returns c =
    let if1 = c.if-prepares in
    λ g G. settled_pages (medium_of c.args.tears g) false _ _ _ _ _ _ _ _ if1.false (c.commit_pages.ensures g G)
