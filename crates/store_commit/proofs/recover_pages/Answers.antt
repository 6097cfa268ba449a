-- `recover_pages` mends, and has the two phases of a recovery; over an empty commit page it writes nothing more.
use borrow.Author.Rules.{rules}
use native.Mathlib.Omega.{arith}
use lib.Pow.{pow_pos}
use Rattle.leaf_commit_page.proofs.Places.{known_small}
use Rattle.store_write.specs.Phase.{store_of}
use Rattle.store_commit.proofs.Room.{all_room}
use Rattle.store_commit.proofs.Plans.{recover_none, recover_leaves, by_recovery, told}
use Rattle.store_commit.proofs.recover_pages.Goals as goal

pub overflow_add-n : goal.overflow_add-n
overflow_add-n c =
    let few = (known_small c.args.n c.requires.0).0 in
    search rules

pub overflow_add-n-2 : goal.overflow_add-n-2
overflow_add-n-2 c =
    let few = (known_small c.args.n c.requires.0).0 in
    search rules

pub mend-requires : goal.mend-requires
mend-requires c =
    let a = c.args in
    let few = (known_small a.n c.requires.0).0 in
    (omega arith, all_room a.n a.store.now a.tears c.requires.1)

pub returns-then-map-eq0 : goal.returns-then-map-eq0
returns-then-map-eq0 c =
    let mend = c.mend in
    let a = c.args in
    λ g L says.
    by_recovery a.tears g a.store.now mend.new.store a.k 0 _
    (recover_none g a.n L.many a.tears a.map a.k (store_of a.tears a.store.now) says mend.ensures c.if-map-eq0.true)

pub bring_all_home-a-requires : goal.bring_all_home-a-requires
bring_all_home-a-requires c =
    let few = (known_small c.args.n c.requires.0).0 in
    search rules

pub mark-b-requires : goal.mark-b-requires
mark-b-requires c =
    (c.requires.0, pow_pos c.args.n, search rules)

pub returns : goal.returns
returns c =
    let mend = c.mend in
    let if1 = c.if-map-eq0 in
    let bring_all_home = c.bring_all_home-a in
    let mark = c.mark-b in
    let a = c.args in
    λ g L says.
    by_recovery a.tears g a.store.now mark.new.store a.k _ _
    (told c.made.ensures c.is_cut.ensures
    (recover_leaves g a.n L.many a.tears a.map a.k (store_of a.tears a.store.now) says mend.ensures if1.false
    (bring_all_home.ensures.0 g L.many) (mark.ensures.0 g L)))
