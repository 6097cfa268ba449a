-- What the commit page says, as the store shows it, and whether every page has a good copy.
use borrow.Author.Rules.{rules}
use mathlib.Core.Path.{ap, subst⁻¹, ◌∙◌}
use mathlib.Core.Bool.{not, ◌&&◌}
use Prim.Native.Nat.{ℕ, ◌<◌, ◌^◌}
use Rattle.leaf_commit_page.proofs.Places.{known_small, told_good, told_map}
use Rattle.leaf_commit_page.specs.Heard.{understood, map_told}
use Rattle.store_write.specs.Phase.{store_of}
use native.Mathlib.Omega.{arith}
use Rattle.store_commit.proofs.Room.{room, no_more}
use Rattle.store_commit.proofs.Understood.{understood_is}
use Rattle.store_commit.proofs.read_map.Goals as goal

pub get_page-requires : goal.get_page-requires
get_page-requires c =
    let a = c.args in
    (omega arith, room a.n a.store.now a.tears 0 (omega arith) c.requires.2)

pub overflow_add-n : goal.overflow_add-n
overflow_add-n c =
    let few = (known_small c.args.n c.requires.0).0 in
    search rules

pub overflow_add-n-2 : goal.overflow_add-n-2
overflow_add-n-2 c =
    let few = (known_small c.args.n c.requires.0).0 in
    search rules

pub any_lost-requires : goal.any_lost-requires
any_lost-requires c =
    let a = c.args in
    let few = (known_small a.n c.requires.0).0 in
    (omega arith, no_more a.n a.store.now a.tears c.requires.2)

pub returns : goal.returns
returns c =
    let a = c.args in
    let r = c.read_page-c.result in
    let good = c.is_some.ensures ∙ told_good r in
    let map = c.unwrap_or.ensures ∙ told_map r in (
      λ g L j.
          (λ i. record { good = not c.any_lost.result && good i; map = map i })
          ∙ understood_is g a.n L.many a.tears (store_of a.tears a.store.now) (map_told r) _ c.any_lost.ensures
          (c.read_page-c.ensures.0 g L j ∙ ap (understood g) c.get_page.ensures),
      subst⁻¹ (λ (k : ℕ). k < 2 ^ a.n) map c.read_page-c.ensures.1,
    )
