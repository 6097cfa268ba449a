-- The pages, then the commit page that is shown.
use mathlib.Core.Path.{ap₂, ◌∙◌}
use mathlib.Core.Bool.{Bool, ◌&&◌}
use Prim.Native.Nat.{ℕ, ◌+◌}
use native.Mathlib.Omega.{arith}
use borrow.Author.Rules.{rules}
use Rattle.laws.specs.Tests.{same}
use Rattle.leaf_commit_page.proofs.Places.{known_small, told_good, told_map}
use Rattle.leaf_commit_page.specs.Heard.{map_told}
use Rattle.sound_store.proofs.Calm.{room, first_page, emptied_by}
use Rattle.sound_store.proofs.is_emptied.Goals as goal

pub overflow_add-n : goal.overflow_add-n
overflow_add-n c = let h = (known_small _ c.requires.0).0 in search rules

pub overflow_add-n-2 : goal.overflow_add-n-2
overflow_add-n-2 c = let h = (known_small _ c.requires.0).0 in search rules

pub pages_whole-whole-requires : goal.pages_whole-whole-requires
pages_whole-whole-requires c =
    let a = c.args in
    let h = (known_small _ c.requires.0).0 in
    (omega arith, room a.tears (1 + (a.n + a.n)) c.requires.1)

pub get_page-requires : goal.get_page-requires
get_page-requires c =
    let a = c.args in
    (omega arith, first_page a.tears (a.n + a.n) c.requires.1)

pub read_commit-c-requires : goal.read_commit-c-requires
read_commit-c-requires c =
    c.requires.0

pub returns : goal.returns
unfolding same
returns c =
    let pages_whole = c.pages_whole-whole in
    λ g L.
    let a = c.args in
    let r = c.read_commit-c.result in
    ap₂ (λ (b : Bool) (m : ℕ). pages_whole.result && (b && same m 0)) (c.is_some-good.ensures ∙ told_good r) (c.unwrap_or-empty.ensures ∙ told_map r)
    ∙ emptied_by a.tears g a.n L.many a.store.now _ _ (map_told r) pages_whole.ensures c.get_page.ensures (c.read_commit-c.ensures.0 g L)
