-- The commit page is page 0, as the store shows it.
use mathlib.Core.Path.{ap, subst⁻¹, ◌∙◌}
use Prim.Native.Nat.{◌<◌, ◌^◌}
use native.Mathlib.Omega.{arith}
use Rattle.rules.specs.Store.{read_prepared}
use Rattle.leaf_commit_page.specs.Heard.{overheard}
use Rattle.leaf_commit_page.specs.declared.PreparedMap.{PreparedMap}
use Rattle.store_commit.proofs.Room.{room}
use Rattle.leaf_commit_page.proofs.Places.{told_held}
use Rattle.store_commit.proofs.read_held.Goals as goal

pub get_page-requires : goal.get_page-requires
get_page-requires c =
    let a = c.args in
    (omega arith, room a.n a.store.now a.tears 0 (omega arith) c.requires.2)

pub returns : goal.returns
returns c =
    let e = c.unwrap_or.ensures ∙ told_held c.read_prepared-held.result in (
      λ g L j. e ∙ c.read_prepared-held.ensures.0 g L j ∙ ap (λ p. overheard (read_prepared g p)) c.get_page.ensures,
      subst⁻¹ (λ (p : PreparedMap). p.map < 2 ^ c.args.n) e c.read_prepared-held.ensures.1,
    )
