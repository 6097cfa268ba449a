-- The page is that of the map that stands in it, or it is damaged.
use mathlib.Core.Path.{◌≡◌, ap, subst, subst⁻¹, ◌∙◌}
use mathlib.Core.Bool.{Bool, true, false}
use Prim.Native.Nat.{ℕ, ◌<◌, ◌^◌}
use lib.Pow.{pow_pos}
use Rattle.std.specs.Bool.{then_some}
use Rattle.std.specs.declared.option.Option.{Option as Answered}
use Rattle.laws.specs.Bytes.{same_list}
use Rattle.rules.specs.Store.{commit_page}
use Rattle.leaf_commit_page.specs.Heard.{map_told}
use Rattle.leaf_commit_page.proofs.Places.{known_power, read_said, same_pages}
use Rattle.leaf_commit_page.proofs.read_commit.Goals as goal

few : (m n : ℕ) (b : Bool) → m < 2 ^ n → (map_told (then_some b m)).map < 2 ^ n
unfolding map_told
few m n true h = h
few m n false h = pow_pos n

pub returns : goal.returns
returns c =
    let map_in = c.map_in-map in
    let a = c.args in
    let K = c.requires in
    let m = map_in.result in
    let small : m < 2 ^ a.n = subst (λ (k : ℕ). m < k) (known_power a.n K) map_in.ensures.1 in (
      λ g L.
          let e : c.eq-good.result ≡ same_list a.page (commit_page g m) = c.eq-good.ensures ∙ same_pages _ _ ∙ ap (same_list a.page) (c.commit_page.ensures g L) in
          ap map_told (c.then_some.ensures ∙ ap (λ (b : Bool). then_some b m) e) ∙ read_said g a.n L K a.page m map_in.ensures.0 small,
      subst⁻¹ (λ (r : Answered ℕ). (map_told r).map < 2 ^ a.n) c.then_some.ensures (few m a.n c.eq-good.result small),
    )
