-- What is read of the page in both ways, joined.
use borrow.Author.Rules.{rules}
use mathlib.Core.Path.{◌≡◌, ap, ◌∙◌}
use Prim.Native.Nat.{ℕ, ◌^◌, ◌<◌}
use lib.Pow.{pow_pos}
use Rattle.std.specs.Prelude.{Some, None, IfSome}
use Rattle.std.specs.Option.{option_or}
use Rattle.std.specs.declared.option.Option.{Option as Answered}
use Rattle.leaf_commit_page.specs.Heard.{map_told}
use Rattle.leaf_commit_page.proofs.Places.{understood_is}
use Rattle.leaf_commit_page.proofs.read_page.Goals as goal

few : (n : ℕ) (o q : Answered ℕ) → (map_told o).map < 2 ^ n → IfSome q (λ (x : ℕ). x ≡ 0) → (map_told (option_or o q)).map < 2 ^ n
unfolding map_told
few n (Some m) q h z = h
few n None None h z = h
few n None (Some x) h z = rw z (pow_pos n)

pub returns : goal.returns
returns c =
    let zero : IfSome c.map.result (λ (x : ℕ). x ≡ 0) = search rules in (
      λ g L j.
          ap map_told c.or.ensures
          ∙ understood_is g c.args.page c.read_commit-c.result c.read_prepared-p.result c.map.result (c.read_commit-c.ensures.0 g L) (c.read_prepared-p.ensures.0 g L j)
          c.read_prepared-p.ensures.2 c.map.ensures.variant zero,
      rw c.or.ensures (few c.args.n c.read_commit-c.result c.map.result c.read_commit-c.ensures.1 zero),
    )
