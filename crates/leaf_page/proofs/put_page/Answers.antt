-- The part that is lent is page n; what it leaves of the whole is the list with that page in its place.
use lib.ListN.{length}
use native.Mathlib.Omega.{arith}
use mathlib.Core.Path.{◌≡◌, ap, ◌∙◌}
use mathlib.Core.List.{List}
use Prim.Native.Nat.{ℕ, ◌*◌}
use Rattle.rules.specs.Store.{pages_of}
use Rattle.rules.proofs.Pages.{splice, pages_splice}
use Rattle.leaf_page.proofs.Pages.{put_at}
use borrow.Author.Rules.{rules}
use Rattle.leaf_page.proofs.put_page.Goals as goal

pub returns : goal.returns
unfolding splice
returns c =
    let a = c.args in
    let s = a.bytes.now in
    let sized : length a.page ≡ 32 = search rules in
    ap pages_of (put_at (32 * a.n) 32 s c.write_page.new.part ∙ ap (λ (p : List ℕ). splice a.n p s) c.write_page.ensures)
    ∙ pages_splice a.n a.page s sized (omega arith)
