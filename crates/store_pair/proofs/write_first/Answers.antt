-- The first copy is lent and written.
use mathlib.Core.Path.{ap, ◌∙◌}
use mathlib.Core.List.{List, ◌++◌}
use Prim.Native.Nat.{ℕ}
use lib.ListN.{drop}
use Rattle.leaf_page.proofs.Pages.{put_at}
use Rattle.store_pair.proofs.Copies.{first_new}
use Rattle.store_pair.proofs.write_first.Goals as goal

pub returns : goal.returns
returns c =
    let a = c.args in
    let s = a.part.now in
    put_at 0 33 s c.write_copy.new.part ∙ ap (λ (p : List ℕ). p ++ drop 33 s) c.write_copy.ensures
    ∙ first_new s a.page c.requires
