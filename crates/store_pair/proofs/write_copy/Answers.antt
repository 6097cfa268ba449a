-- The page behind the status byte, then the status.
use mathlib.Core.Path.{ap, ◌∙◌}
use mathlib.Core.List.{List, ◌++◌}
use Prim.Native.Nat.{ℕ}
use lib.ListN.{take, drop, set}
use Rattle.leaf_page.proofs.Pages.{put_at}
use Rattle.store_pair.proofs.Copies.{copy_set}
use Rattle.store_pair.proofs.write_copy.Goals as goal

pub returns : goal.returns
returns c =
    let a = c.args in
    let s = a.part.now in
    ap (λ (l : List ℕ). set l 0 1) (put_at 1 32 s c.write_page.new.part ∙ ap (λ (p : List ℕ). take 1 s ++ (p ++ drop 33 s)) c.write_page.ensures)
    ∙ copy_set s a.page c.requires
