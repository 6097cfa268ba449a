-- The first copy, then the second.
use borrow.Author.Rules.{rules}
use mathlib.Core.Path.{◌≡◌, ap₂, ◌∙◌}
use mathlib.Core.List.{List, ◌++◌}
use Prim.Native.Nat.{ℕ}
use lib.ListN.{length, take, drop}
use Rattle.leaf_page.proofs.Pages.{put_at}
use Rattle.store_pair.proofs.Copies.{second_new}
use Rattle.store_pair.proofs.write_pair.Goals as goal

pub returns : goal.returns
returns c =
    let write_first_lem = c.write_first in
    let a = c.args in
    let s = a.part.now in
    let sized : length a.page ≡ 32 = search rules in
    let t = write_first_lem.new.part in
    put_at 33 33 t c.write_copy.new.part
    ∙ ap₂ (λ (t p : List ℕ). take 33 t ++ (p ++ drop 66 t)) write_first_lem.ensures c.write_copy.ensures
    ∙ second_new s a.page sized c.requires
