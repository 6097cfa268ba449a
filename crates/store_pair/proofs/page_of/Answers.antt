-- The page lies behind the status byte.
use mathlib.Core.Path.{◌∙◌}
use Prim.Native.Nat.{◌+◌, ◌-◌}
use native.Mathlib.Omega.{arith}
use lib.ListN.{drop}
use lib.Seq.{take-take}
use Rattle.rules.specs.Store.{pages_of}
use Rattle.store_pair.proofs.page_of.Goals as goal

pub returns : goal.returns
unfolding pages_of
returns c =
    let a = c.args in
    c.get_page.ensures ∙ take-take 32 (a.at + 33 - (a.at + 1)) (drop (a.at + 1) a.bytes.now) (omega arith)
