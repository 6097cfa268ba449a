-- Some bit of the 24 low ones of what both sets have is set exactly if the remainder by 2 ^ 24 isn't 0.
use mathlib.Core.Path.{sym, ap, ap₂, ◌∙◌, fun_ext}
use mathlib.Core.Bool.{◌&&◌}
use lib.ListN.{get_or}
use lib.Bits.{bit_and}
use Rattle.laws.specs.Tests.{same}
use Rattle.laws.specs.Counting.{any}
use Rattle.laws.proofs.Bits.{bits-and}
use Rattle.laws.proofs.Lowest.{any_low}
use Rattle.leaf_set.specs.Sets.{sets}
use Rattle.wait_cycle.specs.Search.{goes_on}
use Rattle.wait_cycle.proofs.goes_on.Goals as goal

pub returns : goal.returns
unfolding goes_on sets same
returns c =
    let a = c.args in
    let w = get_or a.points.now a.t 0 in
    ap₂ ◌&&◌ c.contains.ensures (sym (any_low 24 (bit_and w a.m)) ∙ ap (any 24) (fun_ext (λ u. bits-and w a.m u)))
