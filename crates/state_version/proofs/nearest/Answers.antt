-- Where t is in w, the walk ends where it begins.
use mathlib.Core.Path.{sym, ap, ◌∙◌}
use Prim.Native.Nat.{ℕ}
use lib.ListN.{get_or}
use Rattle.laws.specs.Bits.{bits}
use Rattle.leaf_number.specs.Named.{transaction_of}
use Rattle.state_version.proofs.Walk.{walk_own, walk_told, walk_left}
use Rattle.state_version.proofs.nearest.Goals as goal

pub returns-then-contains : goal.returns-then-contains
returns-then-contains c =
    let number = c.number-n in
    let contains = c.contains in
    let own = walk_own _ _ c.requires c.args.w (transaction_of c.args.t) (record { at = number.result; left = get_or c.args.depth.now c.index.result 0 }) number.ensures.0 (ap (λ (i : ℕ). get_or c.args.depth.now i 0) c.index.ensures.0) (ap (bits c.args.w) (sym number.ensures.0) ∙ sym contains.ensures ∙ c.if-contains.true) in
    record {
      climbed = walk_told _ _ c.requires _ _ c.met.result _ c.met.ensures own;
      left = walk_left c.met.result _ c.met.ensures;
    }
