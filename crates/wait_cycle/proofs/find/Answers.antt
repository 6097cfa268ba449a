-- The core is empty, or a walk in it comes back.
use mathlib.Core.Path.{refl}
use native.Mathlib.Omega.{arith}
use borrow.Author.Rules.{rules}
use Rattle.laws.specs.Bits.{bits}
use Rattle.leaf_set.specs.Sets.{sets}
use Rattle.rules.specs.Waiting.{acyclic}
use Rattle.wait_cycle.specs.Search.{length_of}
use Rattle.wait_cycle.proofs.Cycling.{sets_small}
use Rattle.wait_cycle.proofs.Walking.{none_left, nothing_left, some_left, found_cycle}
use Rattle.wait_cycle.proofs.find.Goals as goal

pub returns-then-m-eq0 : goal.returns-then-m-eq0
unfolding length_of
returns-then-m-eq0 c =
    let k = c.core-m in
    let l = c.args.points.now in
    let h = c.requires in
    record {
      found = acyclic (none_left (sets l) (bits k.result) k.ensures (λ t u e. sets_small l t u h.0 e) (nothing_left k.result c.if-m-eq0.true)) refl refl;
      some = search rules;
    }

pub walk-w-requires : goal.walk-w-requires
walk-w-requires c = (c.core-m.ensures, some_left c.core-m.result c.if-m-eq0.false)

pub place_of-k-requires : goal.place_of-k-requires
place_of-k-requires c = let w = c.walk-w in (w.ensures.short, w.ensures.long, w.ensures.again)

pub show-requires : goal.show-requires
show-requires c =
    let w = c.walk-w in
    (c.place_of-k.ensures.0, w.ensures.short, w.ensures.long, c.requires.2)

pub returns : goal.returns
unfolding length_of
returns c =
    let w = c.walk-w in
    let k = c.place_of-k in
    let short = w.ensures.short in
    let below = k.ensures.0 in
    record {
      found = found_cycle (sets c.args.points.now) w.result.path _ w.result.n w.result.t k.result w.ensures k.ensures.0 k.ensures.1 c.show.ensures;
      some = omega arith;
    }
