-- What is left has every cycle, and falls until all of it is left.
use mathlib.Core.Path.{◌≡◌, sym, ap, subst, ◌∙◌}
use mathlib.Core.Bool.{Bool, true, false, not, ◌||◌}
use Prim.Native.Nat.{ℕ, ◌<◌}
use Rattle.laws.specs.Bits.{bits}
use Rattle.laws.specs.Counting.{all, count}
use Rattle.rules.specs.Geometry.{transactions}
use Rattle.leaf_set.specs.Sets.{sets}
use Rattle.wait_cycle.specs.Search.{goes_on, Holds}
use Rattle.wait_cycle.proofs.Cycling.{holds_first, holds_on, sets_small, fewer, closed_at}
use Rattle.wait_cycle.proofs.core.Goals as goal

pub kept-next-requires : goal.kept-next-requires
kept-next-requires c = c.requires.0

pub loop-m-init : goal.loop-m-init
loop-m-init c =
    (holds_first (sets c.args.points.now) (λ t u e. sets_small c.args.points.now t u c.requires.0 e), c.kept-next.ensures)

pub kept-next-requires-in-loop-m : goal.kept-next-requires-in-loop-m
kept-next-requires-in-loop-m c =
    c.requires.0

pub loop-m-smaller : goal.loop-m-smaller
loop-m-smaller c =
    let l = c.loop-m in
    let p = sets c.args.points.now in
    let e : all transactions (λ k. not (bits l.m k) || goes_on p (bits l.m) k) ≡ false =
    ap (λ (f : ℕ → Bool). all transactions (λ k. not (bits l.m k) || f k)) (sym l.invariant.1) ∙ sym c.within.ensures ∙ c.loop-m-test.true in
    subst (λ (f : ℕ → Bool). count transactions f < count transactions (bits l.m)) (sym l.invariant.1) (fewer p (bits l.m) e)

pub loop-m-preserved : goal.loop-m-preserved
loop-m-preserved c =
    let l = c.loop-m in
    let p = sets c.args.points.now in
    (subst (Holds p) (sym l.invariant.1) (holds_on p (bits l.m) c.requires.1 l.invariant.0), c.kept-next-in-loop-m.ensures)

pub returns : goal.returns
returns c =
    let l = c.loop-m in
    let p = sets c.args.points.now in
    let e : all transactions (λ k. not (bits l.m k) || goes_on p (bits l.m) k) ≡ true =
    ap (λ (f : ℕ → Bool). all transactions (λ k. not (bits l.m k) || f k)) (sym l.invariant.1) ∙ sym c.within.ensures ∙ c.loop-m-test.false in
    record { holds = l.invariant.0; closed = closed_at p (bits l.m) e }
