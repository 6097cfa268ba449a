-- The walk goes up until it meets a writer or nobody is left; it has steps enough for any depth. Where there is no writer, nobody is left at once.
use mathlib.Core.Path.{refl, sym, ap, subst, ◌∙◌}
use Prim.Native.Nat.{ℕ, ◌-◌}
use native.Mathlib.Omega.{arith}
use lib.ListN.{get_or}
use borrow.Author.Rules.{rules}
use Rattle.state_version.specs.Parts.{Climbed}
use Rattle.state_array.proofs.View.{deep_below}
use Rattle.state_version.proofs.Walk.{walk_none, walk_empty, walk_more, walk-all, walk_told, walk_left}
use Rattle.state_version.proofs.source.Goals as goal

pub returns-then-w-eq0-clause-climbed : goal.returns-then-w-eq0-clause-climbed
returns-then-w-eq0-clause-climbed c = walk_empty _ _ c.requires _ _ _ c.if-w-eq0.true refl refl

pub loop-n-init : goal.loop-n-init
loop-n-init c =
    (search rules, walk_none _ _ c.requires _ _ _ refl (ap (λ (i : ℕ). get_or c.args.depth.now i 0) (c.index.ensures.0 ∙ sym c.number-start.ensures.0)))

pub one_up-c-requires : goal.one_up-c-requires
one_up-c-requires c =
    λ h. deep_below c.args.depth.now c.loop-n.c.at (c.loop-n.c.left - 1) (let k = c.loop-n.invariant.1.level in omega arith) c.requires.long

pub loop-n-preserved : goal.loop-n-preserved
loop-n-preserved c =
    let l = c.loop-n in
    let a = c.args in
    (search rules, walk_more _ _ c.requires a.w _ l.c _ l.n l.invariant.1 (omega arith) c.one_up-c.ensures)

pub returns : goal.returns
returns c =
    let number = c.number-start in
    let l = c.loop-n in
    let C = subst (λ (t : ℕ). Climbed c.args.parent.now c.args.depth.now c.args.w t l.c) number.ensures.0 (walk-all _ _ c.requires _ _ _ l.n (omega arith) l.invariant.1) in
    record {
      climbed = walk_told _ _ c.requires _ _ c.met.result l.c c.met.ensures C;
      left = walk_left c.met.result l.c c.met.ensures;
    }
