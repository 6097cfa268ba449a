-- The parent inherits if it is told; else nothing changes.
use mathlib.Core.Path.{sym, ap, ◌∙◌}
use mathlib.Core.Bool.{Bool}
use Rattle.leaf_set.specs.Sets.{sets}
use Rattle.state_array.specs.Changes.{reporting}
use Rattle.state_lock.proofs.inherit_on_abort.Goals as goal

pub inherit-requires : goal.inherit-requires
inherit-requires c =
    (c.requires.0, c.requires.1 c.if-told.true, c.requires.2 ∙ sym c.requires.3)

pub returns-then-told : goal.returns-then-told
unfolding reporting
returns-then-told c =
    let if1 = c.if-told in
    let a = c.args in
    record {
      are = c.inherit.ensures.are ∙ sym (ap (λ (b : Bool). reporting b a.t a.p (sets a.held.now) (sets a.retained.now)) if1.true);
      long = c.inherit.ensures.long ∙ c.requires.3;
    }

pub returns-else-told : goal.returns-else-told
unfolding reporting
returns-else-told c =
    let a = c.args in
    record {
      are = sym (ap (λ (b : Bool). reporting b a.t a.p (sets a.held.now) (sets a.retained.now)) c.if-told.false);
      long = c.requires.3;
    }
