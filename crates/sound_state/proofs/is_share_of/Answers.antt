-- Who has nothing of the lock goes with all others; of another the clause is tested.
use mathlib.Core.Path.{sym, ◌∙◌}
use lib.Bits.{bit_or}
use Rattle.laws.specs.Bits.{bits}
use Rattle.laws.proofs.Tests.{or_false_left, or_false_right}
use Rattle.laws.proofs.Bits.{bits-or}
use Rattle.leaf_set.specs.Sets.{sets}
use Rattle.sound_clause.proofs.Decides.{decides-true}
use Rattle.sound_state.proofs.Beneath.{share_beneath, share_none}
use Rattle.sound_state.proofs.is_share_of.Goals as goal

pub returns-then-contains : goal.returns-then-contains
unfolding sets
returns-then-contains c = share_beneath c.beneath_of-beneath.ensures c.is_share.ensures

pub returns : goal.returns
returns c = let a = c.args in
    let none = sym (bits-or (bit_or a.held a.held_writing) a.retained a.t) ∙ sym c.contains.ensures ∙ c.if-contains.false in
    let held = sym (bits-or a.held a.held_writing a.t) ∙ or_false_left (bits (bit_or a.held a.held_writing) a.t) (bits a.retained a.t) none in
    decides-true (share_none
    (or_false_left (bits a.held a.t) (bits a.held_writing a.t) held)
    (or_false_right (bits a.held a.t) (bits a.held_writing a.t) held)
    (or_false_right (bits (bit_or a.held a.held_writing) a.t) (bits a.retained a.t) none))
