-- So far the sets of each lock fit each other.
use native.Mathlib.Omega.{arith}
use borrow.Author.Rules.{rules}
use Rattle.laws.specs.Bits.{bits}
use Rattle.leaf_set.specs.Sets.{sets}
use Rattle.state_array.specs.View.{any_mode, write_mode}
use Rattle.sound_clause.specs.Clauses.{LockOf}
use Rattle.sound_clause.proofs.Decides.{decides-none, decides_more, decides_bound}
use Rattle.sound_state.proofs.are_locks.Goals as goal

pub loop-r-init : goal.loop-r-init
loop-r-init c = (search rules, decides-none _)

pub loop-r-preserved : goal.loop-r-preserved
unfolding sets any_mode write_mode
loop-r-preserved c =
    let a = c.args in
    let l = c.loop-r in
    (search rules, decides_more (LockOf (bits a.live) a.held.now a.retained.now a.writers.now) l.r l.invariant.1 c.is_lock-ok.ensures)

pub returns : goal.returns
returns c = let a = c.args in let l = c.loop-r in
    decides_bound (LockOf (bits a.live) a.held.now a.retained.now a.writers.now) l.r 16 (omega arith) l.invariant.1
