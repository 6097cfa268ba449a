-- A map of 0 names nothing; so far nobody has a lock of the records that the map names.
use native.Mathlib.Omega.{arith}
use borrow.Author.Rules.{rules}
use Rattle.laws.specs.Tests.{same}
use Rattle.sound_clause.specs.Clauses.{UnlockedOf}
use Rattle.sound_clause.proofs.Decides.{decides-none, decides_more, decides_bound}
use Rattle.sound_clause.proofs.Clauses.{none_unlocked, unlocked_decided}
use Rattle.sound_up.proofs.are_unlocked.Goals as goal

pub returns-then-map-eq0 : goal.returns-then-map-eq0
returns-then-map-eq0 c = λ g e. let a = c.args in none_unlocked g a.map a.held.now a.retained.now c.if-map-eq0.true

pub loop-r-init : goal.loop-r-init
loop-r-init c = (search rules, λ g e. decides-none _)

pub loop-r-preserved : goal.loop-r-preserved
unfolding same
loop-r-preserved c =
    let a = c.args in
    let l = c.loop-r in (
      search rules,
      λ g e. decides_more (UnlockedOf g a.map a.held.now a.retained.now) l.r (l.invariant.1 g e)
          (unlocked_decided g a.map a.held.now a.retained.now l.r (c.names.ensures g e)),
    )

pub returns : goal.returns
returns c =
    λ g e. let a = c.args in let l = c.loop-r in
    decides_bound (UnlockedOf g a.map a.held.now a.retained.now) l.r 16 (omega arith) (l.invariant.1 g e)
