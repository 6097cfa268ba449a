-- Nothing for a commit; else what the store says.
use mathlib.Core.Path.{refl, sym}
use Rattle.laws.proofs.Booleans.{clash}
use Rattle.event_crash.proofs.Editions.{layout_of}
use Rattle.event_commit.proofs.reread.Goals as goal

pub returns-then-not-prepares-clause-reserves : goal.returns-then-not-prepares-clause-reserves
returns-then-not-prepares-clause-reserves g c = (λ edition N e. clash e (c.if-not-prepares.true), λ e. (refl, refl))

pub returns-clause-reserves : goal.returns-clause-reserves
returns-clause-reserves g c = (λ edition N e. sym (c.read_held-p.ensures.0 _ (layout_of edition _ _ _ N) N.two_phase), λ e. clash (c.if-not-prepares.false) e)
