-- 1 where the test holds, else 0.
use mathlib.Core.Path.{ap}
use mathlib.Core.Bool.{Bool}
use mathlib.Core.Bool.{cond}
use Rattle.rules.specs.Editions.{geometry_of}
use Rattle.event_decision.proofs.Decisions.{query_steps}
use Rattle.event_decision.proofs.query_event.Goals as goal

pub returns-then-is_for : goal.returns-then-is_for
returns-then-is_for c = λ edition tears x I u H. query_steps tears (geometry_of edition) x I u _ _ _ H _ c.is_for.ensures 1 (ap (λ (b : Bool). cond b 1 0) c.if-is_for.true)

pub returns : goal.returns
returns c = λ edition tears x I u H. query_steps tears (geometry_of edition) x I u _ _ _ H _ c.is_for.ensures 0 (ap (λ (b : Bool). cond b 1 0) c.if-is_for.false)
