-- By computing: the kind's field of the word.
use mathlib.Core.Path.{refl}
use Rattle.laws.specs.Tests.{same, under}
use Rattle.rules.specs.Event.{fields, field}
use Rattle.audit_rules.specs.Audit.{is_two_phase}
use Rattle.audit_verdict.proofs.is_two_phase.Goals as goal

pub returns : goal.returns
unfolding is_two_phase fields field same under
returns c = refl
