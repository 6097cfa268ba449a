-- The word at k is the one that the history decodes.
use Rattle.rules.specs.Event.{decode}
use Rattle.rules.specs.Editions.{geometry1}
use mathlib.Core.Path.{sym, ap, ◌∙◌}
use Rattle.audit_scan.specs.Scans.{event_in_bytes}
use Rattle.audit_scan.proofs.Listed.event_at.Goals as goal

pub returns : goal.returns
unfolding event_in_bytes
returns c = (ap (decode geometry1) (sym c.word_at.ensures) ∙ c.of_word.ensures.0, c.of_word.ensures.1)
