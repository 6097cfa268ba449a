-- By whether the two pages are the same.
use mathlib.Core.Path.{ap, ap₂, ◌∙◌}
use mathlib.Core.Bool.{not}
use Rattle.laws.specs.Bytes.{same_list}
use Rattle.audit_rules.specs.Audit.{same_page}
use Rattle.audit_verdict.proofs.Ending.{pointwise_is}
use Rattle.audit_verdict.proofs.differs.Goals as goal

pub returns : goal.returns
unfolding same_page
returns c = c.ne.ensures ∙ ap not (pointwise_is c.get_page.result c.get_page-2.result ∙ ap₂ same_list c.get_page.ensures c.get_page-2.ensures)
