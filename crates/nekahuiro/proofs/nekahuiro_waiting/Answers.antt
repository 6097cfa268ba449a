-- The rows that are lent are copied; what is reported of the copy is reported of them.
use Rattle.std.proofs.Common.{subst}
use Rattle.wait_row.specs.declared.Rows.{Rows}
use Rattle.wait_report.specs.Reported.{ReportedCopied}
use Rattle.wait_report.proofs.Reporting.{reported}
use Rattle.nekahuiro.proofs.nekahuiro_waiting.Goals as goal

pub returns : goal.returns
returns c =
    let told = c.report_of-told.result in
    reported c.args.state.now c.args.rows.now c.args.ring.now told.ring told.number c.copied-list.ensures.1
    (subst (λ (k : Rows). ReportedCopied c.args.state.now k c.args.ring.now told.number told.ring) c.copied-list.ensures.0 c.report_of-told.ensures)
