-- Rows of the auditor: verdicts at their edges, and the refusals in their order.
pub mod AuditTrials
