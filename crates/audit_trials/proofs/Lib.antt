-- Every row holds, by computing.
pub mod AuditTrials
